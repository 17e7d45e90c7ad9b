-- An answer stored as words, and the refusal read back. Assumes nothing.
use Prim.Native.Nat.{ℕ, suc, ◌+◌, ◌*◌, ◌^◌, ◌≤◌, ◌<◌}
use native.Mathlib.Numerals.{add-one}
use native.Mathlib.Omega.{arith}
use mathlib.Core.Path.{◌≡◌, ap, ◌∙◌}
use mathlib.Core.Bool.{◌&&◌}
use mathlib.Core.List.{List, [], ◌∷◌}
use lib.Dec.{eqb}
use lib.ListN.{length}
use Rattle.words.specs.Word.{set_word, set_words, word}
use Rattle.words.proofs.Laws.{length-set_word, word_other, word_same}
use Rattle.region.specs.Refusal.{number_of}
use Rattle.region.specs.Answer.{answer_words}
use Rattle.region.specs.declared.answer.Answer.{Answer}
use Rattle.region.specs.declared.answer.Answer.TheVariants.{Moved, Idle as Rests, Inserted, Took, Empty, Refused, Withdrawn}
use Rattle.region.proofs.Refusals.{number_most}
use Rattle.script.specs.declared.printing.Outcome.TheVariants.{Answered}
use Rattle.cut.specs.Shown.{is_refusal}
use Rattle.cut.specs.Inner.{refused_at}

module _ (n : ℕ) (a : List ℕ) (k : ℕ) (room : 12 * k + 12 ≤ length a) where
  code_stored : (c key tag : ℕ) → c < 2 ^ 32 → word (set_words a (3 * k) (c ∷ key ∷ tag ∷ [])) (3 * k) ≡ c
  code_stored c key tag h =
      word_other (set_word (set_word a (3 * k) c) (suc (3 * k)) key) (suc (suc (3 * k))) (3 * k) tag (omega arith)
      ∙ word_other (set_word a (3 * k) c) (suc (3 * k)) (3 * k) key (omega arith)
      ∙ word_same a (3 * k) c (omega arith) h

  key_stored : (c key tag : ℕ) → key < 2 ^ 32 → word (set_words a (3 * k) (c ∷ key ∷ tag ∷ [])) (3 * k + 1) ≡ key
  key_stored c key tag h =
      ap (word (set_words a (3 * k) (c ∷ key ∷ tag ∷ []))) (add-one (3 * k))
      ∙ word_other (set_word (set_word a (3 * k) c) (suc (3 * k)) key) (suc (suc (3 * k))) (suc (3 * k)) tag (omega arith)
      ∙ word_same (set_word a (3 * k) c) (suc (3 * k)) key (omega (arith, length-set_word a (3 * k) c)) h

  coded : (c key tag : ℕ) → c < 2 ^ 32 → refused_at n (set_words a (3 * k) (c ∷ key ∷ tag ∷ [])) k
      ≡ (eqb c 5 && eqb (word (set_words a (3 * k) (c ∷ key ∷ tag ∷ [])) (3 * k + 1)) n)
  unfolding refused_at
  coded c key tag h =
      ap (λ w. eqb w 5 && eqb (word (set_words a (3 * k) (c ∷ key ∷ tag ∷ [])) (3 * k + 1)) n) (code_stored c key tag h)

  pub stored_refusal : (x : Answer) → refused_at n (set_words a (3 * k) (answer_words x)) k ≡ is_refusal n (Answered x)
  stored_refusal Moved = coded 0 0 0 (omega arith)
  stored_refusal Rests = coded 1 0 0 (omega arith)
  stored_refusal Inserted = coded 2 0 0 (omega arith)
  stored_refusal (Took i) = coded 3 i.key i.tag (omega arith)
  stored_refusal Empty = coded 4 0 0 (omega arith)
  stored_refusal (Refused m) =
      coded 5 (number_of m) 0 (omega arith) ∙ ap (λ w. eqb w n) (key_stored 5 (number_of m) 0 (omega (arith, number_most m)))
  stored_refusal Withdrawn = coded 6 0 0 (omega arith)
