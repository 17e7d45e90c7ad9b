-- A line of the output, field by field, and the room that it takes. Assumes nothing.
use Prim.Native.Nat.{ℕ, ◌+◌, ◌≤◌}
use native.Mathlib.Omega.{arith}
use mathlib.Core.Path.{◌≡◌, ap, subst}
use mathlib.Core.List.{List}
use lib.ListN.{length, length-append}
use Rattle.region.specs.declared.answer.Answer.{Answer}
use Rattle.region.specs.declared.answer.Answer.TheVariants.{Moved, Idle, Inserted, Took, Empty, Refused, Withdrawn}
use Rattle.script.specs.Inner.{Appends}
use Rattle.script.specs.Printing.{answer_word, line_text, number_text, outcome_key, outcome_tag, outcome_text, outcome_word}
use Rattle.script.specs.declared.printing.Outcome.{Outcome}
use Rattle.script.specs.declared.printing.Outcome.TheVariants.{Begun, Set, Answered, Unreadable}
use Rattle.script.specs.declared.text.Text.{Text}
use Rattle.script.proofs.Decimals.{decimal_most, number_most}
use Rattle.script.proofs.Texts.{appends_length, appends_more}

answer_most : (a : Answer) → length (answer_word a) ≤ 11
answer_most Moved = omega arith
answer_most Idle = omega arith
answer_most Inserted = omega arith
answer_most (Took i) = omega arith
answer_most Empty = omega arith
answer_most (Refused n) = omega arith
answer_most Withdrawn = omega arith

word_most : (o : Outcome) → length (outcome_word o) ≤ 11
word_most Begun = omega arith
word_most Set = omega arith
word_most (Answered a) = answer_most a
word_most Unreadable = omega arith

-- A line, piece by piece.
module _ (t₀ : Text) (room : t₀.len + 55 ≤ length t₀.out.now) (line : ℕ) {t₁ : Text} (w₁ : Appends t₀ t₁ (number_text line 32)) where
  pub thread_room : t₁.len + 11 ≤ length t₁.out.now
  thread_room = omega (arith, room, number_most line 32, w₁.wrote.next, appends_length w₁)

  module _ (thread : ℕ) {t₂ : Text} (w₂ : Appends t₁ t₂ (number_text thread 32)) where
    left₂ : t₂.len + 33 ≤ length t₂.out.now
    left₂ =
        omega
        (arith, room, number_most line 32, w₁.wrote.next, appends_length w₁, number_most thread 32, w₂.wrote.next, appends_length w₂)

    module _ (o : Outcome) (word : List ℕ) (ew : word ≡ outcome_word o) where
      word_long : length word ≤ 11
      word_long = omega (arith, word_most o, ap length ew)

      pub word_room : t₂.len + length word ≤ length t₂.out.now
      word_room = omega (arith, left₂, word_long)

      module _ {t₃ : Text} (w₃ : Appends t₂ t₃ word) where
        pub key_room : t₃.len + 11 ≤ length t₃.out.now
        key_room = omega (arith, left₂, word_long, w₃.wrote.next, appends_length w₃)

        module _ (key : ℕ) (ek : key ≡ outcome_key o) {t₄ : Text} (w₄ : Appends t₃ t₄ (number_text key 32)) where
          pub tag_room : t₄.len + 11 ≤ length t₄.out.now
          tag_room =
              omega
              (arith, left₂, word_long, w₃.wrote.next, appends_length w₃, number_most key 32, w₄.wrote.next, appends_length w₄)

          pub line_appended : (tag : ℕ) → tag ≡ outcome_tag o → {t₅ : Text} → Appends t₄ t₅ (number_text tag 10)
              → Appends t₀ t₅ (line_text line thread o)
          unfolding line_text outcome_text
          line_appended tag et {t₅} w₅ =
              appends_more
              w₁
              (appends_more
              w₂
              (appends_more
              (subst (Appends t₂ t₃) ew w₃)
              (appends_more
              (subst (λ n. Appends t₃ t₄ (number_text n 32)) ek w₄)
              (subst (λ n. Appends t₄ t₅ (number_text n 10)) et w₅))))

pub line_most : (line thread : ℕ) (o : Outcome) → length (line_text line thread o) ≤ 55
unfolding line_text
line_most line thread o =
    simp length-append
    (omega (arith, decimal_most line, decimal_most thread, word_most o, decimal_most (outcome_key o), decimal_most (outcome_tag o)))
