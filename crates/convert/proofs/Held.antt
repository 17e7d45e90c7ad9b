-- Words that stand in a row: what a store of several words leaves, part by part. Assumes nothing.
use Prim.Native.Nat.{ℕ, zero, suc, ◌+◌, ◌*◌, ◌^◌, ◌≤◌, ◌<◌}
use native.Mathlib.Nat.{add-zero}
use native.Mathlib.Omega.{arith}
use mathlib.Core.Path.{◌≡◌, refl, sym, ap, subst, ◌∙◌}
use mathlib.Core.Bool.{true}
use mathlib.Core.List.{List, [], ◌∷◌, ◌++◌}
use mathlib.Core.Logic.{inl}
use borrow.Author.Tests.{leb-true}
use lib.Dec.{leb}
use lib.ListN.{length, get_or}
use Rattle.words.specs.Inner.{Fit}
use Rattle.words.specs.Word.{word, set_word, words_at, set_words}
use Rattle.words.proofs.Laws.{length-set_word, word_apart, word_same}
use Rattle.region.proofs.Threads.{fit_both}
use Rattle.region.proofs.Shapes.{and_left, and_right}
use Rattle.readable.specs.Readable.{bounded}
use Rattle.readable.proofs.Stores.{AllLe}
use Rattle.convert.specs.Convert.{all_carried}

-- the words from word `at` on are vs
abbrev pub Held : List ℕ → ℕ → List ℕ → Type 0
Held b at [] = Unit
Held b at (v ∷ vs) = (word b at ≡ v) × Held b (suc at) vs

pub held_stored : (vs b : List ℕ) (at : ℕ) → 4 * (at + length vs) ≤ length b → Fit vs → Held (set_words b at vs) at vs
held_stored [] b at h f = tt
held_stored (v ∷ vs) b at h f = (
  word_apart vs (set_word b at v) (suc at) at (inl (omega arith)) ∙ word_same b at v (omega arith) f.0,
  held_stored vs (set_word b at v) (suc at) (rw length-set_word (omega arith)) f.1,
)

-- two parts, one behind the other
pub held_first : (xs ys b : List ℕ) (at : ℕ) → Held b at (xs ++ ys) → Held b at xs
held_first [] ys b at h = tt
held_first (x ∷ xs) ys b at h = (h.0, held_first xs ys b (suc at) h.1)

pub held_second : (xs ys b : List ℕ) (at : ℕ) → Held b at (xs ++ ys) → Held b (at + length xs) ys
held_second [] ys b at h = subst (λ k. Held b k ys) (sym (add-zero at)) h
held_second (x ∷ xs) ys b at h =
    let k : suc at + length xs ≡ at + suc (length xs) = omega arith in
    subst (λ k. Held b k ys) k (held_second xs ys b (suc at) h.1)

pub held_words : (vs b : List ℕ) (at : ℕ) → Held b at vs → words_at b at (length vs) ≡ vs
held_words [] b at h = refl
held_words (v ∷ vs) b at h = λ i. h.0 i ∷ held_words vs b (suc at) h.1 i

pub held_word : (vs b : List ℕ) (at : ℕ) → Held b at vs → (i : ℕ) → i < length vs → word b (at + i) ≡ get_or vs i 0
held_word [] b at h i l = absurd (omega arith)
held_word (v ∷ vs) b at h zero l = ap (word b) (add-zero at) ∙ h.0
held_word (v ∷ vs) b at h (suc i) l =
    let k : at + suc i ≡ suc at + i = omega arith in
    ap (word b) k ∙ held_word vs b (suc at) h.1 i (omega arith)

-- words that were copied
pub held_copied : (old : List ℕ) (from n : ℕ) (b : List ℕ) (at : ℕ) → Held b at (words_at old from n) → (i : ℕ) → i < n
    → word b (at + i) ≡ word old (from + i)
held_copied old from zero b at h i l = absurd (omega arith)
held_copied old from (suc n) b at h zero l = ap (word b) (add-zero at) ∙ h.0 ∙ ap (word old) (sym (add-zero from))
held_copied old from (suc n) b at h (suc i) l =
    let k : at + suc i ≡ suc at + i = omega arith in
    let j : suc from + i ≡ from + suc i = omega arith in
    ap (word b) k ∙ held_copied old (suc from) n b (suc at) h.1 i (omega arith) ∙ ap (word old) j

-- records one behind the other
module _ (words : List ℕ → ℕ → List ℕ) (stride size : ℕ) (long : (b : List ℕ) (k : ℕ) → length (words b k) ≡ size) where
  pub held_record : (old : List ℕ) (from n : ℕ) (b : List ℕ) (at : ℕ) → Held b at (all_carried words stride old from n) → (i : ℕ) → i < n
      → Held b (at + size * i) (words old (from + stride * i))
  unfolding all_carried
  held_record old from zero b at h i l = absurd (omega arith)
  held_record old from (suc n) b at h zero l =
      let k : at ≡ at + size * 0 = omega arith in
      let j : from ≡ from + stride * 0 = omega arith in
      subst (λ x. Held b x (words old (from + stride * 0))) k
      (subst (λ y. Held b at (words old y)) j (held_first (words old from) (all_carried words stride old (from + stride) n) b at h))
  held_record old from (suc n) b at h (suc i) l =
      let rest = held_second (words old from) (all_carried words stride old (from + stride) n) b at h in
      let k : at + length (words old from) + size * i ≡ at + size * suc i = omega (arith, long old from) in
      let j : from + stride + stride * i ≡ from + stride * suc i = omega arith in
      subst (λ x. Held b x (words old (from + stride * suc i))) k
      (subst (λ y. Held b (at + length (words old from) + size * i) (words old y)) j
      (held_record old (from + stride) n b (at + length (words old from)) rest i (omega arith)))

  pub fit_records : (old : List ℕ) (from n : ℕ) → ((i : ℕ) → i < n → Fit (words old (from + stride * i))) → Fit (all_carried words stride old from n)
  unfolding all_carried
  fit_records old from zero h = tt
  fit_records old from (suc n) h =
      fit_both (words old from) (all_carried words stride old (from + stride) n)
      (subst (λ k. Fit (words old k)) (omega arith) (h 0 (omega arith)))
      (fit_records old (from + stride) n (λ i l. subst (λ k. Fit (words old k)) (omega arith) (h (suc i) (omega arith))))

-- Words that fit.
pub fit_words : (b : List ℕ) (at n : ℕ) → ((i : ℕ) → i < n → word b (at + i) < 2 ^ 32) → Fit (words_at b at n)
fit_words b at zero h = tt
fit_words b at (suc n) h = (
  subst (λ k. word b k < 2 ^ 32) (add-zero at) (h 0 (omega arith)),
  fit_words b (suc at) n (λ i l. subst (λ k. word b k < 2 ^ 32) (omega arith) (h (suc i) (omega arith))),
)

-- words at most their maxima, as a list
pub bounded_le : (b ms : List ℕ) (at : ℕ) → bounded b at ms ≡ true → AllLe (words_at b at (length ms)) ms
unfolding bounded
bounded_le b [] at e = tt
bounded_le b (m ∷ ms) at e = (
  leb-true (word b at) m (and_left (leb (word b at) m) (bounded b (suc at) ms) e),
  bounded_le b ms (suc at) (and_right (leb (word b at) m) (bounded b (suc at) ms) e),
)
