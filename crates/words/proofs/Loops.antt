-- One word more of several read in a row. Assumes nothing.
use Rattle.std.proofs.Common.{◌≡◌, ℕ, zero, suc, ◌+◌, List, [], ◌∷◌, ◌++◌, ap, ◌∙◌, refl, add-one, add-zero, add-suc, suc-add}
use Rattle.words.specs.Word.{word, words_at}

read_behind : (b : List ℕ) (at n : ℕ) → words_at b at (suc n) ≡ words_at b at n ++ (word b (at + n) ∷ [])
read_behind b at zero = rw add-zero refl
read_behind b at (suc n) = ap (λ l. word b at ∷ l) (read_behind b (suc at) n ∙ rw (suc-add, add-suc) refl)

pub words_at_more : (b : List ℕ) (at n : ℕ) → words_at b at (n + 1) ≡ words_at b at n ++ (word b (at + n) ∷ [])
words_at_more b at n = ap (words_at b at) (add-one n) ∙ read_behind b at n
