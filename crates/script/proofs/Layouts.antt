-- A layout that is not refused leaves the same bytes whatever it found: stores of words are stores of their bytes, and they
-- leave none out. Assumes nothing.
use Prim.Native.Nat.{ℕ, suc, ◌+◌, ◌*◌, ◌/◌, ◌%◌}
use native.Mathlib.Numerals.{add-one, add-two, add-three}
use native.Mathlib.Omega.{arith}
use mathlib.Core.Path.{◌≡◌, refl, sym, ap, ◌∙◌}
use mathlib.Core.List.{List, [], ◌∷◌, ◌++◌, append-nil}
use borrow.Author.Tests.{eq-eqb}
use lib.ListN.{length, drop}
use lib.Seq.{sets, sets-eq, drop-length}
use Rattle.words.specs.Word.{set_word, set_words}
use Rattle.region.specs.Refusal.{done}
use Rattle.region.specs.Pick.{pick}
use Rattle.region.specs.Shape.{region_words}
use Rattle.region.specs.declared.shape.Shape.{Shape}
use Rattle.layout.specs.Layout.{laid_words, layout_bytes, layout_refusal}
use Rattle.layout.proofs.Laws.{laid_long}

-- the words as bytes
pub bytes_of : List ℕ → List ℕ
bytes_of [] = []
bytes_of (v ∷ vs) = v % 256 ∷ v / 256 % 256 ∷ v / 65536 % 256 ∷ v / 16777216 % 256 ∷ bytes_of vs

bytes_long : (vs : List ℕ) → length (bytes_of vs) ≡ 4 * length vs
unfolding bytes_of
bytes_long [] = refl
bytes_long (v ∷ vs) = omega (arith, bytes_long vs)

words_bytes : (vs b : List ℕ) (k : ℕ) → set_words b k vs ≡ sets b (4 * k) (bytes_of vs)
unfolding bytes_of set_word
words_bytes [] b k = refl
words_bytes (v ∷ vs) b k =
    words_bytes vs (set_word b k v) (suc k)
    ∙ rw (add-one, add-two, add-three)
    (ap (λ n. sets (sets b (4 * k) (v % 256 ∷ v / 256 % 256 ∷ v / 65536 % 256 ∷ v / 16777216 % 256 ∷ [])) n (bytes_of vs)) (omega arith))

words_all : (vs b : List ℕ) → length b ≡ 4 * length vs → set_words b 0 vs ≡ bytes_of vs
words_all vs b h =
    let n = bytes_long vs in
    let whole : 0 + length (bytes_of vs) ≡ length b = omega arith in
    words_bytes vs b 0
    ∙ sets-eq (bytes_of vs) b 0 (omega arith)
    ∙ ap (λ k. bytes_of vs ++ drop k b) whole
    ∙ ap (λ l. bytes_of vs ++ l) (drop-length b)
    ∙ append-nil (bytes_of vs)

pub laid_all : (s : Shape) (ps b : List ℕ) → length b ≡ 4 * region_words s → layout_refusal s ps (4 * region_words s) ≡ done
    → layout_bytes s ps b ≡ bytes_of (laid_words s ps 0 (region_words s))
unfolding layout_bytes pick
laid_all s ps b h e =
    rw
    (h, eq-eqb (layout_refusal s ps (4 * region_words s)) done e)
    (words_all (laid_words s ps 0 (region_words s)) b (h ∙ ap (λ n. 4 * n) (sym (laid_long s ps 0 (region_words s)))))
