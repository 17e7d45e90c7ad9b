-- A laid-out region, word by word. Assumes nothing.
use Prim.Native.Nat.{ℕ, zero, suc, ◌+◌, ◌-◌, ◌*◌, ◌/◌, ◌%◌, ◌≤◌, ◌<◌}
use native.Mathlib.Nat.{add-zero, add-suc, suc-add}
use native.Mathlib.Omega.{arith}
use mathlib.Core.Path.{◌≡◌, refl, sym, ap, ◌∙◌}
use mathlib.Core.Bool.{true}
use mathlib.Core.List.{List, [], ◌∷◌}
use borrow.Author.Tests.{eq-eqb, ne_eqb, lt-ltb, le-ltb, ltb-true, leb-true}
use lib.Dec.{leb, ltb, eqb}
use lib.ListN.{length, get_or}
use Rattle.words.specs.Word.{word, set_words}
use Rattle.words.specs.Inner.{Fit}
use Rattle.words.proofs.Laws.{word_stored, length-set_words}
use Rattle.region.specs.Refusal.{done}
use Rattle.region.specs.Frame.{frame_of, frame_of_width}
use Rattle.region.specs.Pick.{pick}
use Rattle.region.specs.Record.{counter_size, cell_size}
use Rattle.region.specs.Shape.{head_size, region_words, region_words_of_width}
use Rattle.region.specs.Thread.{thread_size, greatest_permission}
use Rattle.region.specs.Inner.{InRange}
use Rattle.region.specs.declared.shape.Shape.{Shape}
use Rattle.region.proofs.Picks.{pick_good}
use Rattle.region.proofs.Shapes.{and_left, and_right, sizes}
use Rattle.layout.specs.Layout.{at_most, layout_refusal, next_word, cell_word, thread_word, laid_word, laid_words, layout_bytes}
use Rattle.layout.specs.Inner.{Accepted}
use Rattle.layout.proofs.Loops.{accepted, permitted}

at_most_lem : (m : ℕ) (xs : List ℕ) (i : ℕ) → at_most m xs ≡ true → get_or xs i 0 ≤ m
unfolding at_most
at_most_lem m [] i e = omega arith
at_most_lem m (x ∷ xs) zero e = leb-true x m (and_left (leb x m) (at_most m xs) e)
at_most_lem m (x ∷ xs) (suc i) e = at_most_lem m xs i (and_right (leb x m) (at_most m xs) e)

-- Every word of the cells is at most C, and every word of the threads a permission.
pub cell_word_most : (cells j : ℕ) → cell_word cells j ≤ cells
unfolding cell_word
cell_word_most cells j =
    pick_good (λ x. x ≤ cells) (eqb (j % cell_size) next_word)
    (λ e. pick_good (λ x. x ≤ cells) (ltb (j / cell_size + 1) cells) (λ h. omega (arith, ltb-true (j / cell_size + 1) cells h)) (λ h. omega arith))
    (λ e. omega arith)

pub thread_word_most : (ps : List ℕ) (j : ℕ) → at_most greatest_permission ps ≡ true → thread_word ps j ≤ greatest_permission
unfolding thread_word
thread_word_most ps j a =
    pick_good (λ x. x ≤ greatest_permission) (eqb (j % thread_size counter_size) 0) (λ e. at_most_lem greatest_permission ps (j / thread_size counter_size) a) (λ e. omega arith)

pub thread_word_rest : (ps : List ℕ) (i j : ℕ) → 0 < j → j < thread_size counter_size → thread_word ps (thread_size counter_size * i + j) ≡ 0
unfolding thread_word pick
thread_word_rest ps i j l u =
    let n : (thread_size counter_size * i + j) % thread_size counter_size ≡ j = omega arith in
    rw (ne_eqb ((thread_size counter_size * i + j) % thread_size counter_size) 0 (λ z. omega arith)) refl

module _ (s : Shape) (ps : List ℕ) (r : InRange s) (a : at_most greatest_permission ps ≡ true) where
  laid_most : (k : ℕ) → laid_word s ps k ≤ 4096
  unfolding laid_word
  laid_most k =
      pick_good (λ x. x ≤ 4096) (ltb k head_size) (λ e. header k)
      (λ e. pick_good (λ x. x ≤ 4096) (ltb k (frame_of s).cells) (λ h. omega arith)
      (λ h. pick_good (λ x. x ≤ 4096) (ltb k (frame_of s).threads)
      (λ g. omega (arith, cell_word_most s.cells (k - (frame_of s).cells), r.cells_most, sizes s r.depth_most))
      (λ g. omega (arith, thread_word_most ps (k - (frame_of s).threads) a))))
    where
      header : (j : ℕ) → get_or (s.depth ∷ s.cells ∷ s.threads ∷ s.threshold ∷ 1 ∷ 1 ∷ []) j 0 ≤ 4096
      header zero = omega (arith, r.depth_most)
      header (suc zero) = omega (arith, r.cells_most, sizes s r.depth_most)
      header (suc (suc zero)) = omega (arith, r.threads_most)
      header (suc (suc (suc zero))) = omega (arith, r.threshold_most)
      header (suc (suc (suc (suc zero)))) = omega arith
      header (suc (suc (suc (suc (suc zero))))) = omega arith
      header (suc (suc (suc (suc (suc (suc j)))))) = omega arith

  laid_fit : (k n : ℕ) → Fit (laid_words s ps k n)
  unfolding laid_words
  laid_fit k zero = tt
  laid_fit k (suc n) = (omega (arith, laid_most k), laid_fit (suc k) n)

pub laid_long : (s : Shape) (ps : List ℕ) (k n : ℕ) → length (laid_words s ps k n) ≡ n
unfolding laid_words
laid_long s ps k zero = refl
laid_long s ps k (suc n) = ap suc (laid_long s ps (suc k) n)

laid_at : (s : Shape) (ps : List ℕ) (k n i : ℕ) → i < n → get_or (laid_words s ps k n) i 0 ≡ laid_word s ps (k + i)
unfolding laid_words
laid_at s ps k zero i h = absurd (omega arith)
laid_at s ps k (suc n) zero h = ap (laid_word s ps) (sym (add-zero k))
laid_at s ps k (suc n) (suc i) h =
    laid_at s ps (suc k) n i (omega arith) ∙ ap (laid_word s ps) (suc-add k i ∙ sym (add-suc k i))

-- An accepted layout leaves each word as its definition says.
module _ (s : Shape) (ps b : List ℕ) (e : layout_refusal s ps (length b) ≡ done) where
  call : Accepted s ps (length b)
  call = accepted s ps (length b) (layout_refusal s ps (length b)) refl e

  laid_bytes : layout_bytes s ps b ≡ set_words b 0 (laid_words s ps 0 (region_words s))
  unfolding layout_bytes pick
  laid_bytes = rw (eq-eqb (layout_refusal s ps (length b)) done e) refl

  pub laid_shape : InRange s
  laid_shape = call.shape

  pub laid_permissions : at_most greatest_permission ps ≡ true
  laid_permissions = permitted s ps (length b) (layout_refusal s ps (length b)) refl e

  pub laid_exact : length b ≡ 4 * region_words s
  laid_exact = call.exact

  pub laid_length : length (layout_bytes s ps b) ≡ 4 * region_words s
  laid_length = ap length laid_bytes ∙ length-set_words (laid_words s ps 0 (region_words s)) b 0 ∙ laid_exact

  pub laid_word_lem : (k : ℕ) → k < region_words s → word (layout_bytes s ps b) k ≡ laid_word s ps k
  laid_word_lem k h =
      let n = laid_long s ps 0 (region_words s) in
      let z : 0 + k ≡ k = omega arith in
      ap (λ l. word l k) laid_bytes
      ∙ ap (word (set_words b 0 (laid_words s ps 0 (region_words s)))) (sym z)
      ∙ word_stored (laid_words s ps 0 (region_words s)) b 0 k (omega (arith, n, laid_exact))
      (laid_fit s ps laid_shape laid_permissions 0 (region_words s)) (omega (arith, n, h))
      ∙ laid_at s ps 0 (region_words s) k h
      ∙ ap (laid_word s ps) z

  -- the words of each part
  abbrev laid : List ℕ
  laid = layout_bytes s ps b

  pub header : (k : ℕ) → k < head_size → word laid k ≡ get_or (s.depth ∷ s.cells ∷ s.threads ∷ s.threshold ∷ 1 ∷ 1 ∷ []) k 0
  unfolding laid_word pick region_words_of_width
  header k h = laid_word_lem k (omega arith) ∙ rw (lt-ltb k head_size h) refl

  pub node_word : (k : ℕ) → head_size ≤ k → k < (frame_of s).cells → word laid k ≡ 0
  unfolding laid_word pick region_words_of_width frame_of_width
  node_word k l u = laid_word_lem k (omega arith) ∙ rw (le-ltb k head_size l, lt-ltb k (frame_of s).cells u) refl

  pub cell_word_lem : (k : ℕ) → (frame_of s).cells ≤ k → k < (frame_of s).threads → word laid k ≡ cell_word s.cells (k - (frame_of s).cells)
  unfolding laid_word pick region_words_of_width frame_of_width
  cell_word_lem k l u =
      laid_word_lem k (omega arith)
      ∙ rw (le-ltb k head_size (omega arith), le-ltb k (frame_of s).cells l, lt-ltb k (frame_of s).threads u) refl

  pub thread_word_lem : (k : ℕ) → (frame_of s).threads ≤ k → k < region_words s → word laid k ≡ thread_word ps (k - (frame_of s).threads)
  unfolding laid_word pick frame_of_width
  thread_word_lem k l u =
      laid_word_lem k u
      ∙ rw
      (le-ltb k head_size (omega arith), le-ltb k (frame_of s).cells (omega arith), le-ltb k (frame_of s).threads l)
      refl
