-- What readability says of a frame's parts, record by record, and of the readable region of one queue. Assumes nothing.
use Prim.Native.Nat.{ℕ, zero, suc, ◌+◌, ◌*◌, ◌≤◌, ◌<◌}
use native.Mathlib.Nat.{add-zero, add-suc, suc-add}
use native.Mathlib.Omega.{arith}
use mathlib.Core.Path.{◌≡◌, refl, sym, ap, subst, ◌∙◌}
use mathlib.Core.Bool.{Bool, true, ◌&&◌, and_assoc}
use mathlib.Core.List.{List, [], ◌∷◌, ◌++◌}
use borrow.Author.Tests.{leb-true, le-leb, eqb-true, eq-eqb}
use lib.Dec.{leb, eqb}
use lib.ListN.{length, get_or}
use Rattle.words.specs.Word.{word}
use Rattle.region.specs.Frame.{frame_of_width}
use Rattle.region.specs.Inner.{Framed, Width, two_words, Within, InRange}
use Rattle.region.specs.Record.{counter_size, node_size, cell_size}
use Rattle.region.specs.Shape.{between, shape_fits, node_count, region_words, region_words_of_width}
use Rattle.region.specs.declared.frame.Frame.{Frame}
use Rattle.region.specs.declared.shape.Shape.{Shape}
use Rattle.region.proofs.Frames.{frame_framed, frame_within}
use Rattle.region.proofs.Shapes.{and_left, and_right, and_both, between_least, between_most, in_range, fits_in_range, is_between}
use Rattle.readable.specs.Readable.{bounded, node_readable, cell_readable, thread_readable, all_records, tree_readable, fields_readable, shape_in, frame_in, is_whole_of_width, readable, readable_of_width}

-- Words at most their maxima, one by one and all together.
pub bounded_all : (b ms : List ℕ) (at : ℕ) → ((i : ℕ) → i < length ms → word b (at + i) ≤ get_or ms i 0) → bounded b at ms ≡ true
unfolding bounded
bounded_all b [] at h = refl
bounded_all b (m ∷ ms) at h =
    and_both
    (le-leb (word b at) m (subst (λ k. word b k ≤ m) (add-zero at) (h 0 (omega arith))))
    (bounded_all b ms (suc at) λ i l.
    subst (λ k. word b k ≤ get_or ms i 0) (add-suc at i ∙ sym (suc-add at i)) (h (suc i) (omega arith)))

pub bounded_at : (b ms : List ℕ) (at i : ℕ) → bounded b at ms ≡ true → i < length ms → word b (at + i) ≤ get_or ms i 0
unfolding bounded
bounded_at b [] at i e l = absurd (omega arith)
bounded_at b (m ∷ ms) at zero e l =
    subst (λ k. word b k ≤ m) (sym (add-zero at)) (leb-true (word b at) m (and_left (leb (word b at) m) (bounded b (suc at) ms) e))
bounded_at b (m ∷ ms) at (suc i) e l =
    subst
    (λ k. word b k ≤ get_or ms i 0)
    (suc-add at i ∙ sym (add-suc at i))
    (bounded_at b ms (suc at) i (and_right (leb (word b at) m) (bounded b (suc at) ms) e) (omega arith))

-- Words with their maxima, and others behind them.
pub bounded_behind : (b xs ys : List ℕ) (at : ℕ) → bounded b at (xs ++ ys) ≡ bounded b at xs && bounded b (at + length xs) ys
unfolding bounded
bounded_behind b [] ys at = ap (λ k. bounded b k ys) (sym (add-zero at))
bounded_behind b (x ∷ xs) ys at =
    let e : suc at + length xs ≡ at + suc (length xs) = omega arith in
    ap (λ q. leb (word b at) x && q) (bounded_behind b xs ys (suc at) ∙ ap (λ k. bounded b (suc at) xs && bounded b k ys) e)
    ∙ sym (and_assoc (leb (word b at) x) (bounded b (suc at) xs) (bounded b (at + suc (length xs)) ys))

-- Records that pass, one by one and all together.
pub all_pass : (test : List ℕ → ℕ → Bool) (stride : ℕ) (b : List ℕ) (at n : ℕ)
    → ((i : ℕ) → i < n → test b (at + stride * i) ≡ true) → all_records test stride b at n ≡ true
unfolding all_records
all_pass test stride b at zero h = refl
all_pass test stride b at (suc n) h =
    and_both
    (subst (λ k. test b k ≡ true) (omega arith) (h 0 (omega arith)))
    (all_pass test stride b (at + stride) n λ i l. subst (λ k. test b k ≡ true) (omega arith) (h (suc i) (omega arith)))

pub pass_at : (test : List ℕ → ℕ → Bool) (stride : ℕ) (b : List ℕ) (at n i : ℕ) → all_records test stride b at n ≡ true → i < n
    → test b (at + stride * i) ≡ true
unfolding all_records
pass_at test stride b at zero i e l = absurd (omega arith)
pass_at test stride b at (suc n) zero e l =
    subst (λ k. test b k ≡ true) (omega arith) (and_left (test b at) (all_records test stride b (at + stride) n) e)
pass_at test stride b at (suc n) (suc i) e l =
    subst
    (λ k. test b k ≡ true)
    (omega arith)
    (pass_at test stride b (at + stride) n i (and_right (test b at) (all_records test stride b (at + stride) n) e) (omega arith))

-- What holds of the bytes b under a frame whose counters have w words, part by part: the shape is in range, the parts end within the slice and
-- lie apart, and every field is in range.
pub record GoodOfWidth (w : ℕ) (f : Frame) (b : List ℕ) : Type 0 where
  pub width : f.width ≡ w
  pub range : InRange f.shape
  pub framed : Framed f (length b)
  pub depth_least : 1 ≤ word b f.depth
  pub depth_most : word b f.depth ≤ f.shape.depth
  pub free_most : word b f.free ≤ f.shape.cells
  pub nodes : (i : ℕ) → i < node_count f.shape → node_readable f.width f.shape.cells b (f.nodes + node_size f.width * i) ≡ true
  pub cells : (i : ℕ) → i < f.shape.cells → cell_readable f.shape.cells b (f.cells + cell_size * i) ≡ true
  pub threads : (i : ℕ) → i < f.shape.threads → thread_readable f.width f.shape b (f.threads + f.stride * i) ≡ true

-- the same where counters have two words
abbrev pub Good : Frame → List ℕ → Type 0
Good f b = GoodOfWidth counter_size f b

module _ (f : Frame) (b : List ℕ) where
  abbrev s : Shape
  s = f.shape

  pub fields_good : (w : ℕ) → f.width ≡ w → InRange f.shape → Framed f (length b) → fields_readable f b ≡ true → GoodOfWidth w f b
  unfolding fields_readable tree_readable
  fields_good w ew r framed e =
      let d = between 1 (word b f.depth) s.depth in
      let c = leb (word b f.free) s.cells in
      let ns = all_records (node_readable f.width s.cells) (node_size f.width) b f.nodes (node_count s) in
      let cs = all_records (cell_readable s.cells) cell_size b f.cells s.cells in
      let ts = all_records (thread_readable f.width s) f.stride b f.threads s.threads in
      let tree : d && c && ns && cs ≡ true = and_left (d && c && ns && cs) ts e in
      let dcn : d && c && ns ≡ true = and_left (d && c && ns) cs tree in
      let dc : d && c ≡ true = and_left (d && c) ns dcn in
      record {
        width = ew;
        range = r;
        framed = framed;
        depth_least = between_least 1 (word b f.depth) s.depth (and_left d c dc);
        depth_most = between_most 1 (word b f.depth) s.depth (and_left d c dc);
        free_most = leb-true (word b f.free) s.cells (and_right d c dc);
        nodes = λ i. pass_at (node_readable f.width s.cells) (node_size f.width) b f.nodes (node_count s) i (and_right (d && c) ns dcn);
        cells = λ i. pass_at (cell_readable s.cells) cell_size b f.cells s.cells i (and_right (d && c && ns) cs tree);
        threads = λ i. pass_at (thread_readable f.width s) f.stride b f.threads s.threads i (and_right (d && c && ns && cs) ts e);
      }

  pub good_fields : {w : ℕ} → GoodOfWidth w f b → fields_readable f b ≡ true
  unfolding fields_readable tree_readable
  good_fields g =
      and_both
      (and_both
      (and_both
      (and_both
      (is_between 1 (word b f.depth) s.depth g.depth_least g.depth_most)
      (le-leb (word b f.free) s.cells g.free_most))
      (all_pass (node_readable f.width s.cells) (node_size f.width) b f.nodes (node_count s) g.nodes))
      (all_pass (cell_readable s.cells) cell_size b f.cells s.cells g.cells))
      (all_pass (thread_readable f.width s) f.stride b f.threads s.threads g.threads)

-- The readable region of one queue is one instance: the frame that its first words give, over all its bytes. First with counters of w words.
module _ {w : ℕ} (wide : Width w) (b : List ℕ) (e : readable_of_width w b ≡ true) where
  abbrev frame : Frame
  frame = frame_of_width w (shape_in b)

  whole : is_whole_of_width w b ≡ true
  unfolding readable_of_width
  whole = and_left (is_whole_of_width w b) (fields_readable frame b) e

  pub shape_of_width : InRange (shape_in b)
  shape_of_width =
      in_range (shape_in b) (and_left (shape_fits (shape_in b)) (eqb (length b) (4 * region_words_of_width w (shape_in b))) whole)

  pub length_of_width : length b ≡ 4 * region_words_of_width w (shape_in b)
  length_of_width =
      eqb-true (length b) (4 * region_words_of_width w (shape_in b))
      (and_right (shape_fits (shape_in b)) (eqb (length b) (4 * region_words_of_width w (shape_in b))) whole)

  pub good_of_width : GoodOfWidth w frame b
  unfolding readable_of_width frame_of_width
  good_of_width =
      fields_good frame b w refl shape_of_width (frame_framed wide (shape_in b) (length b) length_of_width)
      (and_right (is_whole_of_width w b) (fields_readable frame b) e)

pub readable_good : {w : ℕ} (s : Shape) (b : List ℕ) → shape_in b ≡ s → length b ≡ 4 * region_words_of_width w s → GoodOfWidth w (frame_of_width w s) b
    → readable_of_width w b ≡ true
unfolding readable_of_width frame_of_width
readable_good {w} s b es el g =
    subst (λ x. shape_fits x && eqb (length b) (4 * region_words_of_width w x) && fields_readable (frame_of_width w x) b ≡ true) (sym es)
    (and_both
    (and_both (fits_in_range s g.range) (eq-eqb (length b) (4 * region_words_of_width w s) el))
    (good_fields (frame_of_width w s) b g))

-- Then with counters of two words.
module _ (b : List ℕ) where
  pub readable_shape : readable b ≡ true → InRange (shape_in b)
  readable_shape e = shape_of_width two_words b e

  pub readable-length : readable b ≡ true → length b ≡ 4 * region_words (shape_in b)
  readable-length e = length_of_width two_words b e

  pub good : readable b ≡ true → Good (frame_in b) b
  good e = good_of_width two_words b e

  pub readable_within : readable b ≡ true → Within (frame_in b) (length b)
  readable_within e = frame_within (shape_in b) (length b) (readable_shape e) (readable-length e)

  pub readable_long : readable b ≡ true → 16 ≤ length b
  unfolding region_words_of_width
  readable_long e = omega (arith, readable-length e)
