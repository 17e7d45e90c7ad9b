-- A laid-out region is readable: shared memory reads as layout's definition says, each word of a thread's record is 0 but the permission,
-- and all that is in range. Assumes nothing.
use Prim.Native.Nat.{ℕ, zero, suc, ◌+◌, ◌-◌, ◌*◌, ◌≤◌, ◌<◌}
use native.Mathlib.Nat.{add-zero}
use native.Mathlib.Omega.{arith}
use mathlib.Core.Path.{◌≡◌, refl, sym, subst, ◌∙◌}
use mathlib.Core.Bool.{true}
use mathlib.Core.List.{List}
use borrow.Author.Tests.{le-leb}
use lib.ListN.{length, get_or}
use Rattle.words.specs.Word.{word}
use Rattle.region.specs.Refusal.{done}
use Rattle.region.specs.Frame.{frame_of, frame_of_width}
use Rattle.region.specs.Inner.{InRange, two_words}
use Rattle.region.specs.Record.{counter_size}
use Rattle.region.specs.Shape.{region_words_of_width}
use Rattle.region.specs.Shared.{shared_in}
use Rattle.region.specs.Thread.{thread_size, tries_word, waiting_word, greatest_permission}
use Rattle.region.specs.declared.shape.Shape.{Shape}
use Rattle.region.proofs.Frames.{frame_framed}
use Rattle.region.proofs.Shapes.{and_both}
use Rattle.layout.specs.Layout.{layout_refusal, layout_bytes}
use Rattle.layout.proofs.Laws.{thread_word_most, thread_word_rest, laid_shape, laid_permissions, laid_length, header, thread_word_lem}
use Rattle.layout.proofs.LayoutReads.{laid_cell, laid-depth, laid-free, laid_node, next_most, thread_part}
use Rattle.readable.specs.Readable.{thread_maxima, thread_passes, thread_readable, shape_in, readable}
use Rattle.readable.proofs.Laws.{Good, bounded_all, readable_good}
use Rattle.readable.proofs.Stores.{CellGood, NodeGood, SharedGood, empty_good, make_good}
use Rattle.preserved.specs.Theorems.{LaidOutIsReadable}

module _ (s : Shape) (ps b : List ℕ) (e : layout_refusal s ps (length b) ≡ done) where
  r : InRange s
  r = laid_shape s ps b e

  abbrev laid : List ℕ
  laid = layout_bytes s ps b

  shared_good : SharedGood counter_size s (shared_in (frame_of s) laid)
  shared_good =
      record {
        node = λ n. subst (NodeGood counter_size s.cells) (sym (laid_node s ps b e n)) (empty_good s.cells);
        cell = λ c. subst (CellGood s.cells) (sym (laid_cell s ps b e c))
            (record { key = omega arith; tag = omega arith; next = next_most s.cells c });
        depth_least = omega (arith, laid-depth s ps b e);
        depth_most = omega (arith, laid-depth s ps b e, r.depth_least);
        free = omega (arith, laid-free s ps b e, r.cells_least);
      }

  module _ (i : ℕ) (l : i < s.threads) where
    at : ℕ
    at = (frame_of s).threads + thread_size counter_size * i

    -- the permission comes first, every other word is 0
    permission_word : word laid at ≤ greatest_permission
    unfolding at frame_of_width region_words_of_width
    permission_word =
        omega (
          arith,
          thread_word_lem s ps b e at (omega arith) (omega arith),
          thread_word_most ps (at - (frame_of s).threads) (laid_permissions s ps b e),
        )

    zero_word : (j : ℕ) → 0 < j → j < thread_size counter_size → word laid (at + j) ≡ 0
    unfolding at
    zero_word j p u = thread_part s ps b e i j (at + j) l u refl ∙ thread_word_rest ps i j p u

    thread_passes_lem : thread_readable counter_size s laid at ≡ true
    unfolding thread_passes
    thread_passes_lem =
        and_both
        (and_both
        (bounded_all laid (thread_maxima counter_size s) at λ j h. word_bound j h)
        (le-leb (word laid (at + tries_word)) _ (omega (arith, zero_word tries_word (omega arith) (omega arith)))))
        (le-leb (word laid (at + waiting_word)) _ (omega (arith, zero_word waiting_word (omega arith) (omega arith))))
      where
        word_bound : (j : ℕ) → j < thread_size counter_size → word laid (at + j) ≤ get_or (thread_maxima counter_size s) j 0
        word_bound zero h = subst (λ k. word laid k ≤ greatest_permission) (sym (add-zero at)) permission_word
        word_bound (suc j) h =
            subst (λ w. w ≤ get_or (thread_maxima counter_size s) (suc j) 0) (sym (zero_word (suc j) (omega arith) h)) (omega arith)

  pub laid_good : Good (frame_of s) laid
  unfolding at frame_of_width
  laid_good = make_good (frame_of s) laid refl r (frame_framed two_words s (length laid) (laid_length s ps b e)) shared_good thread_passes_lem

  pub same_shape : shape_in laid ≡ s
  same_shape = λ i. record {
    depth = header s ps b e 0 (omega arith) i;
    cells = header s ps b e 1 (omega arith) i;
    threads = header s ps b e 2 (omega arith) i;
    threshold = header s ps b e 3 (omega arith) i;
  }

  laid_readable : readable laid ≡ true
  laid_readable = readable_good s laid same_shape (laid_length s ps b e) laid_good

pub laid_out_is_readable : LaidOutIsReadable
laid_out_is_readable = laid_readable
