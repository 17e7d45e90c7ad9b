-- The sizes that follow from the words of a counter. Assumes nothing.
use Prim.Native.Nat.{ℕ, ◌+◌, ◌*◌, ◌≤◌}
use native.Mathlib.Omega.{arith}
use mathlib.Core.Path.{◌≡◌, sym, subst}
use Rattle.region.specs.Frame.{frame_of_width}
use Rattle.region.specs.Inner.{InRange, Width, one_word, two_words}
use Rattle.region.specs.Shape.{region_words_of_width}
use Rattle.region.specs.declared.frame.Frame.{Frame}
use Rattle.region.specs.declared.shape.Shape.{Shape}
use Rattle.region.proofs.Shapes.{sizes}

pub few_counter_words : {w : ℕ} → Width w → w ≤ 2
few_counter_words one_word = omega arith
few_counter_words two_words = omega arith

-- a region has at most 24,834 words, which end with its threads' records
pub few_words_of_width : {w : ℕ} → Width w → (s : Shape) → InRange s → region_words_of_width w s ≤ 24834
unfolding region_words_of_width
few_words_of_width one_word s r = omega (arith, r, sizes s r.depth_most)
few_words_of_width two_words s r = omega (arith, r, sizes s r.depth_most)

pub few_words_in_frame : {w : ℕ} → Width w → (s : Shape) → InRange s → (f : Frame) → f ≡ frame_of_width w s
    → f.threads + f.stride * s.threads ≤ 24834
unfolding frame_of_width region_words_of_width
few_words_in_frame wide s r f e = subst (λ x. x.threads + x.stride * s.threads ≤ 24834) (sym e) (few_words_of_width wide s r)
