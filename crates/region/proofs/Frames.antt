-- The frame of a region that holds one queue: its parts end within a region of its length, and lie apart. Assumes nothing.
use Prim.Native.Nat.{ℕ, ◌*◌}
use native.Mathlib.Omega.{arith}
use mathlib.Core.Path.{◌≡◌, refl}
use Rattle.region.specs.Frame.{frame_of, frame_of_width}
use Rattle.region.specs.Inner.{before, Framed, Parted, Width, Within, InRange}
use Rattle.region.specs.Shape.{region_words, region_words_of_width}
use Rattle.region.specs.declared.shape.Shape.{Shape}

pub frame_within : (s : Shape) (l : ℕ) → InRange s → l ≡ 4 * region_words s → Within (frame_of s) l
unfolding frame_of_width region_words_of_width
frame_within s l r e =
    record {
      width = refl;
      deep = r.depth_most;
      depth = omega arith;
      free = omega arith;
      nodes = omega arith;
      cells = omega arith;
      threads = omega arith;
      stride = omega arith;
    }

frame_parted : (w : ℕ) (s : Shape) → Parted (frame_of_width w s)
unfolding frame_of_width
frame_parted w s =
    record {
      depth_free = before (omega arith);
      depth_nodes = before (omega arith);
      depth_cells = before (omega arith);
      depth_threads = before (omega arith);
      free_nodes = before (omega arith);
      free_cells = before (omega arith);
      free_threads = before (omega arith);
      nodes_cells = before (omega arith);
      nodes_threads = before (omega arith);
      cells_threads = before (omega arith);
    }

pub frame_framed : {w : ℕ} → Width w → (s : Shape) (l : ℕ) → l ≡ 4 * region_words_of_width w s → Framed (frame_of_width w s) l
unfolding frame_of_width region_words_of_width
frame_framed {w} wide s l e =
    record {
      width = wide;
      depth = omega arith;
      free = omega arith;
      nodes = omega arith;
      cells = omega arith;
      threads = omega arith;
      stride = omega arith;
      apart = frame_parted w s;
    }
