-- What only the contracts of inner functions and the proofs need. A reader of the result may skip this file.
use Rattle.std.specs.Prelude.{ℕ, ◌*◌, ◌<◌, ◌≡◌, List, length}
use Rattle.region.specs.Frame.{frame_of}
use Rattle.region.specs.Shape.{region_words}
use Rattle.region.specs.Inner.{InRange}
use Rattle.region.specs.declared.frame.Frame.{Frame}
use Rattle.region.specs.declared.shape.Shape.{Shape}

-- an accepted call: the shape is in range, each thread has a permission, and the slice has the exact length, l bytes
pub record Accepted (s : Shape) (ps : List ℕ) (l : ℕ) : Type 0 where
  pub shape : InRange s
  pub permissions : length ps ≡ s.threads
  pub exact : l ≡ 4 * region_words s

-- word k of an accepted region with frame f
pub record Laying (f : Frame) (ps : List ℕ) (k : ℕ) : Type 0 where
  pub frame : f ≡ frame_of f.shape
  pub shape : InRange f.shape
  pub permissions : length ps ≡ f.shape.threads
  pub within : k < region_words f.shape
