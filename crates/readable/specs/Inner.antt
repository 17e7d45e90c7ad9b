-- What only the contracts of inner functions and the proofs need. A reader of the result may skip this file.
use Rattle.std.specs.Prelude.{ℕ, ◌+◌, ◌*◌, ◌≤◌, ◌<◌, ◌≡◌}
use Rattle.region.specs.Inner.{InRange, Width}
use Rattle.region.specs.Record.{node_size, cell_size}
use Rattle.region.specs.Shape.{node_count}
use Rattle.region.specs.Thread.{thread_size, waiting_word}
use Rattle.region.specs.declared.frame.Frame.{Frame}
use Rattle.region.specs.declared.shape.Shape.{Shape}

-- a thread's record at word `at` of l bytes, with maxima for n words
pub record MaximaWithin (s : Shape) (l at n : ℕ) : Type 0 where
  pub shape : InRange s
  pub within : 4 * (at + n) ≤ l
  pub long : waiting_word < n

-- a thread's record at word `at` of l bytes, whose counters have w words
pub record ThreadWithin (w : ℕ) (s : Shape) (l at : ℕ) : Type 0 where
  pub width : Width w
  pub shape : InRange s
  pub within : 4 * (at + thread_size w) ≤ l

-- counters have one word or two, all parts of a frame lie within l bytes, and its shape is in range
pub record FrameWithin (f : Frame) (l : ℕ) : Type 0 where
  pub width : Width f.width
  pub shape : InRange f.shape
  pub depth : 4 * f.depth + 4 ≤ l
  pub free : 4 * f.free + 4 ≤ l
  pub nodes : 4 * (f.nodes + node_size f.width * node_count f.shape) ≤ l
  pub cells : 4 * (f.cells + cell_size * f.shape.cells) ≤ l
  pub threads : 4 * (f.threads + f.stride * f.shape.threads) ≤ l
  pub stride : f.stride ≡ thread_size f.width

-- the same, and counters have w words
pub record WithinOfWidth (w : ℕ) (f : Frame) (l : ℕ) : Type 0 where
  pub width : f.width ≡ w
  pub within : FrameWithin f l
