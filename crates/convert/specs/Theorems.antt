-- What holds of a conversion. The statement is proved in the file of `proofs/` with its name.
use Rattle.std.specs.Prelude.{ℕ, ◌≡◌, true, List, length}
use Rattle.region.specs.Refusal.{done}
use Rattle.region.specs.Shared.{shared_in, thread_in}
use Rattle.readable.specs.Readable.{frame_in, readable, shape_in}
use Rattle.convert.specs.Convert.{convert_refusal, converted_bytes, old_frame_in}

-- "no value lost, operations under way included": the new region is readable, and it reads as the old one: shape, present depth, first free cell,
-- nodes, cells, and each thread's record with its place and its node copies. A counter of one word reads as the same number.
pub record ReadsAs (old new : List ℕ) : Type 0 where
  pub ready : readable new ≡ true
  pub shape : shape_in new ≡ shape_in old
  pub shared : shared_in (frame_in new) new ≡ shared_in (old_frame_in old) old
  pub threads : thread_in (frame_in new) new ≡ thread_in (old_frame_in old) old

-- for every old region and new slice that the converter does not refuse
abbrev pub NoValueLost : Type 0
NoValueLost = (old new : List ℕ) → convert_refusal old (length new) ≡ done → ReadsAs old (converted_bytes old new)
