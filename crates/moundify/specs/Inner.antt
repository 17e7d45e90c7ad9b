-- What only the contracts of inner functions and the proofs need. A reader of the result may skip this file.
use Rattle.std.specs.Prelude.{◌+◌, ◌*◌, ◌^◌, ◌≤◌, ◌<◌}
use Rattle.region.specs.declared.thread.Thread.{Thread}

-- what M4's local work requires of the thread's node: it exists, and the number of its right child fits a word
pub record HasChildren (t : Thread) : Type 0 where
  pub some : 1 ≤ t.node
  pub few : 2 * t.node + 1 < 2 ^ 32
