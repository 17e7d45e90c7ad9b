-- What only the contracts of inner functions and the proofs need. A reader of the result may skip this file.
use Rattle.std.specs.Prelude.{ℕ, ◌+◌, ◌*◌, ◌/◌, ◌<◌, ◌≤◌, ◌≡◌, List, Result, Ok, Err, length}
use Rattle.region.specs.Refusal.{code_of}
use Rattle.region.specs.declared.frame.Frame.{Frame}
use Rattle.region.specs.declared.refusal.Refusal.{Refusal}
use Rattle.run.specs.Run.{run_refusal, run_result, run_result_in, schedule_refusal, so_far}
use Rattle.run.specs.declared.Counts.{Counts}

-- one turn: turn k lies within s bytes of schedule, its answer within a bytes; n accesses were made before it
pub record TurnWithin (s a k n : ℕ) : Type 0 where
  pub turn : 8 * k + 8 ≤ s
  pub answer : 12 * k + 12 ≤ a
  pub few : k < 4096
  pub made : n ≤ k

-- all turns of a run that is not refused: the answers of s bytes of schedule lie within a bytes
pub record RunWithin (s a : ℕ) : Type 0 where
  pub few : s / 8 ≤ 4096
  pub answers : 12 * (s / 8) ≤ a

-- the counts of a run, 0 where it is refused
abbrev pub counts_of : Result Counts Refusal → Counts
counts_of (Ok counts) = counts
counts_of (Err r) = record { turns = 0; accesses = 0 }

-- what a run answers and leaves, under a frame and on a whole region; b, a are the region and the answers, b', a' afterwards
pub record RanIn (f : Frame) (b b' schedule : List ℕ) (limit : ℕ) (a a' : List ℕ) (r : Result Counts Refusal) : Type 0 where
  pub refusal : code_of r ≡ schedule_refusal schedule (length a)
  pub served : so_far b' a' (counts_of r).turns (counts_of r).accesses ≡ run_result_in f b schedule limit a

pub record Ran (b b' schedule : List ℕ) (limit : ℕ) (a a' : List ℕ) (r : Result Counts Refusal) : Type 0 where
  pub refusal : code_of r ≡ run_refusal b schedule (length a)
  pub served : so_far b' a' (counts_of r).turns (counts_of r).accesses ≡ run_result b schedule limit a
