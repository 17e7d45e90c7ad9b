-- What only the contracts of inner functions and the proofs need. A reader of the result may skip this file.
use Rattle.std.specs.Prelude.{ℕ, ◌≤◌}

-- small enough that each of the three keeps to its own bits
pub record Packable (refusal turns accesses : ℕ) : Type 0 where
  pub known : refusal ≤ 7
  pub few_turns : turns ≤ 4096
  pub few_accesses : accesses ≤ turns

-- the same of a cut's two
pub record CutPackable (refusal written : ℕ) : Type 0 where
  pub known : refusal ≤ 16
  pub short : written ≤ 60000
