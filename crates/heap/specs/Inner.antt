-- What only the contract of an inner function and the proofs need. A reader of the result may skip this file.
use Rattle.std.specs.Prelude.{ℕ, ◌/◌, ◌≤◌, ◌≡◌, List, get_or}

-- c is a child of entry i among the entries to m, and no child of i is less
pub record LeastChild (h : List ℕ) (m i c : ℕ) : Type 0 where
  pub child : c / 2 ≡ i
  pub within : c ≤ m
  pub least : (j : ℕ) → j ≤ m → j / 2 ≡ i → get_or h c 0 ≤ get_or h j 0
