-- A binary heap of numbers, the least on top, in the entries 1 to n of a list: the children of entry k are 2k and 2k + 1.
-- The heap holds a bag: it is told by how often each number is in it.
use Rattle.std.specs.Prelude.{ℕ, zero, suc, ◌+◌, ◌-◌, ◌/◌, ◌≤◌, ◌≡◌, Option, None, Some, List, eqb, length, get_or}
use Rattle.region.specs.Pick.{pick}

-- how many of the entries 1 to n are x
unfoldable pub copies : List ℕ → ℕ → ℕ → ℕ
copies h zero x = 0
copies h (suc n) x = copies h n x + pick (eqb (get_or h (suc n) 0) x) 1 0

-- no entry of 2 to n is less than its parent
abbrev pub Ordered : List ℕ → ℕ → Type 0
Ordered h n = (k : ℕ) → 2 ≤ k → k ≤ n → get_or h (k / 2) 0 ≤ get_or h k 0

-- x was pushed on a heap of n entries
pub record Pushed (h : List ℕ) (n x : ℕ) (h' : List ℕ) : Type 0 where
  pub same_length : length h' ≡ length h
  pub ordered : Ordered h n → Ordered h' (n + 1)
  pub counted : (y : ℕ) → copies h' (n + 1) y ≡ copies h n y + pick (eqb x y) 1 0

-- the top was removed from a heap of n entries, at least one
pub record Popped (h : List ℕ) (n : ℕ) (h' : List ℕ) : Type 0 where
  pub same_length : length h' ≡ length h
  pub ordered : Ordered h n → Ordered h' (n - 1)
  pub counted : (y : ℕ) → copies h' (n - 1) y + pick (eqb (get_or h 1 0) y) 1 0 ≡ copies h n y

-- the number on top of a heap of n entries, if there is one
abbrev pub least : List ℕ → ℕ → Option ℕ
least h zero = None
least h (suc n) = Some (get_or h 1 0)
