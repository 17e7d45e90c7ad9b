-- Linearizability of recorded operations (Herlihy and Wing): each is answered and a thread makes one at a time; some order of all of them respects
-- real time, and the plain bag, played in that order, gives every answer.
use Rattle.std.specs.Prelude.{ℕ, suc, ◌<◌, ◌≡◌, ◌⊎◌}
use Rattle.theory.specs.Ledger.{empty_ledger}
use Rattle.records.specs.Accepts.{listed}
use Rattle.records.specs.declared.form.Recorded.{Recorded}
use Rattle.accepted.specs.LedgerPlay.{FollowsAll, all_told}

-- an order of n things, numbered from 0: which one comes k-th, and when thing i comes. Each comes exactly once.
pub record Order (n : ℕ) : Type 0 where
  pub which : ℕ → ℕ
  pub when : ℕ → ℕ
  pub which_below : (k : ℕ) → k < n → which k < n
  pub when_below : (i : ℕ) → i < n → when i < n
  pub when_which : (k : ℕ) → k < n → when (which k) ≡ k
  pub which_when : (i : ℕ) → i < n → which (when i) ≡ i

-- n recorded operations, r 0 to r (n − 1)
pub record Linearization (n : ℕ) (r : ℕ → Recorded) : Type 0 where
  -- each begins before its answer, and a thread makes one at a time
  pub begun : (i : ℕ) → i < n → (r i).begin < (r i).answer
  pub one_at_a_time : (i j : ℕ) → i < n → j < n → (i ≡ j → ⊥) → (r i).thread ≡ (r j).thread
      → ((r i).answer < (r j).begin) ⊎ ((r j).answer < (r i).begin)
  pub order : Order n
  -- an operation that is answered before another begins comes before it
  pub real_time : (i j : ℕ) → i < n → j < n → (r i).answer < (r j).begin → order.when i < order.when j
  -- the ledger, empty at first, follows every operation in this order
  pub bag : FollowsAll empty_ledger (all_told (listed (λ k. r (order.which k)) 0 n))

-- and that order is the one that the records claim: positions count from 1
pub record AsClaimed (n : ℕ) (r : ℕ → Recorded) : Type 0 where
  pub linearization : Linearization n r
  pub claimed : (i : ℕ) → i < n → (r i).position ≡ suc (linearization.order.when i)
