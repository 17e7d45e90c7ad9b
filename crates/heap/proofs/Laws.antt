-- The laws of the heap: its top is the least, what it counts is in some entry, and what a store does to the counts. By induction.
-- Assumes nothing.
use Prim.Native.Nat.{ℕ, zero, suc, ◌+◌, ◌/◌, ◌≤◌, ◌<◌}
use native.Mathlib.Decide.{ℕ_discrete}
use native.Mathlib.Nat.{add-zero}
use native.Mathlib.Omega.{arith}
use mathlib.Core.Path.{◌≡◌, refl}
use mathlib.Core.Bool.{Bool, true, false}
use mathlib.Core.List.{List}
use borrow.Author.Tests.{eqb-true, eq-eqb}
use lib.Dec.{eqb}
use lib.ListN.{length, get_or, set}
use lib.Seq.{get_or-set_same, get_or-set_other}
use Rattle.region.specs.Pick.{pick}
use Rattle.heap.specs.Heap.{copies, Ordered}

-- No entry is less than the top: go up from parent to parent.
module _ (h : List ℕ) (n : ℕ) (o : Ordered h n) where
  upward : (d k : ℕ) → k ≤ d → 1 ≤ k → k ≤ n → get_or h 1 0 ≤ get_or h k 0
  upward zero k f l u = absurd (omega arith)
  upward (suc d) k f l u = go (upward d (k / 2) (omega arith)) (ℕ_discrete k 1)
    where
      go : (1 ≤ k / 2 → k / 2 ≤ n → get_or h 1 0 ≤ get_or h (k / 2) 0) → Dec (k ≡ 1) → get_or h 1 0 ≤ get_or h k 0
      go above (yes e) = rw e (omega arith)
      go above (no e) = omega (arith, above (omega arith) (omega arith), o k (omega arith) u)

  pub top_least : (k : ℕ) → 1 ≤ k → k ≤ n → get_or h 1 0 ≤ get_or h k 0
  top_least k l u = upward k k (omega arith) l u

-- One of the entries 1 to n is x.
pub record Held (h : List ℕ) (n x : ℕ) : Type 0 where
  pub entry : ℕ
  pub some : 1 ≤ entry
  pub within : entry ≤ n
  pub same : get_or h entry 0 ≡ x

pub held_somewhere : (h : List ℕ) (n x : ℕ) → 1 ≤ copies h n x → Held h n x
unfolding copies pick
held_somewhere h zero x l = absurd (omega arith)
held_somewhere h (suc n) x l = go (held_somewhere h n x) (eqb (get_or h (suc n) 0) x) refl
  where
    go : (1 ≤ copies h n x → Held h n x) → (q : Bool) → eqb (get_or h (suc n) 0) x ≡ q → Held h (suc n) x
    go rest true e =
        record { entry = suc n; some = omega arith; within = omega arith; same = eqb-true (get_or h (suc n) 0) x e }
    go rest false e =
        let r : Held h n x = rest (rw (e, add-zero) at l) in
        record { entry = r.entry; some = r.some; within = omega (arith, r.within); same = r.same }

pub entry_held : (h : List ℕ) (n k : ℕ) → 1 ≤ k → k ≤ n → 1 ≤ copies h n (get_or h k 0)
unfolding copies pick
entry_held h zero k l u = absurd (omega arith)
entry_held h (suc n) k l u = go (entry_held h n k l) (ℕ_discrete k (suc n))
  where
    go : (k ≤ n → 1 ≤ copies h n (get_or h k 0)) → Dec (k ≡ suc n) → 1 ≤ copies h (suc n) (get_or h k 0)
    go rest (yes e) = rw (e, eq-eqb (get_or h (suc n) 0) (get_or h (suc n) 0) refl) (omega arith)
    go rest (no e) = omega (arith, rest (omega arith))

-- A store above the entries changes no count,
pub copies_above : (h : List ℕ) (n k v y : ℕ) → n < k → copies (set h k v) n y ≡ copies h n y
unfolding copies
copies_above h zero k v y l = refl
copies_above h (suc n) k v y l =
    cc (copies_above h n k v y (omega arith), get_or-set_other h k (suc n) v 0 (omega arith))

-- and one at an entry takes away what was there and adds what is stored.
pub copies-set : (h : List ℕ) (n k v y : ℕ) → 1 ≤ k → k ≤ n → k < length h
    → copies (set h k v) n y + pick (eqb (get_or h k 0) y) 1 0 ≡ copies h n y + pick (eqb v y) 1 0
unfolding copies
copies-set h zero k v y l u r = absurd (omega arith)
copies-set h (suc n) k v y l u r = go (λ b. copies-set h n k v y l b r) (ℕ_discrete k (suc n))
  where
    go : (k ≤ n → copies (set h k v) n y + pick (eqb (get_or h k 0) y) 1 0 ≡ copies h n y + pick (eqb v y) 1 0)
        → Dec (k ≡ suc n)
        → copies (set h k v) (suc n) y + pick (eqb (get_or h k 0) y) 1 0 ≡ copies h (suc n) y + pick (eqb v y) 1 0
    go rest (yes e) =
        rw (← e, get_or-set_same h k v 0 r)
        (omega (arith, copies_above h n k v y (omega arith)))
    go rest (no e) =
        rw (get_or-set_other h k (suc n) v 0 (λ z. omega arith)) (omega (arith, rest (omega arith)))
