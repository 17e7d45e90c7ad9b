-- Where a record of a part lies.
-- Assumes nothing.
use Prim.Native.Nat.{ℕ, zero, suc, ◌+◌, ◌-◌, ◌*◌, ◌≤◌, ◌<◌}
use native.Mathlib.Nat.{mul-le-mul_left}
use native.Mathlib.Omega.{arith}
use mathlib.Core.Path.{◌≡◌, refl, ap, subst}
use Rattle.region.specs.declared.part.Part.{Part}
use Rattle.region.specs.Shared.{entry}

-- record k ends within the part
pub entry_end : (p : Part) (k : ℕ) → (k ≡ 0 → ⊥) → k ≤ p.count → entry p k + p.stride ≤ p.start + p.stride * p.count
entry_end p zero h l = absurd (h refl)
entry_end p (suc k) h l =
    let n : suc k - 1 ≡ k = omega arith in
    omega (arith, ap (λ m. p.stride * m) n, mul-le-mul_left p.stride l)

-- the same, counted from 0
pub record_within : (p : Part) (i : ℕ) → i < p.count → p.start + p.stride * i + p.stride ≤ p.start + p.stride * p.count
record_within p i l =
    let n : suc i - 1 ≡ i = omega arith in
    subst (λ k. p.start + p.stride * k + p.stride ≤ p.start + p.stride * p.count) n (entry_end p (suc i) (λ z. omega arith) l)
