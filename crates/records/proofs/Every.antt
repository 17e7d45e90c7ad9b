-- Tests of every number below n, and of some: what they say of each. Assumes nothing.
use Prim.Native.Nat.{ℕ, zero, suc, ◌+◌, ◌<◌}
use native.Mathlib.Omega.{arith}
use mathlib.Core.Path.{◌≡◌, refl, sym, subst}
use mathlib.Core.Bool.{Bool, true, false, ◌||◌, true≢false}
use borrow.Author.Tests.{eqb-true, eqb-false}
use lib.Dec.{eqb}
use Rattle.region.proofs.Shapes.{and_left, and_right, and_both}
use Rattle.records.specs.Recorded.{every, some}

pub each_of : (n : ℕ) (test : ℕ → Bool) → every n test ≡ true → (i : ℕ) → i < n → test i ≡ true
unfolding every
each_of zero test e i h = absurd (omega arith)
each_of (suc n) test e i h = go (eqb i n) refl (each_of n test (and_left (every n test) (test n) e) i)
  where
    go : (q : Bool) → eqb i n ≡ q → (i < n → test i ≡ true) → test i ≡ true
    go true k before = rw (eqb-true i n k) (and_right (every n test) (test n) e)
    go false k before = let ne : i ≡ n → ⊥ = eqb-false i n k in before (omega (arith, ne))

pub of_each : (n : ℕ) (test : ℕ → Bool) → ((i : ℕ) → i < n → test i ≡ true) → every n test ≡ true
unfolding every
of_each zero test h = refl
of_each (suc n) test h = and_both (of_each n test (λ i l. h i (omega arith))) (h n (omega arith))

pub or_left : {a : Bool} (b : Bool) → a ≡ true → a || b ≡ true
or_left {a} b e = rw e refl

pub or_right : (a : Bool) {b : Bool} → b ≡ true → a || b ≡ true
or_right true e = refl
or_right false e = e

pub of_some : (n : ℕ) (test : ℕ → Bool) (i : ℕ) → i < n → test i ≡ true → some n test ≡ true
unfolding some
of_some zero test i h e = absurd (omega arith)
of_some (suc n) test i h e = go (eqb i n) refl (λ l. of_some n test i l e)
  where
    go : (q : Bool) → eqb i n ≡ q → (i < n → some n test ≡ true) → some n test || test n ≡ true
    go true k before = or_right (some n test) (rw (← eqb-true i n k) e)
    go false k before = let ne : i ≡ n → ⊥ = eqb-false i n k in or_left (test n) (before (omega (arith, ne)))

-- a number below n that passes
pub record Found (n : ℕ) (test : ℕ → Bool) : Type 0 where
  pub which : ℕ
  pub below : which < n
  pub passes : test which ≡ true

pub some_found : (n : ℕ) (test : ℕ → Bool) → some n test ≡ true → Found n test
unfolding some
some_found zero test e = absurd (true≢false (sym e))
some_found (suc n) test e = go (test n) refl (some n test) refl e (some_found n test)
  where
    go : (q : Bool) → test n ≡ q → (p : Bool) → some n test ≡ p → p || q ≡ true → (some n test ≡ true → Found n test) → Found (suc n) test
    go true k p l h before = record { which = n; below = omega arith; passes = k }
    go false k true l h before =
        let f = before l in record { which = f.which; below = omega (arith, f.below); passes = f.passes }
    go false k false l h before = absurd (true≢false (sym h))

-- what holds below i, and at i
pub upto : (i : ℕ) (P : ℕ → Type 0) → ((a : ℕ) → a < i → P a) → P i → (a : ℕ) → a < i + 1 → P a
upto i P before now a l = go (eqb a i) refl
  where
    go : (q : Bool) → eqb a i ≡ q → P a
    go true e = subst P (sym (eqb-true a i e)) now
    go false e = let ne : a ≡ i → ⊥ = eqb-false a i e in before a (omega (arith, ne))
