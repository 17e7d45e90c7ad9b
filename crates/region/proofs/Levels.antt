-- A node's level: its digits and its leading zeros are 32 together, and level j holds nodes 2^(j−1) to 2^j − 1. Assumes nothing.
use Prim.Native.Nat.{ℕ, zero, suc, ◌+◌, ◌-◌, ◌*◌, ◌/◌, ◌^◌, ◌≤◌, ◌<◌}
use native.Mathlib.Decide.{dec_lt}
use native.Mathlib.Nat.{div-one}
use native.Mathlib.Omega.{arith}
use mathlib.Core.Path.{◌≡◌, refl, sym, ap, subst, ◌∙◌}
use lib.Count.{count_leading_zeros, leading_top}
use lib.Pow.{pow_mono, pow_pos}
use Rattle.region.specs.Level.{ancestor, digits, level}

digits_leading : (k n : ℕ) → digits k n + count_leading_zeros k n ≡ k
unfolding digits count_leading_zeros
digits_leading zero n = refl
digits_leading (suc k) zero = omega arith
digits_leading (suc k) (suc n) = omega (arith, digits_leading k (suc n / 2))

pub level_leading : (n : ℕ) → 32 - count_leading_zeros 32 n ≡ level n
unfolding level
level_leading n = omega (arith, digits_leading 32 n)

pub record AtLevel (n : ℕ) : Type 0 where
  pub some : 1 ≤ level n
  pub least : 2 ^ (level n - 1) ≤ n
  pub most : n < 2 ^ level n

pub level_holds : (n : ℕ) → 1 ≤ n → n < 2 ^ 32 → AtLevel n
unfolding level
level_holds n p h =
    let t = leading_top 32 n p h in
    let e : t.0 ≡ level n - 1 = omega (arith, digits_leading 32 n, t.1) in
    let e' : suc t.0 ≡ level n = omega (arith, digits_leading 32 n, t.1) in
    record {
      some = omega (arith, digits_leading 32 n, t.1);
      least = subst (λ j. 2 ^ j ≤ n) e t.2;
      most = subst (λ j. n < 2 ^ j) e' t.3;
    }

pub level_most : (n : ℕ) → level n ≤ 32
unfolding level
level_most n = omega (arith, digits_leading 32 n)

-- node 0 alone has level 0
pub level_some : (n : ℕ) → 1 ≤ n → 1 ≤ level n
unfolding level digits
level_some zero h = absurd (omega arith)
level_some (suc n) h = omega arith

pub node_some : (n : ℕ) → 1 ≤ level n → 1 ≤ n
unfolding level digits
node_some zero h = absurd (omega arith)
node_some (suc n) h = omega arith

-- each level has twice the nodes of the one above
pub power_doubles : (j : ℕ) → 1 ≤ j → 2 ^ j ≡ 2 * 2 ^ (j - 1)
power_doubles (suc k) h =
    let e : suc k - 1 ≡ k = omega arith in
    omega (arith, ap (λ j. 2 ^ j) e)
power_doubles zero h = omega arith

-- a number of at least 2^(j−1) has level j or a deeper one; one below 2^j has level j or a higher one
module _ (n j : ℕ) (some : 1 ≤ n) (fits : n < 2 ^ 32) where
  pub level_at_least : 2 ^ (j - 1) ≤ n → j ≤ level n
  level_at_least h = go (dec_lt (level n) j)
    where
      go : Dec (level n < j) → j ≤ level n
      go (yes k) =
          let b = pow_mono {i = level n} {j = j - 1} (omega arith) in
          absurd (omega (arith, (level_holds n some fits).most, b, h))
      go (no k) = omega arith

  pub level_at_most : n < 2 ^ j → level n ≤ j
  level_at_most h = go (dec_lt j (level n))
    where
      go : Dec (j < level n) → level n ≤ j
      go (yes k) =
          let b = pow_mono {i = j} {j = level n - 1} (omega arith) in
          absurd (omega (arith, (level_holds n some fits).least, b, h))
      go (no k) = omega arith

-- a number between 2^(j−1) and 2^j has level j
pub level_unique : (n j : ℕ) → 2 ^ (j - 1) ≤ n → n < 2 ^ j → n < 2 ^ 32 → level n ≡ j
level_unique n j lo hi fits =
    let some : 1 ≤ n = omega (arith, lo, pow_pos (j - 1)) in
    omega (arith, level_at_least n j some fits lo, level_at_most n j some fits hi)

-- at its own level or a deeper one, a node is its own ancestor
pub ancestor_itself : (n j l : ℕ) → l ≡ level n → l ≤ j → n ≡ ancestor n j
unfolding ancestor
ancestor_itself n j l e h =
    let z : 0 ≡ level n - j = omega arith in
    sym (div-one n) ∙ ap (λ k. n / 2 ^ k) z
