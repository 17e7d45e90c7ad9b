-- Levels of children and ancestors, and the waiting levels that a mending may carry there. Assumes nothing.
use Prim.Native.Nat.{ℕ, suc, ◌+◌, ◌-◌, ◌*◌, ◌/◌, ◌^◌, ◌≤◌, ◌<◌}
use native.Mathlib.Nat.{div-div-eq-div-mul, div-lt_iff_lt-mul, le-div_iff_mul-le, pow-suc}
use native.Mathlib.Omega.{arith}
use mathlib.Core.Path.{◌≡◌, sym, ap, subst, ◌∙◌}
use borrow.Author.Tests.{lt-ltb}
use lib.Pow.{pow_mono, pow_pos, pow-add}
use Rattle.region.specs.Level.{ancestor, level, mark}
use Rattle.region.specs.Pick.{pick}
use Rattle.region.proofs.Levels.{AtLevel, level_at_most, level_holds, level_most, level_unique, node_some, power_doubles}
use Rattle.moundify.specs.Moundify.{marked}
use Rattle.readable.proofs.Stores.{WaitsAbove}

-- a child is one level down
pub level_child : (n c : ℕ) → 1 ≤ n → 2 * n ≤ c → c ≤ 2 * n + 1 → c < 2 ^ 32 → level c ≡ level n + 1
level_child n c p lo hi fits =
    let g = level_holds n p (omega arith) in
    let e : level n + 1 - 1 ≡ level n = omega arith in
    let a = power_doubles (level n) g.some in
    let b = power_doubles (level n + 1) (omega arith) in
    let b' = ap (λ j. 2 ^ j) e in
    level_unique c (level n + 1) (omega (arith, g.least, a, b')) (omega (arith, g.most, b, b')) fits

module _ (n c w : ℕ) (p : 1 ≤ n) (lo : 2 * n ≤ c) (hi : c ≤ 2 * n + 1) (fits : c < 2 ^ 32) (h : WaitsAbove n w) where
  child_power : 2 ^ (level c - 1) ≡ 2 ^ level n
  child_power = ap (λ j. 2 ^ j) (let e = level_child n c p lo hi fits in omega arith)

  pub waits_at_child : WaitsAbove c w
  waits_at_child =
      let g = level_holds n p (omega arith) in
      omega (arith, child_power, power_doubles (level n) g.some, h, pow_pos (level n - 1))

  pub waits_marked : WaitsAbove c (marked w (level n))
  unfolding marked pick
  waits_marked =
      let g = level_holds n p (omega arith) in
      let m : w < 2 ^ (level n - 1) = omega (arith, h, pow_pos (level n - 1)) in
      rw (lt-ltb w (2 ^ (level n - 1)) m) (omega (arith, child_power, power_doubles (level n) g.some))

-- A node's ancestor at a level that it has.
module _ (n j : ℕ) (few : n < 2 ^ 32) (least : 1 ≤ j) (most : j ≤ level n) where
  abbrev l : ℕ
  l = level n

  holds : AtLevel n
  holds = level_holds n (node_some n (omega arith)) few

  pub ancestor_least : 2 ^ (j - 1) ≤ ancestor n j
  unfolding ancestor
  ancestor_least =
      let e : j - 1 + (l - j) ≡ l - 1 = omega arith in
      let p : 2 ^ (j - 1) * 2 ^ (l - j) ≡ 2 ^ (l - 1) = sym (pow-add 2 (j - 1) (l - j)) ∙ ap (λ k. 2 ^ k) e in
      (le-div_iff_mul-le (pow_pos (l - j))).1 (subst (λ k. k ≤ n) (sym p) holds.least)

  pub ancestor_most : ancestor n j < 2 ^ j
  unfolding ancestor
  ancestor_most =
      let e : j + (l - j) ≡ l = omega arith in
      let p : 2 ^ j * 2 ^ (l - j) ≡ 2 ^ l = sym (pow-add 2 j (l - j)) ∙ ap (λ k. 2 ^ k) e in
      (div-lt_iff_lt-mul (pow_pos (l - j))).1 (subst (λ k. n < k) (sym p) holds.most)

  pub ancestor-level : level (ancestor n j) ≡ j
  ancestor-level =
      level_unique (ancestor n j) j ancestor_least ancestor_most
      (omega (arith, ancestor_most, pow_mono {i = j} {j = 32} (omega (arith, level_most n))))

-- one level up is the parent
pub ancestor_parent : (n j : ℕ) → j < level n → ancestor n (j + 1) / 2 ≡ ancestor n j
unfolding ancestor
ancestor_parent n j h =
    let k = level n - (j + 1) in
    let e : suc k ≡ level n - j = omega arith in
    div-div-eq-div-mul n (2 ^ k) 2 ∙ ap (λ x. n / x) (omega (arith, pow-suc 2 k) ∙ ap (λ x. 2 ^ x) e)

-- the ancestor at the deepest waiting level, with that level's mark cleared
module _ (n w : ℕ) (few : n < 2 ^ 32) (nw : w ≡ 0 → ⊥) (h : WaitsAbove n w) where
  pub fits : w < 2 ^ 32
  fits = omega (arith, h, pow_mono {i = level n - 1} {j = 31} (omega (arith, level_most n)))

  pub above : level w < level n
  above =
      let g = level_holds w (omega arith) fits in
      omega (arith, g.some, level_at_most w (level n - 1) (omega arith) fits (omega (arith, h, pow_pos (level n - 1))))

  pub waits_returned : WaitsAbove (ancestor n (level w)) (w - mark (level w))
  waits_returned =
      let g = level_holds w (omega arith) fits in
      let e = ap (λ k. 2 ^ (k - 1)) (ancestor-level n (level w) few g.some (omega (arith, above))) in
      omega (arith, g.most, power_doubles (level w) g.some, e, pow_pos (level w - 1))
