-- What a comparison, the dirty mark and the counter's test tell of a node, and what an update makes of it. Assumes nothing.
use Prim.Native.Nat.{ℕ, ◌+◌, ◌*◌, ◌/◌, ◌^◌, ◌≤◌, ◌<◌}
use native.Mathlib.Omega.{arith}
use mathlib.Core.Path.{◌≡◌, refl, sym, ◌∙◌}
use mathlib.Core.Bool.{Bool, true, false, ◌&&◌}
use borrow.Author.Tests.{eq-eqb, eqb-true, eqb-false, not-true, not-false}
use lib.Dec.{eqb}
use Rattle.region.specs.Record.{counter_of, greatest_counter}
use Rattle.region.specs.declared.record.Node.{Node}
use Rattle.region.proofs.Shapes.{and_left, and_right}
use Rattle.access.specs.Read.{is_dirty, is_spent, same_node, updated}

-- "a comparison takes cell, dirty and counter together": what it finds equal is equal
pub same_node_lem : (a b : Node) → same_node a b ≡ true → a ≡ b
unfolding same_node
same_node_lem a b e =
    let ef = eqb a.first b.first in
    let ed = eqb a.dirty b.dirty in
    let el = eqb a.low b.low in
    let eh = eqb a.high b.high in
    let three = and_left (ef && ed && el) eh e in
    let two = and_left (ef && ed) el three in
    let f = eqb-true a.first b.first (and_left ef ed two) in
    let d = eqb-true a.dirty b.dirty (and_right ef ed two) in
    let l = eqb-true a.low b.low (and_right (ef && ed) el three) in
    let h = eqb-true a.high b.high (and_right (ef && ed && el) eh e) in
    λ i. record { first = f i; dirty = d i; low = l i; high = h i }

-- and it finds every node equal to itself
pub same_itself : (n : Node) → same_node n n ≡ true
unfolding same_node
same_itself n =
    rw (
      eq-eqb n.first n.first refl,
      eq-eqb n.dirty n.dirty refl,
      eq-eqb n.low n.low refl,
      eq-eqb n.high n.high refl,
    )
    refl

pub is_dirty_lem : (n : Node) → is_dirty n ≡ true → 1 ≤ n.dirty
unfolding is_dirty
is_dirty_lem n e = let z = eqb-false n.dirty 0 (not-true (eqb n.dirty 0) e) in omega arith

pub is_clean : (n : Node) → is_dirty n ≡ false → n.dirty ≡ 0
unfolding is_dirty
is_clean n e = eqb-true n.dirty 0 (not-false (eqb n.dirty 0) e)

pub not_spent : (n : Node) (p : Bool) → p ≡ is_spent n → p ≡ false → is_spent n ≡ false
not_spent n p e g = sym e ∙ g

-- a counter that is not spent has a next value: the carry fits the high word
pub carry_fits : (n : Node) → is_spent n ≡ false → n.low < 2 ^ 32 → n.high < 2 ^ 32 → n.high + (n.low + 1) / 4294967296 < 2 ^ 32
unfolding is_spent
carry_fits n e l h =
    let ne : n.low + 4294967296 * n.high ≡ greatest_counter → ⊥ = eqb-false (counter_of n) greatest_counter e in
    omega (arith, ne)

-- An update gives a node another list and mark, and makes its counter one more: by these laws alone the theory of the mound knows it.
module _ (n : Node) (first dirty : ℕ) where
  pub updated-first : (updated n first dirty).first ≡ first
  unfolding updated
  updated-first = refl

  pub updated-dirty : (updated n first dirty).dirty ≡ dirty
  unfolding updated
  updated-dirty = refl

  pub updated_counter : counter_of (updated n first dirty) ≡ counter_of n + 1
  unfolding updated counter_of
  updated_counter = omega arith

  pub updated-low : (updated n first dirty).low < 2 ^ 32
  unfolding updated
  updated-low = omega arith

  pub updated-high : (updated n first dirty).high ≡ n.high + (n.low + 1) / 4294967296
  unfolding updated
  updated-high = refl
