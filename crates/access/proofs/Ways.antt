-- The ways out of the functions, over plain variables. Assumes nothing.
use Prim.Native.Nat.{ℕ, ◌+◌, ◌*◌, ◌<◌, ◌^◌}
use native.Mathlib.Omega.{arith}
use mathlib.Core.Path.{◌≡◌, refl, sym, ◌∙◌}
use mathlib.Core.Bool.{Bool, true, false}
use borrow.Author.Tests.{ltb-true, ltb-false, leb-true, leb-false, eqb-true, eqb-false, le-leb, lt-leb, eq-eqb, ne_eqb}
use lib.Dec.{leb, ltb, eqb}
use Rattle.region.specs.Pick.{pick}
use Rattle.region.specs.Record.{counter_of, greatest_counter}
use Rattle.region.specs.declared.record.Item.{Item}
use Rattle.region.specs.declared.record.Node.{Node}
use Rattle.access.specs.Order.{item_le}
use Rattle.access.specs.Read.{is_spent}

-- a key counts more than a tag, which is one word
pub by_rank : (a b : Item) (x y : ℕ) → x ≡ a.key * 2 ^ 32 + a.tag → y ≡ b.key * 2 ^ 32 + b.tag → a.tag < 2 ^ 32
    → b.tag < 2 ^ 32 → leb x y ≡ item_le a b
unfolding item_le pick
by_rank a b x y ex ey la lb = go (eqb a.key b.key) refl
  where
    tags : a.key ≡ b.key → (q : Bool) → leb a.tag b.tag ≡ q → leb x y ≡ q
    tags k true e = le-leb x y (omega (arith, leb-true a.tag b.tag e))
    tags k false e = lt-leb x y (omega (arith, leb-false a.tag b.tag e))

    keys : (a.key ≡ b.key → ⊥) → (q : Bool) → ltb a.key b.key ≡ q → leb x y ≡ q
    keys n true e = le-leb x y (omega (arith, ltb-true a.key b.key e))
    keys n false e = lt-leb x y (omega (arith, n, ltb-false a.key b.key e))

    go : (q : Bool) → eqb a.key b.key ≡ q → leb x y ≡ pick q (leb a.tag b.tag) (ltb a.key b.key)
    go true e = tags (eqb-true a.key b.key e) (leb a.tag b.tag) refl
    go false e = keys (eqb-false a.key b.key e) (ltb a.key b.key) refl

-- the counter has its last value where both its words have
module _ (n : Node) (fl : n.low < 2 ^ 32) (fh : n.high < 2 ^ 32) where
  pub low_decides : (n.low ≡ 4294967295 → ⊥) → eqb n.low 4294967295 ≡ is_spent n
  unfolding is_spent counter_of
  low_decides h = ne_eqb n.low 4294967295 h ∙ sym (ne_eqb (counter_of n) greatest_counter (λ e. omega (arith, h, e)))

  pub high_decides : n.low ≡ 4294967295 → eqb n.high 4294967295 ≡ is_spent n
  unfolding is_spent counter_of
  high_decides l = go (eqb n.high 4294967295) refl
    where
      go : (q : Bool) → eqb n.high 4294967295 ≡ q → q ≡ eqb (counter_of n) greatest_counter
      go true e = let h = eqb-true n.high 4294967295 e in sym (eq-eqb (counter_of n) greatest_counter (omega arith))
      go false e = let h = eqb-false n.high 4294967295 e in sym (ne_eqb (counter_of n) greatest_counter (λ z. omega (arith, h, z)))
