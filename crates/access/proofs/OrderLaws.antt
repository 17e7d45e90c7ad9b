-- The laws of the order of items: a total order, by key and then tag, with the value of an empty node above every item that a cell can hold.
-- All that is proved of comparisons goes by these. Assumes nothing.
use Prim.Native.Nat.{◌≤◌, ◌<◌}
use native.Mathlib.Omega.{arith}
use mathlib.Core.Path.{◌≡◌, refl, sym, ◌∙◌}
use mathlib.Core.Bool.{Bool, true, false, not}
use borrow.Author.Tests.{ltb-true, ltb-false, leb-true, leb-false, eqb-true, eqb-false, lt-ltb, le-leb, eq-eqb, ne_eqb, not-false}
use lib.Dec.{leb, ltb, eqb}
use Rattle.region.specs.Pick.{pick}
use Rattle.region.specs.Record.{greatest_tag}
use Rattle.region.specs.declared.record.Item.{Item}
use Rattle.access.specs.Order.{item_le, item_lt, top_item}

-- a is at most b, in numbers
data UpTo (a b : Item) : Type 0 where
  by_key : a.key < b.key → UpTo a b
  by_tag : a.key ≡ b.key → a.tag ≤ b.tag → UpTo a b

-- the test holds exactly where the numbers say so
module _ (a b : Item) where
  holds : UpTo a b → item_le a b ≡ true
  unfolding item_le pick
  holds (by_key h) = rw (ne_eqb a.key b.key (λ e. omega arith)) (lt-ltb a.key b.key h)
  holds (by_tag e h) = rw (eq-eqb a.key b.key e) (le-leb a.tag b.tag h)

  held : item_le a b ≡ true → UpTo a b
  unfolding item_le pick
  held = go (eqb a.key b.key) refl
    where
      go : (q : Bool) → eqb a.key b.key ≡ q → pick q (leb a.tag b.tag) (ltb a.key b.key) ≡ true → UpTo a b
      go true e h = by_tag (eqb-true a.key b.key e) (leb-true a.tag b.tag h)
      go false e h = by_key (ltb-true a.key b.key h)

  failed : item_le a b ≡ false → UpTo b a
  unfolding item_le pick
  failed = go (eqb a.key b.key) refl
    where
      go : (q : Bool) → eqb a.key b.key ≡ q → pick q (leb a.tag b.tag) (ltb a.key b.key) ≡ false → UpTo b a
      go true e h = by_tag (sym (eqb-true a.key b.key e)) (omega (arith, leb-false a.tag b.tag h))
      go false e h =
          let n : a.key ≡ b.key → ⊥ = eqb-false a.key b.key e in
          by_key (omega (arith, n, ltb-false a.key b.key h))

  -- and fails elsewhere
  fails : (UpTo a b → ⊥) → item_le a b ≡ false
  fails n = go (item_le a b) refl
    where
      go : (q : Bool) → item_le a b ≡ q → q ≡ false
      go true e = absurd (n (held e))
      go false e = refl

pub item_refl : (a : Item) → item_le a a ≡ true
item_refl a = holds a a (by_tag refl (omega arith))

pub item_trans : (a b c : Item) → item_le a b ≡ true → item_le b c ≡ true → item_le a c ≡ true
item_trans a b c p q = holds a c (go (held a b p) (held b c q))
  where
    go : UpTo a b → UpTo b c → UpTo a c
    go (by_key h) (by_key k) = by_key (omega arith)
    go (by_key h) (by_tag e k) = by_key (omega arith)
    go (by_tag e h) (by_key k) = by_key (omega arith)
    go (by_tag e h) (by_tag f k) = by_tag (e ∙ f) (omega arith)

pub item_total : (a b : Item) → item_le a b ≡ false → item_le b a ≡ true
item_total a b p = holds b a (failed a b p)

pub item_antisym : (a b : Item) → item_le a b ≡ true → item_le b a ≡ true → a ≡ b
item_antisym a b p q = go (held a b p) (held b a q)
  where
    go : UpTo a b → UpTo b a → a ≡ b
    go (by_key h) (by_key k) = absurd (omega arith)
    go (by_key h) (by_tag e k) = absurd (omega arith)
    go (by_tag e h) (by_key k) = absurd (omega arith)
    go (by_tag e h) (by_tag f k) = let t : a.tag ≡ b.tag = omega arith in λ i. record { key = e i; tag = t i }

-- what is at most another item, and is not that item, is less
pub item_less : (a b : Item) → item_le a b ≡ true → (b ≡ a → ⊥) → item_lt a b ≡ true
unfolding item_lt
item_less a b p n = go (item_le b a) refl
  where
    go : (q : Bool) → item_le b a ≡ q → not q ≡ true
    go true e = absurd (n (item_antisym b a e p))
    go false e = refl

pub item_not_less : (a b : Item) → item_lt a b ≡ false → item_le b a ≡ true
unfolding item_lt
item_not_less a b e = not-false (item_le b a) e

-- what is at most another has no greater key
pub item_key : (a b : Item) → item_le a b ≡ true → a.key ≤ b.key
item_key a b p = go (held a b p)
  where
    go : UpTo a b → a.key ≤ b.key
    go (by_key h) = omega arith
    go (by_tag e h) = omega arith

-- of equal keys the smaller tag is first
pub item_by_tag : (a b : Item) → a.key ≡ b.key → a.tag ≤ b.tag → item_le a b ≡ true
item_by_tag a b e h = holds a b (by_tag e h)

-- "an empty node is above every item": every key that a word can hold, and every tag in range
pub item_below_top : (a : Item) → a.key ≤ 4294967295 → a.tag ≤ greatest_tag → item_le top_item a ≡ false
item_below_top a hk ht = fails top_item a go
  where
    go : UpTo top_item a → ⊥
    go (by_key h) = omega arith
    go (by_tag e h) = omega arith
