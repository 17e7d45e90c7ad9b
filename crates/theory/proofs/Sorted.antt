-- Lists that never fall from head to end, of items below the value of an empty node. The head is least, and a lesser item goes to the
-- front. Assumes nothing.
use Prim.Native.Nat.{ℕ, ◌+◌, ◌≤◌}
use native.Mathlib.Omega.{arith}
use mathlib.Core.Path.{◌≡◌, refl, sym, subst}
use mathlib.Core.Bool.{Bool, true, false}
use mathlib.Core.List.{List, [], ◌∷◌}
use borrow.Author.Tests.{ne_eqb}
use lib.Dec.{eqb}
use Rattle.region.specs.Pick.{pick}
use Rattle.region.specs.Record.{same_item}
use Rattle.region.specs.declared.record.Cell.{Cell}
use Rattle.region.specs.declared.record.Item.{Item}
use Rattle.region.proofs.Items.{same_item_lem, item_same}
use Rattle.access.specs.Order.{item_le, top_item}
use Rattle.access.proofs.OrderLaws.{item_refl, item_total, item_trans}
use Rattle.theory.proofs.Chains.{Chain, ends, link, among, items}

-- a is at most b
abbrev pub AtMost : Item → Item → Type 0
AtMost a b = item_le a b ≡ true

-- below the value of an empty node
abbrev pub Proper : Item → Type 0
Proper i = item_le top_item i ≡ false

abbrev pub AllFrom : Item → List Item → Type 0
AllFrom v [] = Unit
AllFrom v (i ∷ is) = AtMost v i × AllFrom v is

abbrev pub Sorted : List Item → Type 0
Sorted [] = Unit
Sorted (i ∷ is) = Proper i × AllFrom i is × Sorted is

all_from : (v w : Item) (is : List Item) → AtMost v w → AllFrom w is → AllFrom v is
all_from v w [] h a = tt
all_from v w (i ∷ is) h a = (item_trans v w i h a.0, all_from v w is h a.1)

from_all : (v j : Item) (is : List Item) → AllFrom v is → 1 ≤ among (same_item j) is → AtMost v j
unfolding among pick
from_all v j [] a h = absurd (omega arith)
from_all v j (i ∷ is) a h = go (same_item j i) refl h (from_all v j is a.1)
  where
    go : (q : Bool) → same_item j i ≡ q → 1 ≤ pick q 1 0 + among (same_item j) is → (1 ≤ among (same_item j) is → AtMost v j) → AtMost v j
    go true e k r = subst (AtMost v) (sym (same_item_lem j i e)) a.0
    go false e k r = r (omega arith)

-- the value of a list that starts at cell c
abbrev pub value_at : (ℕ → Cell) → ℕ → Item
value_at cell c = pick (eqb c 0) top_item (cell c).item

module _ {cell : ℕ → Cell} {own rank : ℕ → ℕ} {o : ℕ} where
  -- what is at most the head is at most every item
  pub from_head : {c : ℕ} {cs : List ℕ} → Chain cell own rank o c cs → Sorted (items cell cs) → (v : Item)
      → AtMost v (value_at cell c) → AllFrom v (items cell cs)
  unfolding items pick
  from_head ends h v l = tt
  from_head (link d {cs = ds} p eo er k) h v l =
      let m : AtMost v (cell d).item = subst (λ q. AtMost v (pick q top_item (cell d).item)) (ne_eqb d 0 (λ z. omega arith)) l in
      (m, all_from v (cell d).item (items cell ds) m h.1)

  -- the head is at most every item of the list
  pub head_least : {c : ℕ} {cs : List ℕ} → Chain cell own rank o c cs → Sorted (items cell cs) → (j : Item)
      → 1 ≤ among (same_item j) (items cell cs) → AtMost (value_at cell c) j
  head_least {c} {cs} k h j l =
      from_all (value_at cell c) j (items cell cs) (from_head k h (value_at cell c) (item_refl (value_at cell c))) l

  -- a list that holds anything has a proper head
  pub head_proper : {c : ℕ} {cs : List ℕ} → Chain cell own rank o c cs → Sorted (items cell cs) → (j : Item)
      → 1 ≤ among (same_item j) (items cell cs) → Proper (value_at cell c)
  unfolding items among pick
  head_proper ends h j l = absurd (omega arith)
  head_proper (link d {cs = ds} p eo er k) h j l =
      subst (λ q. Proper (pick q top_item (cell d).item)) (sym (ne_eqb d 0 (λ z. omega arith))) h.0

  -- the head is counted
  pub head_counted : {c : ℕ} {cs : List ℕ} → Chain cell own rank o c cs → 1 ≤ c → 1 ≤ among (same_item (cell c).item) (items cell cs)
  unfolding items among pick
  head_counted ends l = absurd (omega arith)
  head_counted (link d {cs = ds} p eo er k) l = rw (item_same (cell d).item) (omega arith)

  -- no value is above that of an empty list
  pub top_value : {c : ℕ} {cs : List ℕ} → Chain cell own rank o c cs → Sorted (items cell cs) → AtMost (value_at cell c) top_item
  unfolding items pick
  top_value ends h = item_refl top_item
  top_value (link d {cs = ds} p eo er k) h =
      subst (λ q. AtMost (pick q top_item (cell d).item) top_item) (sym (ne_eqb d 0 (λ z. omega arith)))
      (item_total top_item (cell d).item h.0)
