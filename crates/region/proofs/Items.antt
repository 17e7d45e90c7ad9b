-- Items: when two are the same. Assumes nothing.
use mathlib.Core.Path.{◌≡◌, refl, sym, subst, ◌∙◌}
use mathlib.Core.Bool.{Bool, true, false, true≢false}
use borrow.Author.Tests.{eqb-true, eq-eqb}
use lib.Dec.{eqb}
use Rattle.region.specs.Record.{same_item}
use Rattle.region.specs.declared.record.Item.{Item}
use Rattle.region.proofs.Shapes.{and_left, and_right, and_both}

-- equal items are one
pub same_item_lem : (i j : Item) → same_item i j ≡ true → i ≡ j
unfolding same_item
same_item_lem i j e =
    let k = eqb-true i.key j.key (and_left (eqb i.key j.key) (eqb i.tag j.tag) e) in
    let t = eqb-true i.tag j.tag (and_right (eqb i.key j.key) (eqb i.tag j.tag) e) in
    λ x. record { key = k x; tag = t x }

pub item_same : (i : Item) → same_item i i ≡ true
unfolding same_item
item_same i = and_both (eq-eqb i.key i.key refl) (eq-eqb i.tag i.tag refl)

pub same_item_either : (i j : Item) → same_item i j ≡ same_item j i
same_item_either i j = go (same_item i j) (same_item j i) refl refl
  where
    go : (p q : Bool) → same_item i j ≡ p → same_item j i ≡ q → p ≡ q
    go true true e f = refl
    go false false e f = refl
    go true false e f = absurd (true≢false (sym (subst (λ k. same_item k i ≡ true) (same_item_lem i j e) (item_same i)) ∙ f))
    go false true e f = absurd (true≢false (sym (subst (λ k. same_item k j ≡ true) (same_item_lem j i f) (item_same j)) ∙ e))
