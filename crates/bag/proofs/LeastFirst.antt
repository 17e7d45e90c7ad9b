-- A bag has one least item; and what has another item's key and a greater tag stays behind it. From the ledger's clauses and the laws of the
-- order alone. Assumes nothing.
use Prim.Native.Nat.{ℕ, ◌+◌, ◌-◌, ◌≤◌, ◌<◌}
use native.Mathlib.Omega.{arith}
use mathlib.Core.Path.{◌≡◌, refl, sym, ap, subst, subst₂, ◌∙◌}
use mathlib.Core.Bool.{Bool, true, false, true≢false}
use mathlib.Core.List.{List, [], ◌∷◌}
use borrow.Author.Tests.{not-true}
use Rattle.region.specs.Pick.{pick}
use Rattle.region.specs.Record.{same_item}
use Rattle.region.specs.declared.record.Item.{Item}
use Rattle.region.proofs.Items.{item_same, same_item_lem}
use Rattle.access.specs.Order.{item_le, item_lt}
use Rattle.access.proofs.OrderLaws.{item_antisym, item_by_tag, item_key, item_refl, item_total}
use Rattle.theory.specs.Ledger.{Ledger, Least, Follows, still, put_begins, take_begins, list_begins, put_decides, take_decides, list_decides, empty_decides, take_answers, one_more, one_less, ends_withdrawn}
use Rattle.theory.specs.Told.{Told, decides_list}
use Rattle.bag.specs.Demand3.{Agrees, HoldsTheSame}
use Rattle.bag.specs.History.{Moment}
use Rattle.bag.specs.Moments.{EachMoment}
use Rattle.bag.specs.Theorems.{LeastHasLeastKey, LeastIsOne, StaysBehind}

-- no other item that the bag holds is at most its least
least_below : (bag : Item → ℕ) (i j : Item) → Least bag i → 1 ≤ bag j → (j ≡ i → ⊥) → item_le j i ≡ false
unfolding item_lt
least_below bag i j l h n = not-true (item_le j i) (l.others_greater j h n)

-- the least is at most every item that the bag holds
least_most : (bag : Item → ℕ) (i j : Item) → Least bag i → 1 ≤ bag j → item_le i j ≡ true
least_most bag i j l h = go (same_item j i) refl
  where
    go : (q : Bool) → same_item j i ≡ q → item_le i j ≡ true
    go true e = subst (λ x. item_le i x ≡ true) (sym (same_item_lem j i e)) (item_refl i)
    go false e =
        item_total j i
        (least_below bag i j l h (λ k. true≢false (sym (subst (λ x. same_item j x ≡ true) k (item_same j)) ∙ e)))

pub least_is_one : LeastIsOne
least_is_one bag i j li lj = item_antisym i j (least_most bag i j li lj.held) (least_most bag j i lj li.held)

pub least_has_least_key : LeastHasLeastKey
least_has_least_key bag i j l h = item_key i j (least_most bag i j l h)

-- what follows, but for a list's 18, takes no copy of an item away while one with its key and a smaller tag is there
module _ (i j : Item) (key : i.key ≡ j.key) (tag : i.tag < j.tag) where
  stays : {x : Told} {l l' : Ledger} → Follows x l l' → ((t : ℕ) (is : List Item) → x ≡ decides_list t is → ⊥) → 1 ≤ l.bag i → l.bag j ≤ l'.bag j
  unfolding one_more one_less pick
  stays still n h = omega arith
  stays (put_begins e) n h = omega arith
  stays (take_begins e) n h = omega arith
  stays (list_begins e) n h = omega arith
  stays (put_decides {l = l} {i = k} e) n h = go (same_item k j)
    where
      go : (q : Bool) → l.bag j ≤ pick q (l.bag j + 1) (l.bag j)
      go true = omega arith
      go false = omega arith
  stays (list_decides {t = t} {i = k} {is = is} e least all) n h = absurd (n t (k ∷ is) refl)
  stays (take_decides {l = l} {i = k} e least) n h = go (same_item k j) refl
    where
      go : (q : Bool) → same_item k j ≡ q → l.bag j ≤ pick q (l.bag j - 1) (l.bag j)
      go true s =
          let kj = same_item_lem k j s in
          let other : i ≡ k → ⊥ = λ z. omega (arith, tag, ap (λ y. y.tag) (z ∙ kj)) in
          absurd (true≢false (sym (subst (λ y. item_le i y ≡ true) (sym kj) (item_by_tag i j key (omega (arith, tag))))
          ∙ least_below l.bag k i least h other))
      go false s = omega arith
  stays (empty_decides e un z) n h = omega arith
  stays (take_answers e) n h = omega arith
  stays (ends_withdrawn e un) n h = omega arith

now_the_same : (l : Ledger) (b : List ℕ) (ms : List Moment) → Agrees l b ms → HoldsTheSame l b
now_the_same l b [] a = a
now_the_same l b (m ∷ ms) a = a.0

-- so it is at every moment where the ledger follows and holds what the tree holds
pub stays_behind : (l : Ledger) (b : List ℕ) (ms : List Moment) → Agrees l b ms → EachMoment StaysBehind b ms
stays_behind l b [] a = tt
stays_behind l b (m ∷ ms) (same, (l', follows, rest)) = (
  λ one i j key tag h.
      subst₂ (λ x y. x ≤ y) (same j) (now_the_same l' m.region ms rest j)
      (stays i j key tag follows one (subst (λ x. 1 ≤ x) (sym (same i)) h)),
  stays_behind l' m.region ms rest,
)
