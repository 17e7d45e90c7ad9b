-- The bag as a heap of packed items: the top is the least item, a push adds one, a pop removes one; and the ways out of one play, over plain
-- variables. Assumes nothing.
use Prim.Native.Nat.{ℕ, zero, suc, ◌+◌, ◌-◌, ◌≤◌, ◌<◌}
use native.Mathlib.Omega.{arith}
use mathlib.Core.Path.{◌≡◌, refl, sym, ap, subst, ◌∙◌}
use mathlib.Core.Bool.{Bool, true, false, ◌||◌, true≢false}
use mathlib.Core.Logic.{◌⊎◌, ⊎_elim}
use mathlib.Core.List.{List, [], ◌∷◌}
use borrow.Author.Tests.{eqb-true, eqb-false, ltb-true, leb-true, lt-ltb, le-leb, eq-eqb, ne_eqb}
use lib.Dec.{eqb, ltb, leb}
use lib.ListN.{length, get_or}
use Rattle.std.specs.Prelude.{None, Some, IsTrue, ◌↔◌}
use Rattle.region.specs.Pick.{pick}
use Rattle.region.specs.Record.{greatest_tag, is_item, same_item}
use Rattle.region.specs.declared.record.Item.{Item}
use Rattle.region.proofs.Items.{item_same, same_item_lem}
use Rattle.region.proofs.Shapes.{and_left, and_right, and_both, between_least, between_most}
use Rattle.access.specs.Order.{item_le}
use Rattle.heap.specs.Heap.{Popped, Pushed, copies, least}
use Rattle.heap.proofs.Laws.{Held, entry_held, held_somewhere, top_least}
use Rattle.records.specs.Inner.{AllItems, InHeap, PlayedOne, packed, packed_copies}
use Rattle.records.specs.Recorded.{in_range}
use Rattle.records.specs.Play.{bag_after, bag_gives, holds, is_empty_bag, is_least, none_less, without}
use Rattle.records.specs.declared.form.Recorded.{Recorded}
use Rattle.records.proofs.Every.{or_left, or_right}
use Rattle.records.proofs.Ranges.{range_item, range_kind}

item_tag : (i : Item) → is_item i ≡ true → i.tag ≤ greatest_tag
unfolding is_item
item_tag i e = leb-true i.tag greatest_tag (and_right (leb i.key 4294967294) (leb i.tag greatest_tag) e)

-- Packed items compare as items do.
module _ (a b : Item) (ia : is_item a ≡ true) (ib : is_item b ≡ true) where
  le-packed : item_le a b ≡ true → packed a ≤ packed b
  unfolding item_le pick packed
  le-packed = go (eqb a.key b.key) refl
    where
      go : (q : Bool) → eqb a.key b.key ≡ q → pick q (leb a.tag b.tag) (ltb a.key b.key) ≡ true → packed a ≤ packed b
      go true e h = let k = eqb-true a.key b.key e in let t = leb-true a.tag b.tag h in omega (arith, k, t)
      go false e h = let k = ltb-true a.key b.key h in omega (arith, k, item_tag a ia)

  packed-le : packed a ≤ packed b → item_le a b ≡ true
  unfolding item_le pick packed
  packed-le l = go (eqb a.key b.key) refl
    where
      go : (q : Bool) → eqb a.key b.key ≡ q → pick q (leb a.tag b.tag) (ltb a.key b.key) ≡ true
      go true e = let k = eqb-true a.key b.key e in le-leb a.tag b.tag (omega (arith, k, l))
      go false e =
          let k : a.key ≡ b.key → ⊥ = eqb-false a.key b.key e in
          lt-ltb a.key b.key (omega (arith, k, l, item_tag a ia, item_tag b ib))

  packed_same : packed a ≡ packed b → a ≡ b
  unfolding packed
  packed_same e =
      let k : a.key ≡ b.key = omega (arith, e, item_tag a ia, item_tag b ib) in
      let t : a.tag ≡ b.tag = omega (arith, e, k) in
      λ x. record { key = k x; tag = t x }

-- an item of the bag with this packed number
record InBag (bag : List Item) (x : ℕ) : Type 0 where
  which : Item
  number : packed which ≡ x
  ranged : is_item which ≡ true
  held : holds bag which ≡ true

packed_held : (bag : List Item) (x : ℕ) → AllItems bag → 1 ≤ packed_copies bag x → InBag bag x
unfolding packed_copies pick holds
packed_held [] x a h = absurd (omega arith)
packed_held (i ∷ bag) x a h = go (eqb (packed i) x) refl h (packed_held bag x a.1)
  where
    go : (q : Bool) → eqb (packed i) x ≡ q → 1 ≤ packed_copies bag x + pick q 1 0 → (1 ≤ packed_copies bag x → InBag bag x) → InBag (i ∷ bag) x
    go true e l before =
        record { which = i; number = eqb-true (packed i) x e; ranged = a.0; held = or_left (holds bag i) (item_same i) }
    go false e l before =
        let f = before (omega (arith, l)) in
        record { which = f.which; number = f.number; ranged = f.ranged; held = or_right (same_item i f.which) f.held }

held_ranged : (bag : List Item) (i : Item) → AllItems bag → holds bag i ≡ true → is_item i ≡ true
unfolding holds
held_ranged [] i a h = absurd (true≢false (sym h))
held_ranged (j ∷ bag) i a h = go (same_item j i) refl h (held_ranged bag i a.1)
  where
    go : (q : Bool) → same_item j i ≡ q → q || holds bag i ≡ true → (holds bag i ≡ true → is_item i ≡ true) → is_item i ≡ true
    go true e k before = subst (λ y. is_item y ≡ true) (same_item_lem j i e) a.0
    go false e k before = before k

held_packed : (bag : List Item) (i : Item) → holds bag i ≡ true → 1 ≤ packed_copies bag (packed i)
unfolding packed_copies pick holds
held_packed [] i h = absurd (true≢false (sym h))
held_packed (j ∷ bag) i h = go (same_item j i) refl h (held_packed bag i)
  where
    go : (q : Bool) → same_item j i ≡ q → q || holds bag i ≡ true → (holds bag i ≡ true → 1 ≤ packed_copies bag (packed i))
        → 1 ≤ packed_copies bag (packed i) + pick (eqb (packed j) (packed i)) 1 0
    go true e k before = rw (eq-eqb (packed j) (packed i) (ap packed (same_item_lem j i e))) (omega arith)
    go false e k before = let l = before k in omega (arith, l)

pub none_less_lem : (bag : List Item) (i : Item) → ((j : Item) → holds bag j ≡ true → item_le i j ≡ true) → none_less bag i ≡ true
unfolding none_less holds
none_less_lem [] i h = refl
none_less_lem (j ∷ bag) i h =
    and_both (h j (or_left (holds bag j) (item_same j))) (none_less_lem bag i (λ k e. h k (or_right (same_item j k) e)))

pub least_of : (bag : List Item) (i : Item) → none_less bag i ≡ true → (j : Item) → holds bag j ≡ true → item_le i j ≡ true
unfolding none_less holds
least_of [] i e j h = absurd (true≢false (sym h))
least_of (k ∷ bag) i e j h = go (same_item k j) refl h (least_of bag i (and_right (item_le i k) (none_less bag i) e) j)
  where
    go : (q : Bool) → same_item k j ≡ q → q || holds bag j ≡ true → (holds bag j ≡ true → item_le i j ≡ true) → item_le i j ≡ true
    go true d l before = subst (λ y. item_le i y ≡ true) (same_item_lem k j d) (and_left (item_le i k) (none_less bag i) e)
    go false d l before = before l

-- one copy less
module _ (i : Item) where
  without_copies : (bag : List Item) → holds bag i ≡ true → (x : ℕ)
      → packed_copies (without bag i) x + pick (eqb (packed i) x) 1 0 ≡ packed_copies bag x
  unfolding packed_copies pick holds without
  without_copies [] h x = absurd (true≢false (sym h))
  without_copies (j ∷ bag) h x = go (same_item j i) refl h (λ k. without_copies bag k x)
    where
      go : (q : Bool) → same_item j i ≡ q → q || holds bag i ≡ true
          → (holds bag i ≡ true → packed_copies (without bag i) x + pick (eqb (packed i) x) 1 0 ≡ packed_copies bag x)
          → packed_copies (pick q bag (j ∷ without bag i)) x + pick (eqb (packed i) x) 1 0 ≡ packed_copies bag x + pick (eqb (packed j) x) 1 0
      go true e k before = ap (λ y. packed_copies bag x + pick (eqb (packed y) x) 1 0) (sym (same_item_lem j i e))
      go false e k before = let l = before k in omega (arith, l)

  without-length : (bag : List Item) → holds bag i ≡ true → length (without bag i) + 1 ≡ length bag
  unfolding pick holds without
  without-length [] h = absurd (true≢false (sym h))
  without-length (j ∷ bag) h = go (same_item j i) h (without-length bag)
    where
      go : (q : Bool) → q || holds bag i ≡ true → (holds bag i ≡ true → length (without bag i) + 1 ≡ length bag)
          → length (pick q bag (j ∷ without bag i)) + 1 ≡ suc (length bag)
      go true k before = omega arith
      go false k before = let l = before k in omega (arith, l)

  without_items : (bag : List Item) → AllItems bag → AllItems (without bag i)
  unfolding pick without
  without_items [] a = tt
  without_items (j ∷ bag) a = go (same_item j i) (without_items bag a.1)
    where
      go : (q : Bool) → AllItems (without bag i) → AllItems (pick q bag (j ∷ without bag i))
      go true b = a.1
      go false b = (a.0, b)

empty_bag : (bag : List Item) (n : ℕ) → length bag ≡ n → is_empty_bag bag ≡ eqb n 0
unfolding is_empty_bag
empty_bag [] n e = sym (eq-eqb n 0 (sym e))
empty_bag (i ∷ bag) n e = sym (ne_eqb n 0 (λ z. omega (arith, e, z)))

-- The top of the heap and the least item of the bag.
module _ {h : List ℕ} {n : ℕ} {bag : List Item} (g : InHeap h n bag) (i : Item) (ranged : is_item i ≡ true) where
  entry_of : (j : Item) → holds bag j ≡ true → Held h n (packed j)
  entry_of j e = held_somewhere h n (packed j) (subst (λ y. 1 ≤ y) (sym (g.same (packed j))) (held_packed bag j e))

  top_in_bag : 1 ≤ n → InBag bag (get_or h 1 0)
  top_in_bag l =
      packed_held bag (get_or h 1 0) g.items (subst (λ y. 1 ≤ y) (g.same (get_or h 1 0)) (entry_held h n 1 (omega arith) l))

  top_is_least : 1 ≤ n → get_or h 1 0 ≡ packed i → is_least bag i ≡ true
  top_is_least l e =
      let t = top_in_bag l in
      and_both (subst (λ y. holds bag y ≡ true) (packed_same t.which i t.ranged ranged (t.number ∙ e)) t.held)
      (none_less_lem bag i (λ j k.
      let f = entry_of j k in
      let m = top_least h n g.ordered f.entry f.some f.within in
      packed-le i j ranged (held_ranged bag j g.items k) (omega (arith, m, e, f.same))))

  least_is_top : is_least bag i ≡ true → (1 ≤ n) × (get_or h 1 0 ≡ packed i)
  least_is_top e =
      let k = and_left (holds bag i) (none_less bag i) e in
      let f = entry_of i k in
      let l : 1 ≤ n = omega (arith, f.some, f.within) in
      let t = top_in_bag l in
      let m = top_least h n g.ordered f.entry f.some f.within in
      let u = le-packed i t.which ranged t.ranged (least_of bag i (and_right (holds bag i) (none_less bag i) e) t.which t.held) in
      (l, omega (arith, m, u, f.same, t.number))

-- The number on top, if there is one.
on_top : (h : List ℕ) (n x : ℕ) → Some x ≡ least h n → (1 ≤ n) × (get_or h 1 0 ≡ x)
on_top h zero x e = absurd cc
on_top h (suc n) x e = (omega arith, cc)

none_there : (h : List ℕ) (n : ℕ) → None ≡ least h n → 1 ≤ n → ⊥
none_there h zero e l = omega arith
none_there h (suc n) e l = cc

-- a test for an empty heap
same_test : (q : Bool) (n : ℕ) → IsTrue q ↔ (n ≡ 0) → q ≡ eqb n 0
same_test true n e = sym (eq-eqb n 0 (e.0 refl))
same_test false n e = sym (ne_eqb n 0 (λ z. true≢false (sym (e.1 z))))

-- What a take gives, and leaves.
module _ (r : Recorded) (is_take : 2 ≡ r.kind) where
  gives_least : (bag : List Item) → bag_gives bag r ≡ is_least bag r.item
  unfolding bag_gives pick
  gives_least bag = rw (ne_eqb r.kind 1 (λ z. omega (arith, is_take, z)), eq-eqb r.kind 2 (sym is_take)) refl

  leaves_least : (bag : List Item) → bag_after bag r ≡ without bag r.item
  unfolding bag_after pick
  leaves_least bag = rw (ne_eqb r.kind 1 (λ z. omega (arith, is_take, z)), eq-eqb r.kind 2 (sym is_take)) refl

-- The ways out of one play.
module _ {h : List ℕ} {size : ℕ} {r : Recorded} (fits : in_range r ≡ true) where
  pub put_played : {h' : List ℕ} {size' x : ℕ} → x ≡ packed r.item → 1 ≡ r.kind → Pushed h size x h' → size' ≡ size + 1
      → PlayedOne h size r h' size' true
  unfolding bag_gives bag_after pick packed_copies
  put_played {h'} {size'} {x} ex k p es =
      rw es
      (record {
        most = omega arith;
        given = λ bag g. rw (eq-eqb r.kind 1 (sym k)) refl;
        after = λ bag g e. rw (eq-eqb r.kind 1 (sym k)) (record {
          ordered = p.ordered g.ordered;
          same = λ y. p.counted y ∙ ap (λ m. m + pick (eqb x y) 1 0) (g.same y) ∙ ap (λ z. packed_copies bag y + pick (eqb z y) 1 0) ex;
          size = omega (arith, g.size);
          items = (range_item r fits (λ z. omega (arith, k, z)), g.items);
        });
      })

  pub empty_played : {q : Bool} → 3 ≡ r.kind → IsTrue q ↔ (size ≡ 0) → PlayedOne h size r h size q
  unfolding bag_gives bag_after pick
  empty_played {q} k eq =
      record {
        most = omega arith;
        given = λ bag g. rw (eqb-kind, eqb-kind_2) (same_test q size eq ∙ sym (empty_bag bag size g.size));
        after = λ bag g e. rw (eqb-kind, eqb-kind_2) g;
      }
    where
      eqb-kind : eqb r.kind 1 ≡ false
      eqb-kind = ne_eqb r.kind 1 (λ z. omega (arith, k, z))

      eqb-kind_2 : eqb r.kind 2 ≡ false
      eqb-kind_2 = ne_eqb r.kind 2 (λ z. omega (arith, k, z))

  pub no_kind : {q : Bool} → (r.kind ≡ 0) ⊎ (3 < r.kind) → PlayedOne h size r h size q
  no_kind out =
      let k = range_kind r fits in
      absurd (⊎_elim (λ z. omega (arith, z, between_least 1 r.kind 3 k)) (λ l. omega (arith, l, between_most 1 r.kind 3 k)) out)

  module _ (is_take : 2 ≡ r.kind) {x : ℕ} (ex : x ≡ packed r.item) where
    -- the item is not on top
    not_top : ((1 ≤ size) × (get_or h 1 0 ≡ x) → ⊥) → PlayedOne h size r h size false
    not_top n =
        record {
          most = omega arith;
          given = λ bag g. go bag g (is_least bag r.item) refl ∙ sym (gives_least r is_take bag);
          after = λ bag g e. absurd (true≢false (sym e));
        }
      where
        ranged : is_item r.item ≡ true
        ranged = range_item r fits (λ z. omega (arith, is_take, z))

        go : (bag : List Item) → InHeap h size bag → (q : Bool) → is_least bag r.item ≡ q → false ≡ is_least bag r.item
        go bag g true e = let t = least_is_top g r.item ranged e in absurd (n (t.0, t.1 ∙ sym ex))
        go bag g false e = sym e

    pub none_played : None ≡ least h size → PlayedOne h size r h size false
    none_played e = not_top (λ t. none_there h size e t.0)

    pub other_played : {v : ℕ} → Some v ≡ least h size → (v ≡ x → ⊥) → PlayedOne h size r h size false
    other_played {v} e n = not_top (λ t. n (sym (on_top h size v e).1 ∙ t.1))

    pub take_played : {v : ℕ} → Some v ≡ least h size → v ≡ x → {h' : List ℕ} {size' : ℕ} → Popped h size h' → size' + 1 ≡ size
        → PlayedOne h size r h' size' true
    take_played {v} e same {h'} {size'} p es =
        record {
          most = omega (arith, es);
          given = λ bag g. sym (is_top bag g) ∙ sym (gives_least r is_take bag);
          after = λ bag g t. subst (InHeap h' size') (sym (leaves_least r is_take bag)) (subst (λ m. InHeap h' m (without bag r.item)) (omega (arith, es)) (popped bag g));
        }
      where
        ranged : is_item r.item ≡ true
        ranged = range_item r fits (λ z. omega (arith, is_take, z))

        top : get_or h 1 0 ≡ x
        top = (on_top h size v e).1 ∙ same

        is_top : (bag : List Item) → InHeap h size bag → is_least bag r.item ≡ true
        is_top bag g = top_is_least g r.item ranged (on_top h size v e).0 (top ∙ ex)

        popped : (bag : List Item) → InHeap h size bag → InHeap h' (size - 1) (without bag r.item)
        popped bag g =
            record {
              ordered = p.ordered g.ordered;
              same = λ y.
                  let a = without_copies r.item bag held y in
                  let c : copies h' (size - 1) y + pick (eqb (packed r.item) y) 1 0 ≡ packed_copies bag y
                  = ap (λ z. copies h' (size - 1) y + pick (eqb z y) 1 0) (sym (top ∙ ex)) ∙ p.counted y ∙ g.same y in
                  omega (arith, a, c);
              size = let l = without-length r.item bag held in omega (arith, l, g.size);
              items = without_items r.item bag g.items;
            }
          where
            held : holds bag r.item ≡ true
            held = and_left (holds bag r.item) (none_less bag r.item) (is_top bag g)
