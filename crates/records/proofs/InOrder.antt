-- The loop that puts the records in the order of their positions: its invariant, one pass, and the ways out, over plain variables. n records
-- have claimed n different places of n, so none is left. Assumes nothing.
use Prim.Native.Nat.{ℕ, zero, suc, ◌+◌, ◌-◌, ◌≤◌, ◌<◌}
use native.Mathlib.Omega.{arith}
use mathlib.Core.Path.{◌≡◌, refl, sym, ap, subst, ◌∙◌}
use mathlib.Core.Bool.{Bool, true, false}
use mathlib.Core.Logic.{◌⊎◌, inl, inr, ⊎_elim}
use mathlib.Core.List.{List}
use borrow.Author.Tests.{eqb-true, eqb-false, eq-eqb, ne_eqb}
use lib.Dec.{eqb}
use lib.ListN.{length, get_or, set, replicate, length-set, length-replicate}
use lib.Seq.{get_or-set_same, get_or-set_other}
use Rattle.region.specs.Pick.{pick}
use Rattle.region.proofs.Shapes.{between_most}
use Rattle.records.specs.Accepts.{accepts, claimant}
use Rattle.records.specs.Inner.{AtPosition, InOrder, WellFormed}
use Rattle.records.specs.Recorded.{in_range, recorded_at}
use Rattle.records.specs.declared.form.Recorded.{Recorded}
use Rattle.records.proofs.Accepted.{Accepted, not_accepted}
use Rattle.records.proofs.Every.{upto}
use Rattle.records.proofs.Ranges.{range_thread, zero_at}

-- the only record that claims position p
pub claimant_is : (n : ℕ) (r : ℕ → Recorded) (p i : ℕ) → i < n → (r i).position ≡ p → ((j : ℕ) → j < n → (r j).position ≡ p → j ≡ i)
    → claimant n r p ≡ i
unfolding claimant pick
claimant_is zero r p i h e only = absurd (omega arith)
claimant_is (suc n) r p i h e only = go (eqb (r n).position p) refl (λ l. claimant_is n r p i l e (λ j k. only j (omega arith)))
  where
    go : (q : Bool) → eqb (r n).position p ≡ q → (i < n → claimant n r p ≡ i) → pick q n (claimant n r p) ≡ i
    go true k before = only n (omega arith) (eqb-true (r n).position p k)
    go false k before =
        let ne : i ≡ n → ⊥ = λ x. eqb-false (r n).position p k (subst (λ y. (r y).position ≡ p) x e) in
        before (omega (arith, ne))

-- how many of the first n places are taken
pub filled : List ℕ → ℕ → ℕ
filled order zero = 0
filled order (suc n) = filled order n + pick (eqb (get_or order n 0) 0) 0 1

filled_most : (order : List ℕ) (n : ℕ) → filled order n ≤ n
unfolding filled pick
filled_most order zero = omega arith
filled_most order (suc n) = go (eqb (get_or order n 0) 0) (filled_most order n)
  where
    go : (q : Bool) → filled order n ≤ n → filled order n + pick q 0 1 ≤ suc n
    go true before = omega arith
    go false before = omega arith

filled_all : (order : List ℕ) (n : ℕ) → filled order n ≡ n → (k : ℕ) → k < n → get_or order k 0 ≡ 0 → ⊥
unfolding filled pick
filled_all order zero e k h z = omega arith
filled_all order (suc n) e k h z = go (eqb (get_or order n 0) 0) refl e (λ f. filled_all order n f k)
  where
    go : (q : Bool) → eqb (get_or order n 0) 0 ≡ q → filled order n + pick q 0 1 ≡ suc n → (filled order n ≡ n → k < n → get_or order k 0 ≡ 0 → ⊥) → ⊥
    go true d f before = omega (arith, f, filled_most order n)
    go false d f before =
        let ne : k ≡ n → ⊥ = λ x. eqb-false (get_or order n 0) 0 d (subst (λ y. get_or order y 0 ≡ 0) x z) in
        before (omega (arith, f)) (omega (arith, ne)) z

filled_none : (order : List ℕ) (n : ℕ) → ((k : ℕ) → get_or order k 0 ≡ 0) → filled order n ≡ 0
unfolding filled pick
filled_none order zero h = refl
filled_none order (suc n) h = rw (filled_none order n h, eq-eqb (get_or order n 0) 0 (h n)) refl

-- one place more is taken
module _ (order : List ℕ) (k v : ℕ) (room : k < length order) (free : get_or order k 0 ≡ 0) (some : v ≡ 0 → ⊥) where
  filled_below : (n : ℕ) → n ≤ k → filled (set order k v) n ≡ filled order n
  unfolding filled
  filled_below zero h = refl
  filled_below (suc n) h =
      rw (filled_below n (omega arith), get_or-set_other order k n v 0 (λ e. omega arith)) refl

  filled_more : (n : ℕ) → k < n → filled (set order k v) n ≡ suc (filled order n)
  unfolding filled pick
  filled_more zero h = absurd (omega arith)
  filled_more (suc n) h = go (eqb n k) refl (filled_more n)
    where
      go : (q : Bool) → eqb n k ≡ q → (k < n → filled (set order k v) n ≡ suc (filled order n))
          → filled (set order k v) n + pick (eqb (get_or (set order k v) n 0) 0) 0 1 ≡ suc (filled order n + pick (eqb (get_or order n 0) 0) 0 1)
      go true e before =
          let same : n ≡ k = eqb-true n k e in
          let now : get_or (set order k v) n 0 ≡ v = ap (λ x. get_or (set order k v) x 0) same ∙ get_or-set_same order k v 0 room in
          let was : get_or order n 0 ≡ 0 = ap (λ x. get_or order x 0) same ∙ free in
          rw (now, was, ne_eqb v 0 some) (omega (arith, filled_below n (omega (arith, same))))
      go false e before =
          let ne : n ≡ k → ⊥ = eqb-false n k e in
          rw (get_or-set_other order k n v 0 ne) (omega (arith, before (omega (arith, ne))))

-- the record a is the i-th at most, and its number, from 1, is at the place k that it claims
pub record Claim (r : ℕ → Recorded) (order : List ℕ) (i k : ℕ) : Type 0 where
  pub which : ℕ
  pub before : which < i
  pub number : get_or order k 0 ≡ suc which
  pub claims : (r which).position ≡ suc k

-- the first i records are in their places
pub record Filling (n : ℕ) (r : ℕ → Recorded) (order : List ℕ) (i : ℕ) : Type 0 where
  pub few : n ≤ 1024
  pub room : length order ≡ 1024
  pub within : i ≤ n
  pub begun : (a : ℕ) → a < i → (r a).begin < (r a).answer
  pub first : (a : ℕ) → a < i → 1 ≤ (r a).position
  pub last : (a : ℕ) → a < i → (r a).position ≤ n
  pub placed : (a k : ℕ) → a < i → (r a).position ≡ suc k → get_or order k 0 ≡ suc a
  pub from : (k : ℕ) → k < n → (get_or order k 0 ≡ 0) ⊎ Claim r order i k
  pub taken : filled order n ≡ i

pub order_start : {b : List ℕ} {n : ℕ} → WellFormed b n → Filling n (recorded_at b) (replicate 1024 0) 0
order_start {b} {n} w =
    record {
      few = w.few;
      room = length-replicate {A = ℕ} 1024 0;
      within = omega arith;
      begun = λ a h. absurd (omega arith);
      first = λ a h. absurd (omega arith);
      last = λ a h. absurd (omega arith);
      placed = λ a k h. absurd (omega arith);
      from = λ k h. inl (zero_at 1024 k);
      taken = filled_none (replicate 1024 0) n (zero_at 1024);
    }

module _ {n : ℕ} {r : ℕ → Recorded} {order : List ℕ} {i : ℕ} (f : Filling n r order i) (h : i < n)
    (x : Recorded) (ex : x ≡ r i) where
  pub bad_times : x.answer ≤ x.begin → accepts n r ≡ false
  bad_times l =
      not_accepted n r
      (λ a. let g = a.begun i h in omega (arith, g, l, ap (λ y. y.answer) ex, ap (λ y. y.begin) ex))

  pub bad_position : (x.position ≡ 0) ⊎ ((x.position ≡ 0 → ⊥) × (n < x.position)) → accepts n r ≡ false
  bad_position =
      ⊎_elim (λ z. not_accepted n r (λ a. let g = a.first i h in omega (arith, g, z, ap (λ y. y.position) ex)))
      (λ l. not_accepted n r (λ a. let g = a.last i h in omega (arith, g, l.1, ap (λ y. y.position) ex)))

  module _ (some : x.position ≡ 0 → ⊥) (high : x.position ≤ n) where
    position_is : (r i).position ≡ suc (x.position - 1)
    position_is = omega (arith, some, ap (λ y. y.position) ex)

    pub bad_repeat : (get_or order (x.position - 1) 0 ≡ 0 → ⊥) → accepts n r ≡ false
    bad_repeat z =
        not_accepted n r (λ a. ⊎_elim z (twice a) (f.from (x.position - 1) (omega (arith, some, high))))
      where
        twice : Accepted n r → Claim r order i (x.position - 1) → ⊥
        twice a c =
            a.once c.which i (omega (arith, c.before, h)) h (λ e. omega (arith, e, c.before)) (c.claims ∙ sym position_is)

    pub order_more : get_or order (x.position - 1) 0 ≡ 0 → x.begin < x.answer
        → Filling n r (set order (x.position - 1) (i + 1)) (i + 1)
    order_more free begun =
        record {
          few = f.few;
          room = length-set order k (i + 1) ∙ f.room;
          within = omega arith;
          begun = upto i (λ a. (r a).begin < (r a).answer) f.begun (subst (λ y. y.begin < y.answer) ex begun);
          first = upto i (λ a. 1 ≤ (r a).position) f.first (omega (arith, position_is));
          last = upto i (λ a. (r a).position ≤ n) f.last (omega (arith, position_is, high, some));
          placed = placed;
          from = from;
          taken = filled_more order k (i + 1) room free (λ z. omega arith) n (omega (arith, some, high)) ∙ omega (arith, f.taken);
        }
      where
        k : ℕ
        k = x.position - 1

        room : k < length order
        room = omega (arith, some, high, f.few, f.room)

        other : (a m : ℕ) → a < i → (r a).position ≡ suc m → m ≡ k → ⊥
        other a m l e z = let g = f.placed a m l e in omega (arith, g, ap (λ y. get_or order y 0) z, free)

        placed : (a m : ℕ) → a < i + 1 → (r a).position ≡ suc m → get_or (set order k (i + 1)) m 0 ≡ suc a
        placed a m l =
            upto i (λ a. (r a).position ≡ suc m → get_or (set order k (i + 1)) m 0 ≡ suc a)
            (λ a l e. get_or-set_other order k m (i + 1) 0 (other a m l e) ∙ f.placed a m l e)
            (λ e. let z : m ≡ k = omega (arith, e, position_is) in
            ap (λ y. get_or (set order k (i + 1)) y 0) z ∙ get_or-set_same order k (i + 1) 0 room ∙ omega arith) a l

        from : (m : ℕ) → m < n → (get_or (set order k (i + 1)) m 0 ≡ 0) ⊎ Claim r (set order k (i + 1)) (i + 1) m
        from m l = go (eqb m k) refl
          where
            go : (q : Bool) → eqb m k ≡ q → (get_or (set order k (i + 1)) m 0 ≡ 0) ⊎ Claim r (set order k (i + 1)) (i + 1) m
            go true e =
                let z : m ≡ k = eqb-true m k e in
                inr (record {
                  which = i;
                  before = omega arith;
                  number = ap (λ y. get_or (set order k (i + 1)) y 0) z ∙ get_or-set_same order k (i + 1) 0 room ∙ omega arith;
                  claims = position_is ∙ ap suc (sym z);
                })
            go false e =
                let s : get_or (set order k (i + 1)) m 0 ≡ get_or order m 0 = get_or-set_other order k m (i + 1) 0 (eqb-false m k e) in
                ⊎_elim (λ z. inl (s ∙ z))
                (λ c. inr (record { which = c.which; before = omega (arith, c.before); number = s ∙ c.number; claims = c.claims }))
                (f.from m l)

-- n of n places are taken: each by the one record that claims it
pub order_end : {n : ℕ} {r : ℕ → Recorded} {order : List ℕ} {i : ℕ} → Filling n r order i → n ≤ i
    → InOrder n r order
order_end {n} {r} {order} {i} f h =
    record {
      room = omega (arith, f.room, f.few);
      begun = λ a l. f.begun a (omega arith);
      first = λ a l. f.first a (omega arith);
      last = λ a l. f.last a (omega arith);
      by_claim = λ a l. let e = f.first a (omega arith) in claim_of a ((r a).position - 1) l (omega (arith, e)) (r a).position refl;
      entry = λ k l. (claim k l).number ∙ ap suc (sym (claimed k l));
      there = λ k l. subst (λ y. y < n) (sym (claimed k l)) (omega (arith, (claim k l).before));
      claims = λ k l. ap (λ y. (r y).position) (claimed k l) ∙ (claim k l).claims;
    }
  where
    all : i ≡ n
    all = omega (arith, f.within, h)

    claim : (k : ℕ) → k < n → Claim r order i k
    claim k l = ⊎_elim (λ z. absurd (filled_all order n (f.taken ∙ all) k l z)) (λ c. c) (f.from k l)

    claim_of : (a k : ℕ) → a < n → (r a).position ≡ suc k → (p : ℕ) → (r a).position ≡ p → claimant n r p ≡ a
    claim_of a k l e p g =
        claimant_is n r p a l g
        (λ j m q. let x = f.placed j k (omega (arith, m, all)) (q ∙ sym g ∙ e) in
        let y = f.placed a k (omega (arith, l, all)) e in omega (arith, x, y))

    claimed : (k : ℕ) (l : k < n) → claimant n r (suc k) ≡ (claim k l).which
    claimed k l =
        claim_of (claim k l).which k (omega (arith, (claim k l).before, all)) (claim k l).claims (suc k) (claim k l).claims

-- the walk reads the record at its position, which is in range
module _ {b : List ℕ} {n : ℕ} {order : List ℕ} {k : ℕ} (w : WellFormed b n) (o : InOrder n (recorded_at b) order) (h : k < n) where
  pub at_position : (x : Recorded) → x ≡ recorded_at b (get_or order k 0 - 1) → AtPosition b n k x
  at_position x ex =
      record { is = here; ranged = ranged; low = let l = between_most 1 x.thread 64 (range_thread x ranged) in omega (arith, l) }
    where
      here : x ≡ recorded_at b (claimant n (recorded_at b) (suc k))
      here = ex ∙ ap (recorded_at b) (omega (arith, o.entry k h))

      ranged : in_range x ≡ true
      ranged =
          subst (λ y. in_range y ≡ true) (sym here)
          (w.ranged (claimant n (recorded_at b) (suc k)) (o.there k h))
