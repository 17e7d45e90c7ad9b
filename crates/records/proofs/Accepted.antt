-- Acceptance in numbers: what it says of each record and of every two, and back. Assumes nothing.
use Prim.Native.Nat.{ℕ, suc, ◌≤◌, ◌<◌}
use native.Mathlib.Omega.{arith}
use mathlib.Core.Path.{◌≡◌, refl, sym, subst}
use mathlib.Core.Bool.{Bool, true, false, not, ◌&&◌, ◌||◌, true≢false}
use mathlib.Core.Logic.{◌⊎◌, inl, inr}
use mathlib.Core.List.{[]}
use borrow.Author.Tests.{ltb-true, ltb-false, lt-ltb, eqb-true, eqb-false, eq-eqb, ne_eqb, not-true}
use lib.Dec.{ltb, eqb}
use Rattle.region.specs.Shape.{between}
use Rattle.region.proofs.Shapes.{and_left, and_right, and_both, between_least, between_most, is_between}
use Rattle.records.specs.Accepts.{accepts, begins_before_answer, by_position, differ, each_two, in_real_time, is_claimed, are_one_by_one, positions_fit, precedes}
use Rattle.records.specs.Play.{plays}
use Rattle.records.specs.Recorded.{every}
use Rattle.records.specs.declared.form.Recorded.{Recorded}
use Rattle.records.proofs.Every.{Found, each_of, of_each, of_some, or_right, some_found}

-- One test of two records.
module _ (r s : Recorded) where
  abbrev pub OneByOne : Type 0
  OneByOne = r.thread ≡ s.thread → (r.answer < s.begin) ⊎ (s.answer < r.begin)

  abbrev pub InRealTime : Type 0
  InRealTime = r.answer < s.begin → r.position < s.position

  one_by_one : are_one_by_one r s ≡ true → OneByOne
  one_by_one e t = go (precedes r s) refl (precedes s r) refl (rw (eq-eqb r.thread s.thread t) at e)
    where
      go : (p : Bool) → precedes r s ≡ p → (q : Bool) → precedes s r ≡ q → p || q ≡ true → (r.answer < s.begin) ⊎ (s.answer < r.begin)
      go true k q l h = inl (ltb-true r.answer s.begin k)
      go false k true l h = inr (ltb-true s.answer r.begin l)
      go false k false l h = absurd (true≢false (sym h))

  is_one_by_one : OneByOne → are_one_by_one r s ≡ true
  is_one_by_one h = go (eqb r.thread s.thread) refl
    where
      either : (r.answer < s.begin) ⊎ (s.answer < r.begin) → precedes r s || precedes s r ≡ true
      either (inl l) = rw (lt-ltb r.answer s.begin l) refl
      either (inr l) = or_right (precedes r s) (lt-ltb s.answer r.begin l)

      go : (q : Bool) → eqb r.thread s.thread ≡ q → not q || precedes r s || precedes s r ≡ true
      go true e = either (h (eqb-true r.thread s.thread e))
      go false e = refl

  in_real_time_lem : in_real_time r s ≡ true → InRealTime
  in_real_time_lem e l = ltb-true r.position s.position (rw (lt-ltb r.answer s.begin l) at e)

  is_in_real_time : InRealTime → in_real_time r s ≡ true
  is_in_real_time h = go (precedes r s) refl
    where
      go : (q : Bool) → precedes r s ≡ q → not q || ltb r.position s.position ≡ true
      go true e = lt-ltb r.position s.position (h (ltb-true r.answer s.begin e))
      go false e = refl

  positions_differ : differ r s ≡ true → r.position ≡ s.position → ⊥
  positions_differ e = eqb-false r.position s.position (not-true (eqb r.position s.position) e)

  is_differ : (r.position ≡ s.position → ⊥) → differ r s ≡ true
  is_differ n = rw (ne_eqb r.position s.position n) refl

-- Of n records every two.
module _ (n : ℕ) (r : ℕ → Recorded) (test : Recorded → Recorded → Bool) where
  two_of : each_two n r test ≡ true → (i j : ℕ) → i < n → j < n → (i ≡ j → ⊥) → test (r i) (r j) ≡ true
  unfolding each_two
  two_of e i j hi hj ne = go (ltb j i) refl
    where
      pair : (i j : ℕ) → i < n → j < i → test (r i) (r j) && test (r j) (r i) ≡ true
      pair i j h l =
          each_of i (λ j. test (r i) (r j) && test (r j) (r i))
          (each_of n (λ i. every i (λ j. test (r i) (r j) && test (r j) (r i))) e i h) j l

      go : (q : Bool) → ltb j i ≡ q → test (r i) (r j) ≡ true
      go true k = and_left (test (r i) (r j)) (test (r j) (r i)) (pair i j hi (ltb-true j i k))
      go false k =
          let l = ltb-false j i k in
          and_right (test (r j) (r i)) (test (r i) (r j)) (pair j i hj (omega (arith, l, ne)))

  of_two : ((i j : ℕ) → i < n → j < n → (i ≡ j → ⊥) → test (r i) (r j) ≡ true) → each_two n r test ≡ true
  unfolding each_two
  of_two h =
      of_each n (λ i. every i (λ j. test (r i) (r j) && test (r j) (r i)))
      (λ i hi. of_each i (λ j. test (r i) (r j) && test (r j) (r i))
      (λ j hj. and_both (h i j hi (omega arith) (λ e. omega arith)) (h j i (omega arith) hi (λ e. omega arith))))

-- Where each of n records has a place of its own: what holds of every two places, one before the other, holds of every two records.
module _ (n : ℕ) (r placed : ℕ → Recorded) (when : ℕ → ℕ) (below : (i : ℕ) → i < n → when i < n)
    (there : (i : ℕ) → i < n → placed (when i) ≡ r i) (own : (i j : ℕ) → i < n → j < n → when i ≡ when j → i ≡ j) where
  pub by_place : (P : Recorded → Recorded → Type 0) (i j : ℕ) → i < n → j < n → (i ≡ j → ⊥)
      → ((a c : ℕ) → a < c → c < n → P (placed a) (placed c)) → ((a c : ℕ) → a < c → c < n → P (placed c) (placed a)) → P (r i) (r j)
  by_place P i j hi hj ne first second = go (ltb (when i) (when j)) refl
    where
      go : (q : Bool) → ltb (when i) (when j) ≡ q → P (r i) (r j)
      go true e =
          subst (λ y. P y (r j)) (there i hi)
          (subst (P (placed (when i))) (there j hj) (first (when i) (when j) (ltb-true (when i) (when j) e) (below j hj)))
      go false e =
          let l = ltb-false (when i) (when j) e in
          let d : when i ≡ when j → ⊥ = λ z. ne (own i j hi hj z) in
          subst (λ y. P y (r j)) (there i hi)
          (subst (P (placed (when i))) (there j hj) (second (when j) (when i) (omega (arith, l, d)) (below i hi)))

-- n records that are accepted
pub record Accepted (n : ℕ) (r : ℕ → Recorded) : Type 0 where
  pub begun : (i : ℕ) → i < n → (r i).begin < (r i).answer
  pub one_at_a_time : (i j : ℕ) → i < n → j < n → (i ≡ j → ⊥) → OneByOne (r i) (r j)
  pub first : (i : ℕ) → i < n → 1 ≤ (r i).position
  pub last : (i : ℕ) → i < n → (r i).position ≤ n
  pub once : (i j : ℕ) → i < n → j < n → (i ≡ j → ⊥) → (r i).position ≡ (r j).position → ⊥
  pub claimed : (k : ℕ) → k < n → Found n (λ i. eqb (r i).position (suc k))
  pub real_time : (i j : ℕ) → i < n → j < n → (i ≡ j → ⊥) → InRealTime (r i) (r j)
  pub played : plays [] (by_position n r) ≡ true

module _ (n : ℕ) (r : ℕ → Recorded) where
  all_two : (test : Recorded → Recorded → Bool) (P : Recorded → Recorded → Type 0) → ((x y : Recorded) → P x y → test x y ≡ true)
      → ((i j : ℕ) → i < n → j < n → (i ≡ j → ⊥) → P (r i) (r j)) → each_two n r test ≡ true
  all_two test P is h = of_two n r test (λ i j hi hj ne. is (r i) (r j) (h i j hi hj ne))

  pub all_one_by_one : ((i j : ℕ) → i < n → j < n → (i ≡ j → ⊥) → OneByOne (r i) (r j)) → each_two n r are_one_by_one ≡ true
  all_one_by_one = all_two are_one_by_one OneByOne is_one_by_one

  pub all_in_real_time : ((i j : ℕ) → i < n → j < n → (i ≡ j → ⊥) → InRealTime (r i) (r j)) → each_two n r in_real_time ≡ true
  all_in_real_time = all_two in_real_time InRealTime is_in_real_time

  pub all_differ : ((i j : ℕ) → i < n → j < n → (i ≡ j → ⊥) → (r i).position ≡ (r j).position → ⊥) → each_two n r differ ≡ true
  all_differ = all_two differ (λ x y. x.position ≡ y.position → ⊥) is_differ

  pub accepted_all : accepts n r ≡ true → Accepted n r
  unfolding accepts positions_fit is_claimed
  accepted_all e =
      let a = every n (λ i. begins_before_answer (r i)) in
      let b = each_two n r are_one_by_one in
      let p = every n (λ i. between 1 (r i).position n) in
      let d = each_two n r differ in
      let g = every n (λ k. is_claimed n r (suc k)) in
      let t = each_two n r in_real_time in
      let q = plays [] (by_position n r) in
      let f = p && d && g in
      let e₁ = and_left (a && b && f && t) q e in
      let e₂ = and_left (a && b && f) t e₁ in
      let e₃ = and_left (a && b) f e₂ in
      let e₄ = and_right (a && b) f e₂ in
      let e₅ = and_left (p && d) g e₄ in
      let range : (i : ℕ) → i < n → between 1 (r i).position n ≡ true
      = each_of n (λ i. between 1 (r i).position n) (and_left p d e₅) in
      record {
        begun = λ i h. ltb-true (r i).begin (r i).answer (each_of n (λ i. begins_before_answer (r i)) (and_left a b e₃) i h);
        one_at_a_time = λ i j hi hj ne. one_by_one (r i) (r j) (two_of n r are_one_by_one (and_right a b e₃) i j hi hj ne);
        first = λ i h. between_least 1 (r i).position n (range i h);
        last = λ i h. between_most 1 (r i).position n (range i h);
        once = λ i j hi hj ne. positions_differ (r i) (r j) (two_of n r differ (and_right p d e₅) i j hi hj ne);
        claimed = λ k h. some_found n (λ i. eqb (r i).position (suc k)) (each_of n (λ k. is_claimed n r (suc k)) (and_right (p && d) g e₄) k h);
        real_time = λ i j hi hj ne. in_real_time_lem (r i) (r j) (two_of n r in_real_time (and_right (a && b && f) t e₁) i j hi hj ne);
        played = and_right (a && b && f && t) q e;
      }

  pub all_accepted : Accepted n r → accepts n r ≡ true
  unfolding accepts positions_fit is_claimed
  all_accepted a =
      and_both
      (and_both
      (and_both
      (and_both (of_each n (λ i. begins_before_answer (r i)) (λ i h. lt-ltb (r i).begin (r i).answer (a.begun i h)))
      (all_one_by_one a.one_at_a_time))
      (and_both
      (and_both (of_each n (λ i. between 1 (r i).position n) (λ i h. is_between 1 (r i).position n (a.first i h) (a.last i h)))
      (all_differ a.once))
      (of_each n (λ k. is_claimed n r (suc k))
      (λ k h. of_some n (λ i. eqb (r i).position (suc k)) (a.claimed k h).which (a.claimed k h).below (a.claimed k h).passes))))
      (all_in_real_time a.real_time))
      a.played

  -- what cannot be is not accepted
  pub not_accepted : (Accepted n r → ⊥) → accepts n r ≡ false
  not_accepted h = go (accepts n r) refl
    where
      go : (q : Bool) → accepts n r ≡ q → q ≡ false
      go true e = absurd (h (accepted_all e))
      go false e = refl
