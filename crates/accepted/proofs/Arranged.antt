-- Records that follow one another in the order of their positions are accepted in whatever order they are in the slice. Assumes nothing.
use Prim.Native.Nat.{ℕ, zero, suc, ◌+◌, ◌%◌, ◌≤◌, ◌<◌}
use native.Mathlib.Omega.{arith}
use mathlib.Core.Path.{◌≡◌, refl, sym, ap, subst, ◌∙◌}
use mathlib.Core.Bool.{true}
use mathlib.Core.Logic.{inl, inr}
use mathlib.Core.List.{List, [], ◌∷◌}
use borrow.Author.Tests.{eq-eqb, le-leb}
use lib.ListN.{length, get_or, drop, drop_of_length-le}
use lib.Seq.{drop-cons}
use Rattle.region.specs.Refusal.{done}
use Rattle.region.specs.Pick.{pick}
use Rattle.records.specs.Accepts.{claimant, in_place, listed, records_answer}
use Rattle.records.specs.Play.{plays}
use Rattle.records.specs.Recorded.{all_in_range, in_range, record_count, recorded_at, well_formed}
use Rattle.records.specs.declared.form.Recorded.{Recorded}
use Rattle.records.proofs.Accepted.{Accepted, OneByOne, all_accepted, by_place}
use Rattle.records.proofs.Every.{of_each}
use Rattle.records.proofs.InOrder.{claimant_is}
use Rattle.accepted.specs.Slices.{HasRecords, no_record}

-- records in the order of their positions
pub record InTurn (rs : List Recorded) : Type 0 where
  pub ranged : (k : ℕ) → k < length rs → in_range (get_or rs k no_record) ≡ true
  pub numbered : (k : ℕ) → k < length rs → (get_or rs k no_record).position ≡ suc k
  pub begun : (k : ℕ) → k < length rs → (get_or rs k no_record).begin < (get_or rs k no_record).answer
  pub in_time : (a c : ℕ) → a < c → c < length rs → (get_or rs a no_record).begin ≤ (get_or rs c no_record).answer
  pub one_by_one : (a c : ℕ) → a < c → c < length rs → (get_or rs a no_record).thread ≡ (get_or rs c no_record).thread
      → (get_or rs a no_record).answer < (get_or rs c no_record).begin
  pub played : plays [] rs ≡ true

module _ (rs : List Recorded) (o : InTurn rs) (few : length rs ≤ 1024) (b : List ℕ) (h : HasRecords b rs) where
  abbrev n : ℕ
  n = length rs

  abbrev r : ℕ → Recorded
  r = recorded_at b

  abbrev when : ℕ → ℕ
  when = h.order.when

  abbrev which : ℕ → ℕ
  which = h.order.which

  place : (i : ℕ) → i < n → get_or rs (when i) no_record ≡ r i
  place i l = sym (h.each (when i) (h.order.when_below i l)) ∙ ap r (h.order.which_when i l)

  same_place : (i j : ℕ) → i < n → j < n → when i ≡ when j → i ≡ j
  same_place i j hi hj e = sym (h.order.which_when i hi) ∙ ap which e ∙ h.order.which_when j hj

  position_of : (i : ℕ) → i < n → (r i).position ≡ suc (when i)
  position_of i l = ap (λ y. y.position) (sym (place i l)) ∙ o.numbered (when i) (h.order.when_below i l)

  claim : (k : ℕ) → k < n → claimant n r (suc k) ≡ which k
  claim k l =
      claimant_is n r (suc k) (which k) (h.order.which_below k l)
      (position_of (which k) (h.order.which_below k l) ∙ ap suc (h.order.when_which k l))
      (λ j m e. same_place j (which k) m (h.order.which_below k l)
      (let p = position_of j m in let q = h.order.when_which k l in omega (arith, p, e, q)))

  -- what is left from position k on
  by_turn : (k m : ℕ) → k + m ≡ n → listed (in_place n r) k m ≡ drop k rs
  unfolding listed
  by_turn k zero e = let l : n ≤ k = omega (arith, e) in sym (drop_of_length-le rs l)
  by_turn k (suc m) e =
      let l : k < n = omega (arith, e) in
      ap (λ x. x ∷ listed (in_place n r) (suc k) m) (ap r (claim k l) ∙ h.each k l)
      ∙ ap (λ ys. get_or rs k no_record ∷ ys) (by_turn (suc k) m (omega (arith, e)))
      ∙ sym (drop-cons rs k no_record l)

  -- two records, by their places
  by_turns : (P : Recorded → Recorded → Type 0) (i j : ℕ) → i < n → j < n → (i ≡ j → ⊥)
      → ((a c : ℕ) → a < c → c < n → P (get_or rs a no_record) (get_or rs c no_record))
      → ((a c : ℕ) → a < c → c < n → P (get_or rs c no_record) (get_or rs a no_record)) → P (r i) (r j)
  by_turns = by_place n r (λ k. get_or rs k no_record) when h.order.when_below place same_place

  arranged : Accepted n r
  arranged =
      record {
        begun = λ i l. subst (λ y. y.begin < y.answer) (place i l) (o.begun (when i) (h.order.when_below i l));
        one_at_a_time = λ i j hi hj ne.
            by_turns OneByOne i j hi hj ne (λ a c l m e. inl (o.one_by_one a c l m e)) (λ a c l m e. inr (o.one_by_one a c l m (sym e)));
        first = λ i l. let p = position_of i l in omega (arith, p);
        last = λ i l. let p = position_of i l in let q = h.order.when_below i l in omega (arith, p, q);
        once = λ i j hi hj ne e.
            ne (same_place i j hi hj (let p = position_of i hi in let q = position_of j hj in omega (arith, p, q, e)));
        claimed = λ k l. record {
          which = which k;
          below = h.order.which_below k l;
          passes =
              eq-eqb (r (which k)).position (suc k)
              (position_of (which k) (h.order.which_below k l) ∙ ap suc (h.order.when_which k l));
        };
        real_time = λ i j hi hj ne.
            by_turns (λ x y. x.answer < y.begin → x.position < y.position) i j hi hj ne
            (λ a c l m e. let p = o.numbered a (omega (arith, l, m)) in let q = o.numbered c m in omega (arith, p, q, l))
            (λ a c l m e. let t = o.in_time a c l m in absurd (omega (arith, e, t)));
        played = ap (plays []) (by_turn 0 n (omega arith)) ∙ o.played;
      }

  count : record_count b ≡ n
  count = omega (arith, h.long)

  pub turn_accepted : records_answer b ≡ done
  unfolding records_answer well_formed all_in_range pick
  turn_accepted =
      rw (
        eq-eqb (length b % 28) 0 (omega (arith, h.long)),
        count,
        le-leb n 1024 few,
        of_each n (λ i. in_range (r i)) (λ i l. subst (λ y. in_range y ≡ true) (place i l) (o.ranged (when i) (h.order.when_below i l))),
        all_accepted n r arranged,
      ) refl
