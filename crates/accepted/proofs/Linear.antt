-- Accepted records are linearizable: the order is that of the claimed positions. Assumes nothing.
use Prim.Native.Nat.{ℕ, suc, ◌-◌, ◌<◌}
use native.Mathlib.Omega.{arith}
use mathlib.Core.Path.{◌≡◌, refl, sym, ap, subst, ◌∙◌}
use mathlib.Core.Bool.{Bool, true, false}
use mathlib.Core.List.{[]}
use borrow.Author.Tests.{eqb-true, eqb-false}
use lib.Dec.{eqb}
use Rattle.std.specs.Prelude.{Ok}
use Rattle.region.specs.Refusal.{done, ◌unless◌otherwise◌}
use Rattle.region.specs.declared.refusal.Refusal.TheVariants.{BadRecords}
use Rattle.region.specs.Pick.{pick}
use Rattle.theory.specs.Ledger.{empty_ledger}
use Rattle.records.specs.Accepts.{accepts, by_position, claimant, records_answer, rejected, verdict_code}
use Rattle.records.specs.Recorded.{record_count, recorded_at, well_formed}
use Rattle.records.specs.declared.form.Recorded.{Recorded}
use Rattle.records.proofs.Accepted.{Accepted, accepted_all}
use Rattle.records.proofs.InOrder.{claimant_is}
use Rattle.accepted.specs.Linearization.{AsClaimed, Linearization, Order}
use Rattle.accepted.specs.Theorems.{AcceptedIsLinearizable}
use Rattle.accepted.proofs.Bags.{between_none, plays_follows}

module _ (n : ℕ) (r : ℕ → Recorded) (a : Accepted n r) where
  same_claim : (i j : ℕ) → i < n → j < n → (r i).position ≡ (r j).position → i ≡ j
  same_claim i j hi hj e = go (eqb i j) refl
    where
      go : (q : Bool) → eqb i j ≡ q → i ≡ j
      go true k = eqb-true i j k
      go false k = absurd (a.once i j hi hj (eqb-false i j k) e)

  claim : (k : ℕ) (h : k < n) → claimant n r (suc k) ≡ (a.claimed k h).which
  claim k h =
      let f = a.claimed k h in
      let p = eqb-true (r f.which).position (suc k) f.passes in
      claimant_is n r (suc k) f.which f.below p (λ j l e. same_claim j f.which l f.below (e ∙ sym p))

  claimant_below : (k : ℕ) → k < n → claimant n r (suc k) < n
  claimant_below k h = subst (λ i. i < n) (sym (claim k h)) (a.claimed k h).below

  claimant_claims : (k : ℕ) → k < n → (r (claimant n r (suc k))).position ≡ suc k
  claimant_claims k h =
      ap (λ i. (r i).position) (claim k h) ∙ eqb-true (r (a.claimed k h).which).position (suc k) (a.claimed k h).passes

  pub by_claims : Order n
  by_claims =
      record {
        which = λ k. claimant n r (suc k);
        when = λ i. (r i).position - 1;
        which_below = claimant_below;
        when_below = λ i h. let p = a.first i h in let q = a.last i h in omega (arith, p, q);
        when_which = λ k h. let p = claimant_claims k h in omega (arith, p);
        which_when = λ i h.
            let p = a.first i h in
            let q = a.last i h in
            let e : suc ((r i).position - 1) ≡ (r i).position = omega (arith, p) in
            same_claim (claimant n r (suc ((r i).position - 1))) i
            (claimant_below ((r i).position - 1) (omega (arith, p, q))) h (claimant_claims ((r i).position - 1) (omega (arith, p, q)) ∙ e);
      }

  pub linearization : Linearization n r
  unfolding by_claims
  linearization =
      record {
        begun = a.begun;
        one_at_a_time = a.one_at_a_time;
        order = by_claims;
        real_time = real_time;
        bag =
            plays_follows (by_position n r) empty_ledger [] between_none a.played;
      }
    where
      real_time : (i j : ℕ) → i < n → j < n → (r i).answer < (r j).begin → (r i).position - 1 < (r j).position - 1
      real_time i j hi hj l = go (eqb i j) refl
        where
          go : (q : Bool) → eqb i j ≡ q → (r i).position - 1 < (r j).position - 1
          go true e =
              let b = a.begun i hi in
              let same = ap (λ y. (r y).begin) (eqb-true i j e) in
              absurd (omega (arith, l, b, same))
          go false e =
              let p = a.real_time i j hi hj (eqb-false i j e) l in
              let f = a.first i hi in
              omega (arith, p, f)

  pub as_claimed : AsClaimed n r
  unfolding linearization by_claims
  as_claimed = record { linearization = linearization; claimed = λ i h. let p = a.first i h in omega (arith, p) }

-- an answer of 0 is neither the refusal nor a no
answered_done : (w a : Bool) → verdict_code (BadRecords unless w otherwise Ok a) ≡ done → a ≡ true
unfolding pick
answered_done true true e = refl
answered_done true false e = absurd (omega (arith, e))
answered_done false a e = absurd (omega (arith, e))

pub accepted_is_linearizable : AcceptedIsLinearizable
unfolding records_answer
accepted_is_linearizable b e =
    as_claimed (record_count b) (recorded_at b)
    (accepted_all (record_count b) (recorded_at b) (answered_done (well_formed b) (accepts (record_count b) (recorded_at b)) e))
