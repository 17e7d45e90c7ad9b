-- What the walks tell together is acceptance, over plain variables. Assumes nothing.
use Prim.Native.Nat.{ℕ, suc}
use mathlib.Core.Path.{◌≡◌, sym, ap, ◌∙◌}
use mathlib.Core.Bool.{Bool, true}
use mathlib.Core.List.{List, []}
use borrow.Author.Tests.{lt-ltb, eq-eqb}
use lib.Dec.{eqb}
use Rattle.region.specs.Shape.{between}
use Rattle.region.proofs.Shapes.{and_both, is_between}
use Rattle.records.specs.Accepts.{accepts, begins_before_answer, by_position, claimant, is_claimed, positions_fit}
use Rattle.records.specs.Inner.{InOrder, InTime}
use Rattle.records.specs.Play.{plays}
use Rattle.records.specs.Recorded.{every}
use Rattle.records.specs.declared.form.Recorded.{Recorded}
use Rattle.records.proofs.Accepted.{all_differ}
use Rattle.records.proofs.Every.{of_each, of_some}

module _ {n : ℕ} {r : ℕ → Recorded} {order : List ℕ} (o : InOrder n r order) where
  begins_first : every n (λ i. begins_before_answer (r i)) ≡ true
  begins_first = of_each n (λ i. begins_before_answer (r i)) (λ i h. lt-ltb (r i).begin (r i).answer (o.begun i h))

  positions_fit_lem : positions_fit n r ≡ true
  unfolding positions_fit is_claimed
  positions_fit_lem =
      and_both
      (and_both
      (of_each n (λ i. between 1 (r i).position n) (λ i h. is_between 1 (r i).position n (o.first i h) (o.last i h)))
      (all_differ n r
      (λ i j hi hj ne e. ne (sym (o.by_claim i hi) ∙ ap (claimant n r) e ∙ o.by_claim j hj))))
      (of_each n (λ k. is_claimed n r (suc k))
      (λ k h. of_some n (λ i. eqb (r i).position (suc k)) (claimant n r (suc k)) (o.there k h)
      (eq-eqb (r (claimant n r (suc k))).position (suc k) (o.claims k h))))

  module _ {t : Bool} (i : InTime n r t) where
    pub all_decided : t ≡ true → (g : Bool) → g ≡ plays [] (by_position n r) → g ≡ accepts n r
    unfolding accepts
    all_decided e g eg = rw (begins_first, i.one_by_one e, positions_fit_lem, i.real_time e) eg

-- no records at all are accepted
pub none_accepted : (n : ℕ) (r : ℕ → Recorded) → n ≡ 0 → true ≡ accepts n r
unfolding accepts
none_accepted n r e = sym (ap (λ m. accepts m r) e)
