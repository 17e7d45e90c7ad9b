-- The empty list grants nothing. Where a permission lacks, by the place: no place is both a put's and a take's. On a readable region the call
-- is the one under its frame. Assumes nothing.
use Prim.Native.Nat.{ℕ}
use native.Mathlib.Omega.{arith}
use mathlib.Core.Path.{◌≡◌, refl, sym, ap, ◌∙◌}
use mathlib.Core.Bool.{Bool, true, false, not, ◌&&◌, ◌||◌, true≢false}
use mathlib.Core.List.{List}
use lib.Dec.{eqb}
use Rattle.region.specs.Refusal.{done}
use Rattle.region.specs.Pick.{pick}
use Rattle.region.specs.Place.{place_number}
use Rattle.region.specs.Shared.{set_permission_in}
use Rattle.region.specs.declared.place.Place.{Place}
use Rattle.region.specs.declared.thread.Thread.{Thread}
use Rattle.region.proofs.Shapes.{below, between_most}
use Rattle.readable.specs.Readable.{frame_in, readable}
use Rattle.permission.specs.Grants.{may_put, may_take}
use Rattle.permission.specs.Permit.{permit_bytes, permit_bytes_in, permit_check, permit_check_in, permit_refusal, permit_refusal_in}
use Rattle.permission.specs.Withdraw.{is_put_place, is_take_place, lacks_permission}

-- "0 is the empty list and grants nothing"
module _ (t : Thread) (e : t.permission ≡ 0) where
  pub no_put : may_put t ≡ false
  unfolding may_put
  no_put = rw e refl

  pub no_take : may_take t ≡ false
  unfolding may_take
  no_take = rw e refl

never_both : (p : Place) → is_put_place p ≡ true → is_take_place p ≡ false
unfolding is_put_place is_take_place
never_both p h =
    let n = place_number p in
    let l = between_most 1 n 8 h in
    rw (below 9 n 10 (omega arith), below 17 n 18 (omega arith)) refl

module _ (t : Thread) where
  pub put_lacks : is_put_place t.place ≡ true → lacks_permission t ≡ not (may_put t)
  unfolding lacks_permission
  put_lacks h = rw (never_both t.place h, h) (go (may_put t))
    where
      go : (m : Bool) → not m || false ≡ not m
      go true = refl
      go false = refl

  pub take_lacks : is_take_place t.place ≡ true → lacks_permission t ≡ not (may_take t)
  unfolding lacks_permission
  take_lacks h = rw h (go (is_put_place t.place) refl)
    where
      go : (q : Bool) → is_put_place t.place ≡ q → (q && not (may_put t)) || not (may_take t) ≡ not (may_take t)
      go true e = absurd (true≢false (sym h ∙ never_both t.place e))
      go false e = refl

  pub none_lacks : is_put_place t.place ≡ false → is_take_place t.place ≡ false → lacks_permission t ≡ false
  unfolding lacks_permission
  none_lacks h g = rw (h, g) refl

module _ (b : List ℕ) (e : readable b ≡ true) (t p : ℕ) where
  pub permit_check_in_lem : permit_check b t p ≡ permit_check_in (frame_in b) t p
  unfolding pick
  permit_check_in_lem = rw e refl

  pub permit_refusal_in_lem : permit_refusal b t p ≡ permit_refusal_in (frame_in b) t p
  unfolding permit_refusal permit_refusal_in pick
  permit_refusal_in_lem = rw e refl

  pub permit_bytes_in_lem : permit_bytes b t p ≡ permit_bytes_in (frame_in b) b t p
  unfolding permit_bytes permit_bytes_in
  permit_bytes_in_lem = ap (λ n. pick (eqb n done) (set_permission_in (frame_in b) b t p) b) permit_refusal_in_lem
