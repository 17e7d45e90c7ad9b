-- A thread that passes the test of idleness stands at no place. On a readable region each beginning is the one under its frame. Assumes
-- nothing.
use Prim.Native.Nat.{ℕ}
use mathlib.Core.Path.{◌≡◌, refl, sym, ap}
use mathlib.Core.Bool.{true, true≢false}
use mathlib.Core.List.{List}
use lib.Dec.{eqb}
use Rattle.region.specs.Refusal.{done}
use Rattle.region.specs.Pick.{pick}
use Rattle.region.specs.Place.{place_number}
use Rattle.region.specs.Thread.{is_idle}
use Rattle.region.specs.declared.place.Place.{Place}
use Rattle.region.specs.declared.place.Place.TheVariants.{Idle, ReadDepth, ReadLeaf, ReadAncestor, GrowDepth, ReadTarget, InsertAtRoot, ReadParent, InsertBelow, ReadRoot, RemoveHead, MendReadNode, MendReadDepth, MendReadLeft, MendReadRight, MendSwap, MendClean, ListReadRoot, RemoveList, HandOut}
use Rattle.region.specs.declared.record.Item.{Item}
use Rattle.region.specs.declared.thread.Thread.{Thread}
use Rattle.readable.specs.Readable.{frame_in, readable}
use Rattle.begin.specs.Begin.{accepted_put, accepted_take, put_bytes, put_bytes_in, put_check, put_check_in, put_refusal, put_refusal_in, take_bytes, take_bytes_in, take_check, take_check_in, take_refusal, take_refusal_in}

idle_place : (x : Place) → eqb (place_number x) 0 ≡ true → x ≡ Idle
idle_place Idle e = refl
idle_place ReadDepth e = absurd (true≢false (sym e))
idle_place ReadLeaf e = absurd (true≢false (sym e))
idle_place ReadAncestor e = absurd (true≢false (sym e))
idle_place GrowDepth e = absurd (true≢false (sym e))
idle_place ReadTarget e = absurd (true≢false (sym e))
idle_place InsertAtRoot e = absurd (true≢false (sym e))
idle_place ReadParent e = absurd (true≢false (sym e))
idle_place InsertBelow e = absurd (true≢false (sym e))
idle_place ReadRoot e = absurd (true≢false (sym e))
idle_place RemoveHead e = absurd (true≢false (sym e))
idle_place (MendReadNode w) e = absurd (true≢false (sym e))
idle_place (MendReadDepth w) e = absurd (true≢false (sym e))
idle_place (MendReadLeft w) e = absurd (true≢false (sym e))
idle_place (MendReadRight w) e = absurd (true≢false (sym e))
idle_place (MendSwap w) e = absurd (true≢false (sym e))
idle_place (MendClean w) e = absurd (true≢false (sym e))
idle_place ListReadRoot e = absurd (true≢false (sym e))
idle_place RemoveList e = absurd (true≢false (sym e))
idle_place HandOut e = absurd (true≢false (sym e))

pub is_idle_lem : (x : Thread) → is_idle x ≡ true → x.place ≡ Idle
unfolding is_idle
is_idle_lem x e = idle_place x.place e

-- On a readable region a call is the one under its frame.
module _ (b : List ℕ) (e : readable b ≡ true) (t : ℕ) where
  pub put_check_in_lem : (i : Item) → put_check b t i ≡ put_check_in (frame_in b) b t i
  unfolding pick
  put_check_in_lem i = rw e refl

  pub take_check_in_lem : take_check b t ≡ take_check_in (frame_in b) b t
  unfolding pick
  take_check_in_lem = rw e refl

  pub put_refusal_in_lem : (i : Item) → put_refusal b t i ≡ put_refusal_in (frame_in b) b t i
  unfolding put_refusal put_refusal_in pick
  put_refusal_in_lem i = rw e refl

  pub put_bytes_in_lem : (i : Item) → put_bytes b t i ≡ put_bytes_in (frame_in b) b t i
  unfolding put_bytes put_bytes_in
  put_bytes_in_lem i = ap (λ n. pick (eqb n done) (accepted_put (frame_in b) b t i) b) (put_refusal_in_lem i)

  pub take_refusal_in_lem : take_refusal b t ≡ take_refusal_in (frame_in b) b t
  unfolding take_refusal take_refusal_in pick
  take_refusal_in_lem = rw e refl

  pub take_bytes_in_lem : (p : Place) → take_bytes b t p ≡ take_bytes_in (frame_in b) b t p
  unfolding take_bytes take_bytes_in
  take_bytes_in_lem p = ap (λ n. pick (eqb n done) (accepted_take (frame_in b) b t p) b) take_refusal_in_lem
