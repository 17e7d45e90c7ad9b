-- Permission at the deciding turn (document 02, request 5): "a permission must still be there when the operation takes effect". `permitted`
-- alone says when a turn is withdrawn; it stands around the places, whose own definitions do not look at the permission.
use Rattle.std.specs.Prelude.{Bool, true, false, not, ◌&&◌, ◌||◌, eqb}
use Rattle.region.specs.declared.refusal.Refusal.TheVariants.{Unreadable}
use Rattle.region.specs.Pick.{pick}
use Rattle.region.specs.Place.{place_number}
use Rattle.region.specs.Shape.{between}
use Rattle.region.specs.Thread.{gone_idle}
use Rattle.region.specs.declared.answer.Answer.{Answer}
use Rattle.region.specs.declared.answer.Answer.TheVariants.{Refused, Withdrawn}
use Rattle.region.specs.declared.place.Place.{Place}
use Rattle.region.specs.declared.place.Place.TheVariants.{ReadDepth, InsertBelow, ReadRoot, RemoveHead, ListReadRoot, RemoveList}
use Rattle.region.specs.declared.thread.Thread.{Thread}
use Rattle.access.specs.Plan.{plan, refused}
use Rattle.access.specs.declared.effect.Effect.TheVariants.{Nothing, Free}
use Rattle.access.specs.declared.plan.Plan.{Plan}
use Rattle.permission.specs.Grants.{may_put, may_take}

-- "Put of v": I1 to I8, where a put stands from its beginning, at I1, to its answer
unfoldable pub is_put_place : Place → Bool
is_put_place p = between (place_number ReadDepth) (place_number p) (place_number InsertBelow)

-- "a take's E1, E2, 17 or 18"
unfoldable pub is_take_place : Place → Bool
is_take_place p =
    between (place_number ReadRoot) (place_number p) (place_number RemoveHead)
    || between (place_number ListReadRoot) (place_number p) (place_number RemoveList)

-- "A turn of a thread at any put place, or at a take's E1, E2, 17 or 18, that lacks its permission": elsewhere it is not looked at
unfoldable pub lacks_permission : Thread → Bool
unfolding is_put_place is_take_place
lacks_permission t = (is_put_place t.place && not (may_put t)) || (is_take_place t.place && not (may_take t))

-- "makes no access, frees a put's own cell (7 if that is 0), goes idle and answers withdrawn"
unfoldable pub withdrawal : Thread → Plan
unfolding is_put_place
withdrawal t =
    pick
    (is_put_place t.place)
    (pick (eqb t.own 0) (refused t Unreadable) (plan (Free t.own) (gone_idle t) Withdrawn))
    (plan Nothing (gone_idle t) Withdrawn)

-- refused as unreadable
abbrev pub is_unreadable : Answer → Bool
is_unreadable (Refused Unreadable) = true
is_unreadable a = false

-- "this is looked at after 7 and before 11": p is the plan of the same turn with the permission there
unfoldable pub permitted : Thread → Plan → Plan
unfolding lacks_permission withdrawal
permitted t p = pick (lacks_permission t && not (is_unreadable p.answer)) (withdrawal t) p
