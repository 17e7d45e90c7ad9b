-- How each place's plan ends, whichever way it goes: its thread is idle where the operation ends, and every word of its record but the
-- permission is then 0. So what a turn at the place leaves is what carrying the plan out is defined to leave. Assumes nothing.
use Prim.Native.Nat.{ℕ}
use mathlib.Core.Path.{◌≡◌, refl, sym}
use mathlib.Core.Bool.{Bool, true, false, ◌&&◌}
use mathlib.Core.List.{List}
use lib.Dec.{eqb}
use Rattle.region.specs.declared.refusal.Refusal.TheVariants.{Unreadable}
use Rattle.region.specs.Pick.{pick}
use Rattle.region.specs.Place.{place_number}
use Rattle.region.specs.Shared.{Shared}
use Rattle.region.specs.Thread.{at_place, gone_idle, is_idle, mending, with_depth}
use Rattle.region.specs.declared.answer.Answer.{Answer}
use Rattle.region.specs.declared.answer.Answer.TheVariants.{Moved, Idle as Rests, Inserted, Took, Empty, Refused, Withdrawn}
use Rattle.region.specs.declared.frame.Frame.{Frame}
use Rattle.region.specs.declared.place.Place.{Place}
use Rattle.region.specs.declared.place.Place.TheVariants.{Idle, ReadDepth, ReadLeaf, ReadAncestor, GrowDepth, ReadTarget, InsertAtRoot, ReadParent, InsertBelow, ReadRoot, RemoveHead, MendReadNode, MendReadDepth, MendReadLeft, MendReadRight, MendSwap, MendClean, ListReadRoot, RemoveList, HandOut}
use Rattle.region.specs.declared.record.Item.{Item}
use Rattle.region.specs.declared.record.Node.{Node}
use Rattle.region.specs.declared.record.NodeCopy.{NodeCopy}
use Rattle.region.specs.declared.shape.Shape.{Shape}
use Rattle.region.specs.declared.thread.Thread.{Thread}
use Rattle.access.specs.Plan.{plan, moved, on_to, refused, changes_nothing}
use Rattle.access.specs.Read.{read_node}
use Rattle.access.specs.declared.effect.Effect.{Effect}
use Rattle.access.specs.declared.effect.Effect.TheVariants.{Nothing, Clean, Free}
use Rattle.access.specs.declared.plan.Plan.{Plan}
use Rattle.insert.specs.Insert.{after_ancestor_read, after_failed_try, after_leaf_read, failed_place, grow_depth, insert_at, insert_at_root, insert_below, read_ancestor, read_depth, read_leaf, read_parent, read_target, search_on, target_place}
use Rattle.extract.specs.Extract.{after_list_removal, after_removal, after_root_read, cas_root, hand_out, handed_out, list_read_root, read_root, remove_head, remove_list}
use Rattle.moundify.specs.Moundify.{after_children_read, after_depth_read, clean_at, exchange_at, exchange_with, mend_clean, mend_read_depth, mend_read_left, mend_read_node, mend_read_right, mend_swap, place_after, return_answer, returned, returning}
use Rattle.turns.specs.Inner.{plan_bytes, record_bytes}
use Rattle.permission.specs.Withdraw.{is_put_place, withdrawal}
use Rattle.machine.specs.Inner.{is_withdrawn}
use Rattle.machine.specs.Turn.{carried_out, decide_at}

-- storing the record as a turn does, idle records as idle ones, and carrying the effect out is carrying the plan out
abbrev Carried : Plan → Type 0
Carried p = (f : Frame) (b : List ℕ) (n : ℕ) → plan_bytes f b n p ≡ carried_out f b n p

-- and no place itself answers withdrawn
pub record Ends (p : Plan) : Type 0 where
  pub carried : Carried p
  pub own_answer : is_withdrawn p.answer ≡ false

-- withdrawn changes a byte
stop_answer : (a : Answer) → changes_nothing a ≡ true → is_withdrawn a ≡ false
stop_answer Moved e = refl
stop_answer Rests e = refl
stop_answer Inserted e = refl
stop_answer (Took i) e = refl
stop_answer Empty e = refl
stop_answer (Refused n) e = refl
stop_answer Withdrawn e = sym e

-- Each end of a plan: refused or idle, on to another place, the operation ends, or an item is handed out.
stops : {t : Thread} {a : Answer} → changes_nothing a ≡ true → Ends (record { effect = Nothing; thread = t; answer = a })
unfolding plan_bytes carried_out pick
stops {a = a} g = record { carried = λ f b n. rw g refl; own_answer = stop_answer a g }

on : {e : Effect} {t : Thread} → is_idle t ≡ false → Ends (record { effect = e; thread = t; answer = Moved })
unfolding plan_bytes record_bytes carried_out pick
on h = record { carried = λ f b n. rw h refl; own_answer = refl }

rests : {e : Effect} (t : Thread) {a : Answer} → is_withdrawn a ≡ false → Ends (record { effect = e; thread = gone_idle t; answer = a })
unfolding plan_bytes record_bytes carried_out gone_idle is_idle pick
rests t h = record { carried = λ f b n. refl; own_answer = h }

-- with the last item the thread is idle, with any other it stays
hands : {e : Effect} {i : Item} (t u : Thread) (q : Bool)
    → Ends (record { effect = e; thread = pick q (gone_idle t) (at_place u HandOut); answer = Took i })
unfolding plan_bytes record_bytes carried_out gone_idle is_idle at_place pick
hands t u true = record { carried = λ f b n. refl; own_answer = refl }
hands t u false = record { carried = λ f b n. refl; own_answer = refl }

or : (q : Bool) {a b : Plan} → Ends a → Ends b → Ends (pick q a b)
unfolding pick
or true h g = h
or false h g = g

-- a place that is not idle
abbrev Away : Place → Type 0
Away z = eqb (place_number z) 0 ≡ false

either : (q : Bool) (y z : Place) → Away y → Away z → Away (pick q y z)
unfolding pick
either true y z h g = h
either false y z h g = g

goes : {e : Effect} (t : Thread) (z : Place) → Away z → Ends (record { effect = e; thread = at_place t z; answer = Moved })
unfolding at_place is_idle
goes t z h = on h

mends : {e : Effect} (t : Thread) (n w : ℕ) → Ends (record { effect = e; thread = mending t n w; answer = Moved })
unfolding mending at_place is_idle
mends t n w = on refl

back : (e : Effect) (t : Thread) (w : ℕ) → Ends (returning e t w)
unfolding returning return_answer returned plan place_after pick
back e t w = go (eqb w 0) (eqb t.after 1) _ _
  where
    go : (p q : Bool) (n v : ℕ)
        → Ends (plan e (pick p (pick q (gone_idle t) (at_place t (place_after t.after))) (mending t n v)) (pick (p && q) (Took t.result) Moved))
    go true true n v = rests t refl
    go true false n v =
        goes t (place_after t.after)
        (either (eqb t.after 2) ListReadRoot _ refl (either (eqb t.after 3) HandOut ReadRoot refl refl))
    go false q n v = mends t n v

exchanged : (s : Shape) (m : Shared) (t : Thread) (w c : ℕ) (k : Node) → Ends (exchange_with s m t w c k)
unfolding exchange_with exchange_at plan on_to moved refused
exchanged s m t w c k = or _ (or _ (or _ (stops refl) (mends _ _ _)) (goes _ _ refl)) (stops refl)

root_read : (t : Thread) (q : NodeCopy) (after : ℕ) (next : Place) → Away next → Ends (after_root_read t q after next)
unfolding after_root_read plan moved on_to
root_read t q after next h = or _ (mends _ _ _) (or _ (rests t refl) (goes _ next h))

root_cas : (m : Shared) (t : Thread) (back : Place) → Away back → {removed : Plan} → Ends removed → Ends (cas_root m t back removed)
unfolding cas_root on_to moved refused plan
root_cas m t back a h = or _ (or _ (stops refl) (or _ (stops refl) h)) (goes _ back a)

-- the search goes on, or to the insertion point
searches : (t : Thread) → Ends (search_on t)
unfolding search_on plan moved on_to refused
searches t = or _ (goes _ _ refl) (or _ (goes _ _ refl) (stops refl))

-- The plan of every place.
pub plan_ends : (s : Shape) (m : Shared) (t : Thread) (c : ℕ) (z : Place) → Ends (decide_at s m t c z)
unfolding plan moved on_to refused read_depth read_leaf after_leaf_read after_failed_try failed_place read_ancestor after_ancestor_read grow_depth read_target target_place insert_at_root insert_at read_parent insert_below read_root remove_head after_removal mend_read_node mend_read_depth after_depth_read mend_read_left mend_read_right after_children_read mend_swap exchange_with exchange_at mend_clean clean_at list_read_root remove_list after_list_removal hand_out handed_out
plan_ends s m t c Idle = stops refl
plan_ends s m t c ReadDepth = goes _ _ refl
plan_ends s m t c ReadLeaf =
    or _ (or _ (searches _) (goes _ _ (either _ _ _ refl (either _ _ _ refl refl)))) (stops refl)
plan_ends s m t c ReadAncestor = or _ (searches _) (stops refl)
plan_ends s m t c GrowDepth = or _ (or _ (goes _ _ refl) (goes _ _ refl)) (stops refl)
plan_ends s m t c ReadTarget = or _ (stops refl) (goes _ _ (either _ _ _ refl (either _ _ _ refl refl)))
plan_ends s m t c InsertAtRoot = or _ (stops refl) (or _ (or _ (stops refl) (rests t refl)) (goes _ _ refl))
plan_ends s m t c ReadParent = or _ (stops refl) (goes _ _ (either _ _ _ refl refl))
plan_ends s m t c InsertBelow = or _ (stops refl) (or _ (or _ (stops refl) (rests t refl)) (goes _ _ refl))
plan_ends s m t c ReadRoot = root_read t (read_node m 1) 0 RemoveHead refl
plan_ends s m t c RemoveHead = root_cas m t ReadRoot refl (mends _ _ _)
plan_ends s m t c (MendReadNode w) = or _ (stops refl) (goes _ _ refl)
plan_ends s m t c (MendReadDepth w) =
    or _ (or _ (stops refl) (or _ (goes _ _ refl) (goes _ _ refl))) (back Nothing (with_depth t m.depth) w)
plan_ends s m t c (MendReadLeft w) = or _ (goes _ _ refl) (stops refl)
plan_ends s m t c (MendReadRight w) = or _ (or _ (mends _ _ _) (or _ (mends _ _ _) (or _ (goes _ _ refl) (goes _ _ refl)))) (stops refl)
plan_ends s m t c (MendSwap w) = or _ (exchanged s m t w _ _) (exchanged s m t w _ _)
plan_ends s m t c (MendClean w) = or _ (stops refl) (or _ (or _ (stops refl) (back (Clean _ _) t w)) (goes _ _ refl))
plan_ends s m t c ListReadRoot = root_read t (read_node m 1) 2 RemoveList refl
plan_ends s m t c RemoveList = root_cas m t ListReadRoot refl (mends _ _ _)
plan_ends s m t c HandOut = or _ (stops refl) (hands t _ _)

-- And the plan of a withdrawn turn.
pub withdrawal_ends : (t : Thread) → Carried (withdrawal t)
unfolding withdrawal plan refused plan_bytes record_bytes carried_out gone_idle is_idle pick
withdrawal_ends t f b n = go (is_put_place t.place) (eqb t.own 0)
  where
    withdrawn_by : Bool → Bool → Plan
    withdrawn_by p q =
        pick p (pick q (refused t Unreadable) (plan (Free t.own) (gone_idle t) Withdrawn)) (plan Nothing (gone_idle t) Withdrawn)

    go : (p q : Bool) → plan_bytes f b n (withdrawn_by p q) ≡ carried_out f b n (withdrawn_by p q)
    go true true = refl
    go true false = refl
    go false q = refl
