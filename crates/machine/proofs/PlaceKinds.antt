-- The kind of effects that each place has: whichever way its plan goes, it has no effect or one of that kind, and the kind tells by what its
-- record goes idle. So storing the record by that test, and carrying out an effect of that kind alone, leaves what carrying the plan out is
-- defined to leave. The code carries out any effect at any place; this says what it need never look for. Assumes nothing.
use Prim.Native.Nat.{ℕ}
use mathlib.Core.Path.{◌≡◌, refl, sym}
use mathlib.Core.Bool.{Bool, true, false, ◌&&◌}
use mathlib.Core.List.{List}
use lib.Dec.{eqb}
use Rattle.region.specs.declared.refusal.Refusal.TheVariants.{Unreadable}
use Rattle.region.specs.Pick.{pick}
use Rattle.region.specs.Shared.{Shared, set_thread_in}
use Rattle.region.specs.Thread.{at_place, gone_idle, is_idle, with_depth}
use Rattle.region.specs.declared.answer.Answer.{Answer}
use Rattle.region.specs.declared.answer.Answer.TheVariants.{Moved, Idle as Rests, Inserted, Took, Empty, Refused, Withdrawn}
use Rattle.region.specs.declared.frame.Frame.{Frame}
use Rattle.region.specs.declared.place.Place.{Place}
use Rattle.region.specs.declared.place.Place.TheVariants.{Idle, ReadDepth, ReadLeaf, ReadAncestor, GrowDepth, ReadTarget, InsertAtRoot, ReadParent, InsertBelow, ReadRoot, RemoveHead, MendReadNode, MendReadDepth, MendReadLeft, MendReadRight, MendSwap, MendClean, ListReadRoot, RemoveList, HandOut}
use Rattle.region.specs.declared.record.Item.{Item}
use Rattle.region.specs.declared.record.Node.{Node}
use Rattle.region.specs.declared.record.NodeCopy.{NodeCopy}
use Rattle.region.specs.declared.shape.Shape.{Shape}
use Rattle.region.specs.declared.thread.Thread.{Thread}
use Rattle.access.specs.Effect.{effect_bytes}
use Rattle.access.specs.Plan.{plan, moved, on_to, refused, answers_operation, changes_nothing}
use Rattle.access.specs.Read.{read_node}
use Rattle.access.specs.declared.effect.Effect.{Effect}
use Rattle.access.specs.declared.effect.Effect.TheVariants.{Nothing, Grow, Push, Pop, Exchange, Clean, Detach, Free}
use Rattle.access.specs.declared.plan.Plan.{Plan}
use Rattle.insert.specs.Insert.{after_ancestor_read, grow_depth, insert_at, insert_at_root, insert_below, after_failed_try, after_leaf_read, read_ancestor, read_depth, read_leaf, read_parent, read_target, search_on}
use Rattle.extract.specs.Extract.{after_list_removal, after_removal, after_root_read, cas_root, hand_out, handed_out, list_read_root, read_root, remove_head, remove_list}
use Rattle.moundify.specs.Moundify.{after_children_read, after_depth_read, clean_at, exchange_at, exchange_with, mend_clean, mend_read_depth, mend_read_left, mend_read_node, mend_read_right, mend_swap, return_answer, returned, returning}
use Rattle.permission.specs.Withdraw.{is_put_place, withdrawal}
use Rattle.machine.specs.Inner.{is_withdrawn}
use Rattle.machine.specs.Turn.{carried_out, decide_at}

-- the kinds of effects, numbered in the order of `Effect`; a place that only reads has the effect nothing
abbrev pub reading : ℕ
reading = 0

abbrev pub growing : ℕ
growing = 1

abbrev pub pushing : ℕ
pushing = 2

abbrev pub popping : ℕ
popping = 3

abbrev pub exchanging : ℕ
exchanging = 4

abbrev pub cleaning : ℕ
cleaning = 5

abbrev pub detaching : ℕ
detaching = 6

abbrev pub freeing : ℕ
freeing = 7

abbrev pub kind_of : Effect → ℕ
kind_of Nothing = reading
kind_of (Grow d) = growing
kind_of (Push n v c x) = pushing
kind_of (Pop v c) = popping
kind_of (Exchange n v c w) = exchanging
kind_of (Clean n v) = cleaning
kind_of (Detach v) = detaching
kind_of (Free c) = freeing

-- the effect if it is of kind k, else nothing
unfoldable pub of_kind : ℕ → Effect → Effect
of_kind k e = pick (eqb (kind_of e) k) e Nothing

-- the region with a plan's record stored, gone idle where `idle` says so; or as it was where the turn is idle or refused
unfoldable pub stored_bytes : Frame → List ℕ → ℕ → Plan → Bool → List ℕ
stored_bytes f b n p idle = pick (changes_nothing p.answer) b (set_thread_in f b n (pick idle (gone_idle p.thread) p.thread))

-- Whether the record goes idle: by the answer, with which an operation ends; by the place at a hand-out, which may answer and go on, and at a
-- withdrawal, which is no answer. These two are told by the kind of effect that is carried out: they alone free a cell and change no node.
abbrev pub idle_by_answer : Plan → Bool
idle_by_answer p = answers_operation p.answer

abbrev pub idle_by_place : Plan → Bool
idle_by_place p = is_idle p.thread

abbrev by_effect : Bool → Plan → Bool
by_effect true = idle_by_place
by_effect false = idle_by_answer

abbrev pub goes_idle : ℕ → Plan → Bool
goes_idle k = by_effect (eqb k freeing)

-- the kind of effects that a place has
abbrev pub kind_at : Place → ℕ
kind_at Idle = reading
kind_at ReadDepth = reading
kind_at ReadLeaf = reading
kind_at ReadAncestor = reading
kind_at GrowDepth = growing
kind_at ReadTarget = reading
kind_at InsertAtRoot = pushing
kind_at ReadParent = reading
kind_at InsertBelow = pushing
kind_at ReadRoot = reading
kind_at RemoveHead = popping
kind_at (MendReadNode w) = reading
kind_at (MendReadDepth w) = reading
kind_at (MendReadLeft w) = reading
kind_at (MendReadRight w) = reading
kind_at (MendSwap w) = exchanging
kind_at (MendClean w) = cleaning
kind_at ListReadRoot = reading
kind_at RemoveList = detaching
kind_at HandOut = freeing

-- storing the record, gone idle where `idle` says so of the plan, and carrying out an effect of kind k is carrying the plan out; and no place
-- itself answers withdrawn
abbrev Carried : (Plan → Bool) → ℕ → Plan → Type 0
Carried idle k p = (f : Frame) (b : List ℕ) (n : ℕ) → effect_bytes f (stored_bytes f b n p (idle p)) (of_kind k p.effect) ≡ carried_out f b n p

pub record Fits (idle : Plan → Bool) (k : ℕ) (p : Plan) : Type 0 where
  pub carried : Carried idle k p
  pub own_answer : is_withdrawn p.answer ≡ false

-- the effect is nothing or of kind k
record OfKind (k : ℕ) (e : Effect) : Type 0 where
  same : of_kind k e ≡ e

none : {k : ℕ} → OfKind k Nothing
unfolding of_kind pick
none {k} = record { same = go (eqb reading k) }
  where
    go : (q : Bool) → pick q Nothing Nothing ≡ Nothing
    go true = refl
    go false = refl

itself : (e : Effect) → OfKind (kind_of e) e
unfolding of_kind pick
itself Nothing = record { same = refl }
itself (Grow d) = record { same = refl }
itself (Push n v c x) = record { same = refl }
itself (Pop v c) = record { same = refl }
itself (Exchange n v c w) = record { same = refl }
itself (Clean n v) = record { same = refl }
itself (Detach v) = record { same = refl }
itself (Free c) = record { same = refl }

-- withdrawn changes a byte, and answers no operation
stop_answer : (a : Answer) → changes_nothing a ≡ true → is_withdrawn a ≡ false
stop_answer Moved e = refl
stop_answer Rests e = refl
stop_answer Inserted e = refl
stop_answer (Took i) e = refl
stop_answer Empty e = refl
stop_answer (Refused n) e = refl
stop_answer Withdrawn e = sym e

end_answer : (a : Answer) → answers_operation a ≡ true → is_withdrawn a ≡ false
end_answer Moved e = refl
end_answer Rests e = refl
end_answer Inserted e = refl
end_answer (Took i) e = refl
end_answer Empty e = refl
end_answer (Refused n) e = refl
end_answer Withdrawn e = sym e

-- Each end of a plan: on to another place, refused or idle, the operation ends, or an item is handed out.
module _ {k : ℕ} {t : Thread} where
  on : {e : Effect} → OfKind k e → Fits idle_by_answer k (record { effect = e; thread = t; answer = Moved })
  unfolding stored_bytes carried_out pick
  on h = record { carried = λ f b n. rw h.same refl; own_answer = refl }

  goes : Fits idle_by_answer k (record { effect = Nothing; thread = t; answer = Moved })
  goes = on none

  stops : {idle : Plan → Bool} {a : Answer} → changes_nothing a ≡ true
      → Fits idle k (record { effect = Nothing; thread = t; answer = a })
  unfolding effect_bytes stored_bytes carried_out pick
  stops {a = a} g = let h : OfKind k Nothing = none in record { carried = λ f b n. rw (h.same, g) refl; own_answer = stop_answer a g }

rests : {k : ℕ} {e : Effect} (t : Thread) {a : Answer} → OfKind k e → changes_nothing a ≡ false → answers_operation a ≡ true
    → Fits idle_by_answer k (record { effect = e; thread = gone_idle t; answer = a })
unfolding stored_bytes carried_out gone_idle pick
rests t {a} h g e = record { carried = λ f b n. rw (h.same, g, e) refl; own_answer = end_answer a e }

-- with the last item the thread is idle, with any other it stays
hands : {k : ℕ} {e : Effect} {i : Item} (t u : Thread) (q : Bool) → OfKind k e
    → Fits idle_by_place k (record { effect = e; thread = pick q (gone_idle t) (at_place u HandOut); answer = Took i })
unfolding stored_bytes carried_out gone_idle is_idle at_place pick
hands t u true h = record { carried = λ f b n. rw h.same refl; own_answer = refl }
hands t u false h = record { carried = λ f b n. rw h.same refl; own_answer = refl }

or : {idle : Plan → Bool} {k : ℕ} (q : Bool) {a b : Plan} → Fits idle k a → Fits idle k b → Fits idle k (pick q a b)
unfolding pick
or true h g = h
or false h g = g

back : {k : ℕ} (e : Effect) (t : Thread) (w : ℕ) → OfKind k e → Fits idle_by_answer k (returning e t w)
unfolding returning return_answer returned plan gone_idle pick
back {k} e t w h = go (eqb w 0) (eqb t.after 1) _ _
  where
    go : (p q : Bool) (x y : Thread)
        → Fits idle_by_answer k (plan e (pick p (pick q (gone_idle t) x) y) (pick (p && q) (Took t.result) Moved))
    go true true x y = rests t h refl refl
    go true false x y = on h
    go false q x y = on h

exchanged : (s : Shape) (m : Shared) (t : Thread) (w c : ℕ) (k : Node) → Fits idle_by_answer exchanging (exchange_with s m t w c k)
unfolding exchange_with exchange_at plan on_to moved refused
exchanged s m t w c k = or _ (or _ (or _ (stops refl) (on (itself (Exchange _ _ _ _)))) goes) (stops refl)

root_read : (t : Thread) (q : NodeCopy) (after : ℕ) (next : Place) → Fits idle_by_answer reading (after_root_read t q after next)
unfolding after_root_read plan moved on_to
root_read t q after next = or _ goes (or _ (rests t none refl refl) goes)

root_cas : {k : ℕ} (m : Shared) (t : Thread) (back : Place) {removed : Plan} → Fits idle_by_answer k removed
    → Fits idle_by_answer k (cas_root m t back removed)
unfolding cas_root on_to moved refused plan
root_cas m t back h = or _ (or _ (stops refl) (or _ (stops refl) h)) goes

-- The plan of every place.
pub plan_fits : (s : Shape) (m : Shared) (t : Thread) (c : ℕ) (z : Place) → Fits (goes_idle (kind_at z)) (kind_at z) (decide_at s m t c z)
unfolding plan moved on_to refused read_depth read_leaf after_leaf_read after_failed_try search_on read_ancestor after_ancestor_read grow_depth read_target insert_at_root insert_at read_parent insert_below read_root remove_head after_removal mend_read_node mend_read_depth after_depth_read mend_read_left mend_read_right after_children_read mend_swap exchange_with exchange_at mend_clean clean_at list_read_root remove_list after_list_removal hand_out handed_out
plan_fits s m t c Idle = stops refl
plan_fits s m t c ReadDepth = goes
plan_fits s m t c ReadLeaf =
    or _ (or _ (or _ goes (or _ goes (stops refl))) goes) (stops refl)
plan_fits s m t c ReadAncestor = or _ (or _ goes (or _ goes (stops refl))) (stops refl)
plan_fits s m t c GrowDepth = or _ (or _ (on (itself (Grow _))) goes) (stops refl)
plan_fits s m t c ReadTarget = or _ (stops refl) goes
plan_fits s m t c InsertAtRoot = or _ (stops refl) (or _ (or _ (stops refl) (rests t (itself (Push _ _ _ _)) refl refl)) goes)
plan_fits s m t c ReadParent = or _ (stops refl) goes
plan_fits s m t c InsertBelow = or _ (stops refl) (or _ (or _ (stops refl) (rests t (itself (Push _ _ _ _)) refl refl)) goes)
plan_fits s m t c ReadRoot = root_read t (read_node m 1) 0 RemoveHead
plan_fits s m t c RemoveHead = root_cas m t ReadRoot (on (itself (Pop _ _)))
plan_fits s m t c (MendReadNode w) = or _ (stops refl) goes
plan_fits s m t c (MendReadDepth w) =
    or _ (or _ (stops refl) (or _ goes goes)) (back Nothing (with_depth t m.depth) w none)
plan_fits s m t c (MendReadLeft w) = or _ goes (stops refl)
plan_fits s m t c (MendReadRight w) = or _ (or _ goes (or _ goes (or _ goes goes))) (stops refl)
plan_fits s m t c (MendSwap w) = or _ (exchanged s m t w _ _) (exchanged s m t w _ _)
plan_fits s m t c (MendClean w) = or _ (stops refl) (or _ (or _ (stops refl) (back (Clean _ _) t w (itself (Clean _ _)))) goes)
plan_fits s m t c ListReadRoot = root_read t (read_node m 1) 2 RemoveList
plan_fits s m t c RemoveList = root_cas m t ListReadRoot (on (itself (Detach _)))
plan_fits s m t c HandOut = or _ (stops refl) (hands t _ _ (itself (Free _)))

-- And the plan of a withdrawn turn.
pub withdrawal_fits : (t : Thread) → Carried idle_by_place freeing (withdrawal t)
unfolding withdrawal plan refused effect_bytes stored_bytes carried_out gone_idle is_idle of_kind pick
withdrawal_fits t f b n = go (is_put_place t.place) (eqb t.own 0)
  where
    withdrawn_by : Bool → Bool → Plan
    withdrawn_by p q =
        pick p (pick q (refused t Unreadable) (plan (Free t.own) (gone_idle t) Withdrawn)) (plan Nothing (gone_idle t) Withdrawn)

    go : (p q : Bool)
        → effect_bytes f (stored_bytes f b n (withdrawn_by p q) (idle_by_place (withdrawn_by p q))) (of_kind freeing (withdrawn_by p q).effect)
        ≡ carried_out f b n (withdrawn_by p q)
    go true true = refl
    go true false = refl
    go false q = refl
