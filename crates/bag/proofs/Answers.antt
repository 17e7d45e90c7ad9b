-- What a turn tells is given by its plan's effect and answer, and its answer says what it told: shown for each place. Assumes nothing.
use Prim.Native.Nat.{ℕ, ◌+◌, ◌*◌}
use mathlib.Core.Path.{◌≡◌, refl, sym, ap, subst, ◌∙◌}
use mathlib.Core.Bool.{Bool, true, false, not, ◌&&◌, ◌||◌, true≢false}
use mathlib.Core.List.{List}
use lib.Dec.{eqb}
use Rattle.region.specs.declared.refusal.Refusal.{Refusal}
use Rattle.region.specs.declared.refusal.Refusal.TheVariants.{Unreadable}
use Rattle.region.specs.Pick.{pick}
use Rattle.region.specs.Shape.{between}
use Rattle.region.specs.Shared.{Shared, shared_in, thread_in}
use Rattle.region.specs.Thread.{at_place, gone_idle, mending, with_depth}
use Rattle.region.specs.declared.answer.Answer.{Answer}
use Rattle.region.specs.declared.answer.Answer.TheVariants.{Moved, Idle as AnswersIdle, Inserted, Took, Empty, Refused, Withdrawn}
use Rattle.region.specs.declared.frame.Frame.{Frame}
use Rattle.region.specs.declared.place.Place.{Place}
use Rattle.region.specs.declared.place.Place.TheVariants.{Idle, ReadDepth, ReadLeaf, ReadAncestor, GrowDepth, ReadTarget, InsertAtRoot, ReadParent, InsertBelow, ReadRoot, RemoveHead, MendReadNode, MendReadDepth, MendReadLeft, MendReadRight, MendSwap, MendClean, ListReadRoot, RemoveList, HandOut}
use Rattle.region.specs.declared.record.Item.{Item}
use Rattle.region.specs.declared.record.Node.{Node}
use Rattle.region.specs.declared.shape.Shape.{Shape}
use Rattle.region.specs.declared.thread.Thread.{Thread}
use Rattle.region.proofs.Picks.{pick_good, upd_same}
use Rattle.access.specs.Plan.{changes_nothing, moved, on_to, plan, refused}
use Rattle.access.specs.Read.{read_node}
use Rattle.access.specs.declared.effect.Effect.{Effect}
use Rattle.access.specs.declared.effect.Effect.TheVariants.{Nothing, Push, Pop, Clean, Detach, Free}
use Rattle.access.specs.declared.plan.Plan.{Plan}
use Rattle.insert.specs.Insert.{read_depth, read_leaf, read_ancestor, grow_depth, read_target, insert_at, insert_at_root, read_parent, insert_below}
use Rattle.extract.specs.Extract.{after_root_read, cas_root, hand_out, handed_out, list_read_root, read_root, remove_head, remove_list}
use Rattle.moundify.specs.Moundify.{returning, mend_read_node, mend_read_depth, mend_read_left, mend_read_right, exchange_with, mend_swap, mend_clean, returned, return_answer}
use Rattle.readable.proofs.Laws.{Good}
use Rattle.preserved.proofs.PlansGood.{or_left, or_right}
use Rattle.permission.specs.Withdraw.{is_unreadable, lacks_permission, permitted, withdrawal}
use Rattle.run.specs.Run.{Turn}
use Rattle.machine.specs.Inner.{is_withdrawn}
use Rattle.machine.proofs.PlaceEffects.{plan_ends}
use Rattle.machine.specs.Turn.{decide, decide_at, turn_answer, turn_plan}
use Rattle.theory.specs.Told.{nothing, decides_empty, decides_put}
use Rattle.theory.proofs.Steps.{effect_tells, quiet_tells}
use Rattle.bag.specs.Demand3.{Says, moved as says_moved, idle, refused as says_refused, inserted, empty, took, removed, list_removed, withdrawn as says_withdrawn}
use Rattle.bag.specs.History.{ServedTurn, turned, root_item, root_items, served_on}
use Rattle.bag.specs.Told.{answer_tells, stands, tells}
use Rattle.bag.proofs.Carried.{turn_threads}

-- the turn of thread u, with i as the root's item and is as its list, from the place p on by the plan x
module _ (i : Item) (is : List Item) (u : ℕ) where
  abbrev pub seen : Place → Place → Answer → ServedTurn
  seen p q a = record { thread = u; from = p; to = q; answer = a; root = i; list = is }

  record Spoken (p : Place) (x : Plan) : Type 0 where
    tells_so : answer_tells (seen p x.thread.place x.answer) x.answer ≡ effect_tells i is u x.answer x.effect
    says : Says u x.answer (effect_tells i is u x.answer x.effect)

  -- the place where the thread stands afterwards matters where it moved
  pub place_after : (p q q' : Place) (a : Answer) → (a ≡ Moved → q ≡ q') → answer_tells (seen p q a) a ≡ answer_tells (seen p q' a) a
  place_after p q q' Moved h = ap (λ y. answer_tells (seen p y Moved) Moved) (h refl)
  place_after p q q' AnswersIdle h = refl
  place_after p q q' Inserted h = refl
  place_after p q q' (Took j) h = refl
  place_after p q q' Empty h = refl
  place_after p q q' (Refused n) h = refl
  place_after p q q' Withdrawn h = refl

  plan_says : (p : Place) (e : Effect) (t : Thread) (a : Answer) → answer_tells (seen p t.place a) a ≡ effect_tells i is u a e
      → Says u a (effect_tells i is u a e) → Spoken p (plan e t a)
  unfolding plan
  plan_says p e t a k h = record { tells_so = k; says = h }

  refused_says : (p : Place) (t : Thread) (n : Refusal) → Spoken p (refused t n)
  unfolding refused
  refused_says p t n = plan_says p Nothing t (Refused n) refl says_refused

  either : (p : Place) (q : Bool) {a b : Plan} → Spoken p a → Spoken p b → Spoken p (pick q a b)
  either p q h g = pick_good (Spoken p) q (λ e. h) (λ e. g)

  -- a move from any place but E2 and 18
  module _ (p : Place) (other : stands p RemoveHead || stands p RemoveList ≡ false) where
    quiet_tells_lem : (q : Place) → answer_tells (seen p q Moved) Moved ≡ nothing
    unfolding pick
    quiet_tells_lem q =
        rw (or_left (stands p RemoveHead) (stands p RemoveList) other, or_right (stands p RemoveHead) (stands p RemoveList) other)
        (pick_good (λ x. x ≡ nothing) (stands q (MendReadNode 0)) (λ e. refl) (λ e. refl))

    moves_on : (e : Effect) (t : Thread) → effect_tells i is u Moved e ≡ nothing → Spoken p (plan e t Moved)
    moves_on e t k =
        plan_says p e t Moved (quiet_tells_lem t.place ∙ sym k) (subst (Says u Moved) (sym k) says_moved)

    moved_says : (t : Thread) → Spoken p (moved t)
    unfolding moved
    moved_says t = moves_on Nothing t refl

    on_to_says : (t : Thread) (q : Place) → Spoken p (on_to t q)
    unfolding on_to
    on_to_says t q = moved_says (at_place t q)

    -- "Return: .. by after": took, or on
    returning_says : (e : Effect) (t : Thread) (w : ℕ) → ((a : Answer) → effect_tells i is u a e ≡ quiet_tells u a) → Spoken p (returning e t w)
    unfolding returning return_answer
    returning_says e t w h =
        pick_good (λ a. Spoken p (plan e (returned t w) a)) (eqb w 0 && eqb t.after 1)
        (λ k. plan_says p e _ _ (sym (h (Took t.result))) (subst (Says u (Took t.result)) (sym (h (Took t.result))) took))
        (λ k. moves_on e _ (h Moved))

  -- every place
  module _ (s : Shape) (m : Shared) (t : Thread) (c : ℕ) where
    -- I6 and I8
    push_says : (p : Place) → stands p InsertAtRoot || stands p InsertBelow ≡ true → (n k x : ℕ) (v : Node)
        → Spoken p (plan (Push n v k x) (gone_idle t) Inserted)
    unfolding pick
    push_says p here n k x v = plan_says p _ _ _ (ap (λ q. pick q (decides_put u) nothing) here) inserted

    inserts_says : (p : Place) (n : ℕ) (holds : Bool) → stands p RemoveHead || stands p RemoveList ≡ false
        → stands p InsertAtRoot || stands p InsertBelow ≡ true → Spoken p (insert_at t n holds)
    unfolding insert_at
    inserts_says p n holds other here =
        either p holds (either p _ (refused_says p _ _) (push_says p here _ _ _ _)) (on_to_says p other _ _)

    empty_says : (p : Place) → stands p ReadRoot || stands p ListReadRoot ≡ true → Spoken p (plan Nothing (gone_idle t) Empty)
    unfolding pick
    empty_says p here = plan_says p _ _ _ (ap (λ q. pick q (decides_empty u) nothing) here) empty

    fails : (p back : Place) → stands back (MendReadNode 0) ≡ false → Spoken p (on_to t back)
    unfolding pick on_to moved at_place
    fails p back e = plan_says p _ _ _ (rw e refl) says_moved

    -- E1 and 17
    root_read_says : (p : Place) (after : ℕ) (next : Place) → stands p RemoveHead || stands p RemoveList ≡ false
        → stands p ReadRoot || stands p ListReadRoot ≡ true → Spoken p (after_root_read t (read_node m 1) after next)
    unfolding after_root_read
    root_read_says p after next other here =
        either p _ (moved_says p other _)
        (either p _ (empty_says p here) (on_to_says p other _ _))

    -- E2 and 18: one that fails goes back, to another place than M1
    root_cas_says : (p back : Place) (success : Plan) → stands back (MendReadNode 0) ≡ false → Spoken p success
        → Spoken p (cas_root m t back success)
    unfolding cas_root
    root_cas_says p back success e h = either p _ (either p _ (refused_says p _ _) (either p _ (refused_says p _ _) h)) (fails p back e)

    pop_says : (v : Node) (k n w : ℕ) (x : Thread) → Spoken RemoveHead (plan (Pop v k) (mending x n w) Moved)
    unfolding pick mending at_place
    pop_says v k n w x = plan_says _ _ _ _ refl removed

    detach_says : (v : Node) (n w : ℕ) (x : Thread) → Spoken RemoveList (plan (Detach v) (mending x n w) Moved)
    unfolding pick mending at_place
    detach_says v n w x = plan_says _ _ _ _ refl list_removed

    at_place_says : (p : Place) → Spoken p (decide_at s m t c p)
    unfolding read_depth read_leaf read_ancestor grow_depth read_target insert_at_root read_parent insert_below read_root remove_head list_read_root remove_list hand_out handed_out mend_read_node mend_read_depth mend_read_left mend_read_right mend_swap mend_clean
    at_place_says Idle = plan_says _ _ _ _ refl idle
    at_place_says ReadDepth = on_to_says _ refl _ _
    at_place_says ReadLeaf =
        either _ _ (either _ _ (either _ _ (on_to_says _ refl _ _) (either _ _ (on_to_says _ refl _ _) (refused_says _ _ _))) (on_to_says _ refl _ _))
        (refused_says _ _ _)
    at_place_says ReadAncestor =
        either _ _ (either _ _ (on_to_says _ refl _ _) (either _ _ (on_to_says _ refl _ _) (refused_says _ _ _))) (refused_says _ _ _)
    at_place_says GrowDepth = either _ _ (either _ _ (moves_on _ refl _ _ refl) (on_to_says _ refl _ _)) (refused_says _ _ _)
    at_place_says ReadTarget = either _ _ (refused_says _ _ _) (on_to_says _ refl _ _)
    at_place_says InsertAtRoot = either _ _ (refused_says _ _ _) (inserts_says _ _ _ refl refl)
    at_place_says ReadParent = either _ _ (refused_says _ _ _) (on_to_says _ refl _ _)
    at_place_says InsertBelow = either _ _ (refused_says _ _ _) (inserts_says _ _ _ refl refl)
    at_place_says ReadRoot = root_read_says ReadRoot 0 RemoveHead refl refl
    at_place_says RemoveHead = root_cas_says RemoveHead ReadRoot _ refl (pop_says _ _ _ _ _)
    at_place_says (MendReadNode w) = either _ _ (refused_says _ _ _) (on_to_says _ refl _ _)
    at_place_says (MendReadDepth w) =
        either _ _ (either _ _ (refused_says _ _ _) (either _ _ (on_to_says _ refl _ _) (on_to_says _ refl _ _)))
        (returning_says _ refl Nothing (with_depth t m.depth) w (λ a. refl))
    at_place_says (MendReadLeft w) = either _ _ (on_to_says _ refl _ _) (refused_says _ _ _)
    at_place_says (MendReadRight w) =
        either _ _
        (either _ _ (moved_says _ refl _) (either _ _ (moved_says _ refl _) (either _ _ (on_to_says _ refl _ _) (on_to_says _ refl _ _))))
        (refused_says _ _ _)
    at_place_says (MendSwap w) =
        either _ _ (exchanged (2 * t.node) t.copies.second.node) (exchanged (2 * t.node + 1) t.copies.third.node)
      where
        exchanged : (k : ℕ) (q : Node) → Spoken (MendSwap w) (exchange_with s m t w k q)
        exchanged k q =
            either _ _ (either _ _ (either _ _ (refused_says _ _ _) (moves_on _ refl _ _ refl)) (on_to_says _ refl _ _)) (refused_says _ _ _)
    at_place_says (MendClean w) =
        either _ _ (refused_says _ _ _)
        (either _ _ (either _ _ (refused_says _ _ _) (returning_says _ refl (Clean _ _) t w (λ a. refl))) (on_to_says _ refl _ _))
    at_place_says ListReadRoot = root_read_says ListReadRoot 2 RemoveList refl refl
    at_place_says RemoveList = root_cas_says RemoveList ListReadRoot _ refl (detach_says _ _ _ _)
    at_place_says HandOut = either _ _ (refused_says _ _ _) (plan_says _ (Free _) _ _ refl took)

  -- a withdrawn turn
  withdrawal_says : (p : Place) (t : Thread) → Spoken p (withdrawal t)
  unfolding withdrawal
  withdrawal_says p t =
      either p _ (either p _ (refused_says p t Unreadable) (plan_says p (Free t.own) _ _ refl says_withdrawn))
      (plan_says p Nothing _ _ refl says_withdrawn)

plan_spoken : (f : Frame) (b : List ℕ) (t c : ℕ) → Spoken (root_item f b) (root_items f b) t (thread_in f b t).place (turn_plan f b t c)
unfolding turn_plan decide permitted
plan_spoken f b t c =
    let i = root_item f b in
    let is = root_items f b in
    let u = thread_in f b t in
    either i is t _ _ (either i is t _ _ (withdrawal_says i is t _ u) (at_place_says i is t f.shape (shared_in f b) u c u.place))
    (refused_says i is t _ _ _)

-- a turn answers withdrawn by its withdrawal alone: no place itself does
module _ (f : Frame) (b : List ℕ) (t c : ℕ) where
  abbrev ByWithdrawal : Plan → Type 0
  ByWithdrawal p = p.answer ≡ Withdrawn → p ≡ withdrawal (thread_in f b t)

  pub by_withdrawal : ByWithdrawal (turn_plan f b t c)
  unfolding turn_plan decide permitted refused plan
  by_withdrawal =
      let u = thread_in f b t in
      let p = decide_at f.shape (shared_in f b) u c u.place in
      pick_good ByWithdrawal (between 1 t f.shape.threads)
      (λ e. pick_good ByWithdrawal (lacks_permission u && not (is_unreadable p.answer)) (λ k h. refl)
      (λ k h. absurd (true≢false (sym (ap is_withdrawn h) ∙ (plan_ends f.shape (shared_in f b) u c u.place).own_answer))))
      (λ e h. absurd (true≢false (sym (ap is_withdrawn h))))

-- a turn on bytes in range
module _ (f : Frame) (b : List ℕ) (g : Good f b) (x : Turn) where
  abbrev p : Plan
  p = turn_plan f b x.thread x.choice

  pub turn_tells : tells (turned (served_on f b x)) ≡ effect_tells (root_item f b) (root_items f b) x.thread p.answer p.effect
  unfolding served_on turn_answer
  turn_tells =
      let t = x.thread in
      let c = x.choice in
      place_after (root_item f b) (root_items f b) t _ _ p.thread.place p.answer (λ e.
      let moved_on = ap (λ h. h t) (turn_threads f b t c g (ap changes_nothing e)) ∙ upd_same (thread_in f b) t p.thread in
      ap (λ y. y.place) moved_on)
      ∙ (plan_spoken f b t c).tells_so

  pub turn_says : Says x.thread (turn_answer f b x.thread x.choice) (tells (turned (served_on f b x)))
  unfolding turn_answer
  turn_says = subst (Says x.thread p.answer) (sym turn_tells) (plan_spoken f b x.thread x.choice).says
