-- What request 5 says of each call and each turn: a deciding access has its permission, a withdrawn turn frees its put's cell, and a thread that
-- is idle with an empty list changes nothing. Assumes nothing.
use Prim.Native.Nat.{ℕ, zero, suc, ◌≤◌}
use native.Mathlib.Omega.{arith}
use mathlib.Core.Path.{◌≡◌, refl, sym, ap, ◌∙◌}
use mathlib.Core.Bool.{Bool, true, false, not, ◌||◌, true≢false}
use mathlib.Core.List.{List}
use borrow.Author.Tests.{eqb-true, eqb-false, ne_eqb, not-false}
use lib.Dec.{eqb}
use Rattle.region.specs.Refusal.{done}
use Rattle.region.specs.declared.refusal.Refusal.TheVariants.{BadThread, Unreadable}
use Rattle.region.specs.Pick.{pick}
use Rattle.region.specs.Place.{place_number}
use Rattle.region.specs.Shape.{between}
use Rattle.region.specs.Shared.{shared_in, thread_in}
use Rattle.region.specs.Thread.{gone_idle, idle_thread, is_idle}
use Rattle.region.specs.declared.answer.Answer.{Answer}
use Rattle.region.specs.declared.answer.Answer.TheVariants.{Moved, Idle, Inserted, Took, Empty, Refused, Withdrawn}
use Rattle.region.specs.declared.frame.Frame.{Frame}
use Rattle.region.specs.declared.place.Place.{Place}
use Rattle.region.specs.declared.place.Place.TheVariants.{InsertAtRoot, InsertBelow, ReadRoot, RemoveHead, ListReadRoot, RemoveList}
use Rattle.region.specs.declared.record.Cell.{Cell}
use Rattle.region.specs.declared.record.Item.{Item}
use Rattle.region.specs.declared.thread.Thread.{Thread}
use Rattle.region.proofs.Picks.{pick_good, upd_same}
use Rattle.access.specs.Effect.{effect_shared}
use Rattle.access.specs.Plan.{changes_nothing, plan, refused}
use Rattle.access.specs.declared.effect.Effect.TheVariants.{Nothing, Free}
use Rattle.access.specs.declared.plan.Plan.{Plan}
use Rattle.readable.specs.Readable.{frame_in}
use Rattle.readable.proofs.Laws.{Good}
use Rattle.permission.specs.Grants.{may_put, may_take}
use Rattle.permission.specs.Withdraw.{is_put_place, is_take_place, is_unreadable, lacks_permission, permitted, withdrawal}
use Rattle.permission.proofs.Laws.{no_put, no_take, put_lacks, take_lacks}
use Rattle.begin.specs.Begin.{put_bytes_in, put_refusal_in, take_bytes_in, take_refusal_in}
use Rattle.begin.proofs.Laws.{is_idle_lem}
use Rattle.run.specs.Run.{Turn}
use Rattle.machine.specs.Inner.{is_withdrawn}
use Rattle.machine.specs.Turn.{carried_out, decide, decide_at, turn_answer, turn_bytes, turn_plan}
use Rattle.preserved.proofs.Proved.{put_passed, take_passed}
use Rattle.theory.specs.Ledger.{Ledger}
use Rattle.theory.specs.Tree.{list_from}
use Rattle.theory.proofs.Chains.{Chain, ends, first_owned, link}
use Rattle.theory.proofs.Held.{free_chain, node_chain}
use Rattle.theory.proofs.Steps.{Invariant, owns}
use Rattle.bag.specs.History.{ServedTurn, served_on, turned}
use Rattle.bag.specs.Operations.{withdrawing, withdrawn}
use Rattle.bag.specs.Permission.{FreeAgain, Granted, NotIn}
use Rattle.bag.specs.Told.{stands, tells}
use Rattle.bag.proofs.Answers.{by_withdrawal}
use Rattle.bag.proofs.Carried.{turn_shared, turn_threads}
use Rattle.bag.proofs.Histories.{turned_so}

-- A turn that lacks its permission is withdrawn or refused.
abbrev undone : Answer → Bool
undone Moved = false
undone Idle = false
undone Inserted = false
undone (Took i) = false
undone Empty = false
undone (Refused n) = true
undone Withdrawn = true

unreadable_undone : (a : Answer) → is_unreadable a ≡ true → undone a ≡ true
unreadable_undone Moved e = absurd (true≢false (sym e))
unreadable_undone Idle e = absurd (true≢false (sym e))
unreadable_undone Inserted e = absurd (true≢false (sym e))
unreadable_undone (Took i) e = absurd (true≢false (sym e))
unreadable_undone Empty e = absurd (true≢false (sym e))
unreadable_undone (Refused n) e = refl
unreadable_undone Withdrawn e = refl

abbrev Undone : Plan → Type 0
Undone p = undone p.answer ≡ true

withdrawal-undone : (t : Thread) → undone (withdrawal t).answer ≡ true
unfolding withdrawal plan refused
withdrawal-undone t =
    pick_good Undone (is_put_place t.place) (λ e. pick_good Undone (eqb t.own 0) (λ z. refl) (λ z. refl)) (λ e. refl)

lacking_undone : (t : Thread) (p : Plan) → lacks_permission t ≡ true → undone (permitted t p).answer ≡ true
unfolding permitted pick
lacking_undone t p h = rw h (go (is_unreadable p.answer) refl)
  where
    go : (q : Bool) → is_unreadable p.answer ≡ q → undone (pick (not q) (withdrawal t) p).answer ≡ true
    go true e = unreadable_undone p.answer e
    go false e = withdrawal-undone t

or_cases : (a b : Bool) {P : Type 0} → a || b ≡ true → (a ≡ true → P) → (b ≡ true → P) → P
or_cases true b e f g = f refl
or_cases false b e f g = g e

-- A turn of a thread with the record th just before, on the region b.
module _ (b : List ℕ) (y : ServedTurn) (th : Thread) (here : thread_in (frame_in b) b y.thread ≡ th) (from : y.from ≡ th.place)
    (lacks : undone y.answer ≡ false → lacks_permission th ≡ false) where
  may_put_lem : (p : Place) → is_put_place p ≡ true → stands y.from p ≡ true → undone y.answer ≡ false
      → may_put (thread_in (frame_in b) b y.thread) ≡ true
  unfolding is_put_place
  may_put_lem p h k u =
      ap may_put here
      ∙ not-false (may_put th)
      (sym (put_lacks th (ap (λ n. between 1 n 8) (ap place_number (sym from) ∙ eqb-true (place_number y.from) (place_number p) k) ∙ h)) ∙ lacks u)

  may_take_lem : (p : Place) → is_take_place p ≡ true → stands y.from p ≡ true → undone y.answer ≡ false
      → may_take (thread_in (frame_in b) b y.thread) ≡ true
  unfolding is_take_place
  may_take_lem p h k u =
      ap may_take here
      ∙ not-false (may_take th)
      (sym (take_lacks th
      (ap (λ n. between 9 n 10 || between 17 n 18) (ap place_number (sym from) ∙ eqb-true (place_number y.from) (place_number p) k) ∙ h))
      ∙ lacks u)

  told_granted : Granted b (tells (turned y))
  unfolding is_put_place is_take_place between
  told_granted =
      turned_so (Granted b) y tt
      (λ e k. may_take_lem RemoveHead refl k (ap undone e))
      (λ e k. may_take_lem RemoveList refl k (ap undone e))
      (λ e k. or_cases (stands y.from InsertAtRoot) (stands y.from InsertBelow) k
      (λ s. may_put_lem InsertAtRoot refl s (ap undone e)) (λ s. may_put_lem InsertBelow refl s (ap undone e)))
      (λ i. tt)
      (λ e k. or_cases (stands y.from ReadRoot) (stands y.from ListReadRoot) k
      (λ s. may_take_lem ReadRoot refl s (ap undone e)) (λ s. may_take_lem ListReadRoot refl s (ap undone e)))
      (λ e. tt)

-- a turn that is not refused or withdrawn has its permission
not_lacking : (f : Frame) (b : List ℕ) (t c : ℕ) → undone (turn_answer f b t c) ≡ false → lacks_permission (thread_in f b t) ≡ false
unfolding turn_answer turn_plan decide refused plan pick
not_lacking f b t c = go (between 1 t f.shape.threads) (lacks_permission (thread_in f b t)) refl
  where
    p : Plan
    p = decide_at f.shape (shared_in f b) (thread_in f b t) c (thread_in f b t).place

    go : (q l : Bool) → lacks_permission (thread_in f b t) ≡ l
        → undone (pick q (permitted (thread_in f b t) p) (refused (idle_thread 0) BadThread)).answer ≡ false → l ≡ false
    go q false e h = refl
    go true true e h = absurd (true≢false (sym (lacking_undone (thread_in f b t) p e) ∙ h))
    go false true e h = absurd (true≢false h)

pub turn_granted : (b : List ℕ) (x : Turn) → Granted b (tells (turned (served_on (frame_in b) b x)))
unfolding served_on
turn_granted b x =
    told_granted b (served_on (frame_in b) b x) (thread_in (frame_in b) b x.thread) refl refl
    (not_lacking (frame_in b) b x.thread x.choice)

-- A withdrawn turn.
withdraws_so : (t : ℕ) (y : ServedTurn) → withdrawing t (tells (turned y)) ≡ true → (y.answer ≡ Withdrawn) × (t ≡ y.thread)
withdraws_so t y =
    turned_so (λ x. withdrawing t x ≡ true → (y.answer ≡ Withdrawn) × (t ≡ y.thread)) y
    (λ h. absurd (true≢false (sym h)))
    (λ e k h. absurd (true≢false (sym h)))
    (λ e k h. absurd (true≢false (sym h)))
    (λ e k h. absurd (true≢false (sym h)))
    (λ i h. absurd (true≢false (sym h)))
    (λ e k h. absurd (true≢false (sym h)))
    (λ e h. (e, eqb-true t y.thread h))

pub turn_withdrawn : (f : Frame) (b : List ℕ) (x : Turn) (t : ℕ) → withdrawn t (turned (served_on f b x)) ≡ true
    → ((turn_plan f b x.thread x.choice).answer ≡ Withdrawn) × (t ≡ x.thread)
unfolding served_on turn_answer
turn_withdrawn f b x t h = withdraws_so t (served_on f b x) h

-- its plan
module _ (t : Thread) where
  record Withdraws (p : Plan) : Type 0 where
    thread : p.thread ≡ gone_idle t
    effect : is_put_place t.place ≡ true → (p.effect ≡ Free t.own) × (t.own ≡ 0 → ⊥)

  withdraws_idle : (withdrawal t).answer ≡ Withdrawn → Withdraws (withdrawal t)
  unfolding withdrawal plan refused pick
  withdraws_idle = go (is_put_place t.place) refl (eqb t.own 0) refl
    where
      go : (p : Bool) → is_put_place t.place ≡ p → (q : Bool) → eqb t.own 0 ≡ q
          → (pick p (pick q (refused t Unreadable) (plan (Free t.own) (gone_idle t) Withdrawn)) (plan Nothing (gone_idle t) Withdrawn)).answer ≡ Withdrawn
          → Withdraws (pick p (pick q (refused t Unreadable) (plan (Free t.own) (gone_idle t) Withdrawn)) (plan Nothing (gone_idle t) Withdrawn))
      go true e true z h = absurd (true≢false (sym (ap is_withdrawn h)))
      go true e false z h = record { thread = refl; effect = λ k. (refl, eqb-false t.own 0 z) }
      go false e q z h = record { thread = refl; effect = λ k. absurd (true≢false (sym k ∙ e)) }

-- a cell with another owner is not in a chain
not_in : {cell : ℕ → Cell} {own rank : ℕ → ℕ} {o h c : ℕ} {cs : List ℕ} → Chain cell own rank o h cs → (own c ≡ o → ⊥) → (n : ℕ)
    → NotIn c (list_from cell n h)
unfolding list_from pick
not_in ends ne zero = tt
not_in ends ne (suc n) = tt
not_in (link d p eo er k) ne zero = tt
not_in {own = own} (link d p eo er k) ne (suc n) =
    rw (ne_eqb d 0 (λ z. omega arith)) (λ e. ne (ap own (sym e) ∙ eo), not_in k ne n)

module _ (f : Frame) (b : List ℕ) (g : Good f b) (t c : ℕ) (w : (turn_plan f b t c).answer ≡ Withdrawn) where
  abbrev th : Thread
  th = thread_in f b t

  abbrev after : List ℕ
  after = turn_bytes f b t c

  is_withdrawal : turn_plan f b t c ≡ withdrawal th
  is_withdrawal = by_withdrawal f b t c w

  so : Withdraws th (withdrawal th)
  so = withdraws_idle th (sym (ap (λ p. p.answer) is_withdrawal) ∙ w)

  pub withdrawn_idle : thread_in f after t ≡ gone_idle th
  withdrawn_idle =
      ap (λ h. h t) (turn_threads f b t c g (ap changes_nothing w)) ∙ upd_same (thread_in f b) t (turn_plan f b t c).thread
      ∙ ap (λ p. p.thread) is_withdrawal
      ∙ so.thread

  module _ (put : is_put_place th.place ≡ true) where
    freed_shared : shared_in f after ≡ effect_shared (shared_in f b) (Free th.own)
    freed_shared =
        turn_shared f b t c g (ap changes_nothing w) ∙ ap (λ p. effect_shared (shared_in f b) p.effect) is_withdrawal
        ∙ ap (effect_shared (shared_in f b)) (so.effect put).0

    first_free : (shared_in f after).free ≡ th.own
    unfolding effect_shared
    first_free = ap (λ m. m.free) freed_shared

    -- the free chain's first cell is no node's
    pub withdrawn_frees : {l : Ledger} {all : ℕ} → Invariant f.shape (shared_in f after) (thread_in f after) l all → FreeAgain f after th.own
    unfolding effect_shared shared_in
    withdrawn_frees inv =
        let m = shared_in f after in
        let held = inv.mound.held in
        let own = owns (thread_in f after) in
        let some : 1 ≤ m.free = omega (arith, first_free, (so.effect put).1) in
        let free : held.owner m.free ≡ 0 = first_owned (free_chain f.shape m own held) some in
        record {
          first = first_free;
          zeroed = ap (λ y. (y.cell th.own).item) freed_shared ∙ ap (λ y. y.item) (upd_same (shared_in f b).cell th.own _);
          in_no_list = λ n l u.
              not_in (node_chain f.shape m own held n l)
              (λ e. omega (arith, l, free, e, ap held.owner first_free)) f.shape.cells;
        }

-- A thread that is idle with an empty list.
module _ (f : Frame) (b : List ℕ) (t : ℕ) (idle : is_idle (thread_in f b t) ≡ true) (empty : (thread_in f b t).permission ≡ 0) where
  pub barred_turn : (c : ℕ) → turn_bytes f b t c ≡ b
  unfolding turn_bytes turn_plan decide carried_out permitted lacks_permission is_put_place is_take_place between plan refused pick
  barred_turn c =
      pick_good (λ p. carried_out f b t p ≡ b) (between 1 t f.shape.threads) (λ h. rw (is_idle_lem (thread_in f b t) idle) refl) (λ h. refl)

  -- its calls are refused
  pub barred_put : (i : Item) → put_bytes_in f b t i ≡ b
  unfolding put_bytes_in
  barred_put i =
      pick_good (λ x. x ≡ b) (eqb (put_refusal_in f b t i) done)
      (λ k. absurd (true≢false (sym (put_passed f b t i (eqb-true (put_refusal_in f b t i) done k)).permitted ∙ no_put (thread_in f b t) empty)))
      (λ k. refl)

  pub barred_take : (p : Place) → take_bytes_in f b t p ≡ b
  unfolding take_bytes_in
  barred_take p =
      pick_good (λ x. x ≡ b) (eqb (take_refusal_in f b t) done)
      (λ k. absurd (true≢false (sym (take_passed f b t (eqb-true (take_refusal_in f b t) done k)).permitted ∙ no_take (thread_in f b t) empty)))
      (λ k. refl)
