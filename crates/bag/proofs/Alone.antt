-- A thread that goes on alone, turn by turn, to an end: what others do between its turns changes neither shared memory nor its record, but for
-- a permission. The take's figure and the put's promise both go by this. Assumes nothing.
use Prim.Native.Nat.{ℕ, suc, ◌+◌, ◌≤◌, ◌<◌}
use native.Mathlib.Omega.{arith}
use mathlib.Core.Path.{◌≡◌, refl, sym, ap, subst, ◌∙◌}
use mathlib.Core.Bool.{Bool, true, false, not}
use mathlib.Core.List.{List, [], ◌∷◌}
use borrow.Author.Tests.{eqb-false, eqb-true}
use lib.Dec.{eqb}
use lib.ListN.{length}
use Rattle.region.specs.declared.refusal.Refusal.TheVariants.{CounterSpent}
use Rattle.region.specs.Pick.{pick}
use Rattle.region.specs.Place.{place_number}
use Rattle.region.specs.Shape.{between}
use Rattle.region.specs.Shared.{Shared, shared_in, thread_in}
use Rattle.region.specs.Thread.{with_permission}
use Rattle.region.specs.declared.answer.Answer.TheVariants.{Moved, Refused}
use Rattle.region.specs.declared.frame.Frame.{Frame}
use Rattle.region.specs.declared.place.Place.{Place}
use Rattle.region.specs.declared.record.Node.{Node}
use Rattle.region.specs.declared.shape.Shape.{Shape}
use Rattle.region.specs.declared.thread.Thread.{Thread}
use Rattle.region.proofs.Picks.{upd_same}
use Rattle.region.proofs.Shapes.{above, below, between_least, between_most}
use Rattle.access.specs.Effect.{effect_shared}
use Rattle.access.specs.Plan.{changes_nothing, moved, plan, refused}
use Rattle.access.specs.Read.{same_node}
use Rattle.access.specs.declared.plan.Plan.{Plan}
use Rattle.access.proofs.ReadLaws.{same_itself}
use Rattle.readable.proofs.Laws.{Good}
use Rattle.readable.proofs.Stores.{keeps_set_permission}
use Rattle.permission.specs.Grants.{may_put, may_take}
use Rattle.permission.specs.Permit.{permit_bytes_in}
use Rattle.permission.specs.Withdraw.{is_put_place, is_take_place, lacks_permission, permitted}
use Rattle.permission.proofs.Laws.{none_lacks, put_lacks, take_lacks}
use Rattle.run.specs.Run.{Turn}
use Rattle.machine.specs.Turn.{decide, decide_at, turn_answer, turn_bytes, turn_plan}
use Rattle.preserved.proofs.Proved.{permit_either, permit_least, permit_most, turn_keeps}
use Rattle.bag.specs.Alone.{Alone, Between, EndsAt, NoOtherMoves, NoneSpent, PermissionKept, Step, last, moved_then, permit, step_of, steps_of, turn}
use Rattle.bag.proofs.Begun.{permit_shared, permit_thread}
use Rattle.bag.proofs.Carried.{turn_decides, turn_shared, turn_stays, turn_threads}

-- a comparison with a copy that still holds
pub same_copy : {n q : Node} → q ≡ n → same_node n q ≡ true
same_copy {n} {q} e = ap (same_node n) e ∙ same_itself n

-- The plan of the place: at mending without a look at the permission, elsewhere with the permission there.
module _ (s : Shape) (m : Shared) (u : Thread) (c : ℕ) where
  not_lacking : {z : Place} → u.place ≡ z → lacks_permission u ≡ false → decide s m u c ≡ decide_at s m u c z
  unfolding decide permitted pick
  not_lacking e h = rw h (ap (decide_at s m u c) e)

  pub at_mending : {z : Place} → u.place ≡ z → between 11 (place_number z) 16 ≡ true → decide s m u c ≡ decide_at s m u c z
  unfolding is_put_place is_take_place
  at_mending {z} e h =
      let n = place_number u.place in
      let k : between 11 n 16 ≡ true = ap (λ y. between 11 (place_number y) 16) e ∙ h in
      let least = between_least 11 n 16 k in
      let most = between_most 11 n 16 k in
      not_lacking e (none_lacks u (above 1 n 8 (omega arith)) (rw (above 9 n 10 (omega arith), below 17 n 18 (omega arith)) refl))

  pub at_take : {z : Place} → u.place ≡ z → is_take_place z ≡ true → may_take u ≡ true → decide s m u c ≡ decide_at s m u c z
  at_take e h may = not_lacking e (take_lacks u (ap is_take_place e ∙ h) ∙ ap not may)

  pub at_put : {z : Place} → u.place ≡ z → is_put_place z ≡ true → may_put u ≡ true → decide s m u c ≡ decide_at s m u c z
  at_put e h may = not_lacking e (put_lacks u (ap is_put_place e ∙ h) ∙ ap not may)

-- Up to thread t's next turn no other thread's turn and no permission changes shared memory, nor t's record but for its permission.
module _ (f : Frame) (t : ℕ) (m : Shared) (u : Thread) where
  pub record StillSo (b : List ℕ) : Type 0 where
    pub good : Good f b
    pub shared : shared_in f b ≡ m
    pub permission : ℕ
    pub thread : thread_in f b t ≡ with_permission u permission

  permit_still : (b : List ℕ) (k p : ℕ) → StillSo b → StillSo (permit_bytes_in f b k p)
  unfolding with_permission
  permit_still b k p h =
      permit_either f b k p StillSo
      (λ passed.
      let x = permit_thread f b h.good k p passed t in
      record {
        good = (keeps_set_permission f b h.good k p (permit_least f k p passed) (permit_most f k p passed) passed.permission).good;
        shared = permit_shared f b h.good k p passed ∙ h.shared;
        permission = x.0;
        thread = x.1 ∙ ap (λ y. with_permission y x.0) h.thread;
      })
      (λ e. h)

  module _ (may : Thread → Bool) (C : List Step → Type 0)
      (now : (n : ℕ) (b : List ℕ) (c : ℕ) (xs : List Between) → Good f b → shared_in f b ≡ m → thread_in f b t ≡ with_permission u n
      → may (with_permission u n) ≡ true → NoOtherMoves f (turn_bytes f b t c) t xs
      → PermissionKept may f (turn_bytes f b t c) t xs → C (step_of f b t c ∷ steps_of f (turn_bytes f b t c) t xs)) where
    -- a turn: t's own, or another's, which leaves the region as it is
    turn_next : (b : List ℕ) (x : Turn) (xs : List Between) → StillSo b → NoOtherMoves f b t (turn x ∷ xs)
        → PermissionKept may f b t (turn x ∷ xs)
        → ((b' : List ℕ) → StillSo b' → NoOtherMoves f b' t xs → PermissionKept may f b' t xs
        → 1 ≤ length (steps_of f b' t xs) → C (steps_of f b' t xs))
        → 1 ≤ length (steps_of f b t (turn x ∷ xs)) → C (steps_of f b t (turn x ∷ xs))
    unfolding steps_of pick turn_answer
    turn_next b x xs h quiet kept more = go (eqb x.thread t) refl
      where
        after : List ℕ
        after = turn_bytes f b x.thread x.choice

        go : (q : Bool) → eqb x.thread t ≡ q
            → 1 ≤ length (pick q (step_of f b x.thread x.choice ∷ steps_of f after t xs) (steps_of f after t xs))
            → C (pick q (step_of f b x.thread x.choice ∷ steps_of f after t xs) (steps_of f after t xs))
        go true e long =
            let same = eqb-true x.thread t e in
            subst (λ k. C (step_of f b k x.choice ∷ steps_of f (turn_bytes f b k x.choice) t xs)) (sym same)
            (now h.permission b x.choice xs h.good h.shared h.thread (ap may (sym h.thread) ∙ kept.0)
            (subst (λ k. NoOtherMoves f (turn_bytes f b k x.choice) t xs) same quiet.1)
            (subst (λ k. PermissionKept may f (turn_bytes f b k x.choice) t xs) same kept.1))
        go false e long =
            let stays : after ≡ b = turn_stays f b x.thread x.choice (quiet.0 (eqb-false x.thread t e)) in
            more after (subst StillSo (sym stays) h) quiet.1 kept.1 long

    first_turn : (xs : List Between) (b : List ℕ) → StillSo b → NoOtherMoves f b t xs → PermissionKept may f b t xs
        → 1 ≤ length (steps_of f b t xs) → C (steps_of f b t xs)
    unfolding steps_of
    first_turn [] b h quiet kept long = absurd (omega arith)
    first_turn (turn x ∷ xs) b h quiet kept long =
        turn_next b x xs h quiet kept (λ b' h' quiet' kept' long'. first_turn xs b' h' quiet' kept' long') long
    first_turn (permit k p ∷ xs) b h quiet kept long = first_turn xs (permit_bytes_in f b k p) (permit_still b k p h) quiet kept.1 long

-- Who goes on, with which permission, and to what end: what holds of the accesses made in all, `end` of them at most, and of the last one.
pub record Goal : Type 1 where
  pub frame : Frame
  pub thread : ℕ
  pub least : 1 ≤ thread
  pub most : thread ≤ frame.shape.threads
  pub may : Thread → Bool
  pub end : ℕ
  pub Total : ℕ → Type 0
  pub Last : Step → Type 0

module _ (goal : Goal) where
  abbrev f : Frame
  f = goal.frame

  abbrev s : Shape
  s = f.shape

  abbrev t : ℕ
  t = goal.thread

  -- it ends after `count` accesses more
  pub record Ends (spent : ℕ) (steps : List Step) : Type 0 where
    pub count : ℕ
    pub total : goal.Total (spent + count)
    pub ends : EndsAt goal.Last count steps

  -- with turns enough and none refused 11
  abbrev EndsIn : ℕ → List Step → Type 0
  EndsIn spent steps = goal.end ≤ spent + length steps → NoneSpent steps → Ends spent steps

  -- from every region with this shared memory and, but for its permission, this record of thread t
  abbrev pub EndsFrom : ℕ → Shared → Thread → Type 0
  EndsFrom spent m u =
      (b : List ℕ) (xs : List Between) → StillSo f t m u b → NoOtherMoves f b t xs → PermissionKept goal.may f b t xs
      → EndsIn spent (steps_of f b t xs)

  -- what this says of a thread that goes on alone
  pub ends_alone : (spent n : ℕ) (m : Shared) (u : Thread) (b : List ℕ) (xs : List Between) → EndsFrom spent m u → StillSo f t m u b
      → Alone goal.may f b t xs n → goal.end ≤ spent + n → Ends spent (steps_of f b t xs)
  ends_alone spent n m u b xs ends h a long = ends b xs h a.quiet a.permission (omega (arith, a.enough)) a.unspent

  -- from where thread t's turn with choice c comes next, with this very record
  abbrev EndsBy : ℕ → Shared → Thread → ℕ → Type 0
  EndsBy spent m u c =
      (b : List ℕ) (xs : List Between) → Good f b → shared_in f b ≡ m → thread_in f b t ≡ u → goal.may u ≡ true
      → NoOtherMoves f (turn_bytes f b t c) t xs → PermissionKept goal.may f (turn_bytes f b t c) t xs
      → EndsIn spent (step_of f b t c ∷ steps_of f (turn_bytes f b t c) t xs)

  -- whatever the choice
  pub record EndsNow (spent : ℕ) (m : Shared) (u : Thread) : Type 0 where
    pub few : spent < goal.end
    pub on : (c : ℕ) → EndsBy spent m u c

  pub any_permission : (spent : ℕ) (m : Shared) (u : Thread) → ((n : ℕ) → EndsNow spent m (with_permission u n)) → EndsFrom spent m u
  any_permission spent m u now b xs h quiet kept long none =
      first_turn f t m u goal.may (EndsIn spent) (λ n b c xs. (now n).on c b xs) xs b h quiet kept (omega (arith, (now 0).few, long)) long none

  -- A turn that is refused 11 or has the plan p.
  module _ (spent : ℕ) (m : Shared) (u : Thread) (c : ℕ) (q : Bool) (p : Plan)
      (decides : goal.may u ≡ true → decide s m u c ≡ pick q (refused u CounterSpent) p) where
    module _ (b : List ℕ) (em : shared_in f b ≡ m) (eu : thread_in f b t ≡ u) (may : goal.may u ≡ true)
        (none : turn_answer f b t c ≡ Refused CounterSpent → ⊥) where
      by_place : turn_plan f b t c ≡ pick q (refused u CounterSpent) p
      by_place = turn_decides f b t c goal.least goal.most ∙ (λ i. decide s (em i) (eu i) c) ∙ decides may

      not_spent : q ≡ false
      unfolding turn_answer pick refused plan
      not_spent = go q by_place
        where
          go : (q : Bool) → turn_plan f b t c ≡ pick q (refused u CounterSpent) p → q ≡ false
          go true e = absurd (none (ap (λ x. x.answer) e))
          go false e = refl

      planned : turn_plan f b t c ≡ p
      unfolding pick
      planned = by_place ∙ ap (λ x. pick x (refused u CounterSpent) p) not_spent

    -- on to what p leaves
    turn_moves : p.answer ≡ Moved → (next : ℕ) → next ≡ spent + 1 → EndsFrom next (effect_shared m p.effect) p.thread
        → EndsBy spent m u c
    unfolding turn_answer with_permission
    turn_moves a next up after b xs g em eu may quiet kept long none =
        let e = planned b em eu may none.0 in
        let answered : (turn_plan f b t c).answer ≡ Moved = ap (λ x. x.answer) e ∙ a in
        let goes : changes_nothing (turn_plan f b t c).answer ≡ false = ap changes_nothing answered in
        let r = after (turn_bytes f b t c) xs
        (record {
          good = (turn_keeps f b g t c).good;
          shared = turn_shared f b t c g goes ∙ (λ i. effect_shared (em i) (e i).effect);
          permission = p.thread.permission;
          thread = ap (λ h. h t) (turn_threads f b t c g goes) ∙ upd_same (thread_in f b) t (turn_plan f b t c).thread ∙ ap (λ x. x.thread) e;
        })
        quiet kept (omega arith) none.1
        in
        record { count = suc r.count; total = subst goal.Total (omega arith) r.total; ends = moved_then answered r.ends }

    -- p is the last
    turn_ends : goal.Total (spent + 1)
        → ((b : List ℕ) → Good f b → shared_in f b ≡ m → thread_in f b t ≡ u → turn_plan f b t c ≡ p → goal.Last (step_of f b t c))
        → EndsBy spent m u c
    turn_ends total is_last b xs g em eu may quiet kept long none =
        record { count = 1; total = total; ends = last (is_last b g em eu (planned b em eu may none.0)) }

  -- the same whatever the choice
  module _ (spent : ℕ) (m : Shared) (u : Thread) (few : spent < goal.end) (q : Bool) (p : Plan)
      (decides : goal.may u ≡ true → (c : ℕ) → decide s m u c ≡ pick q (refused u CounterSpent) p) where
    pub moves : p.answer ≡ Moved → (next : ℕ) → next ≡ spent + 1 → EndsFrom next (effect_shared m p.effect) p.thread → EndsNow spent m u
    moves a next up after =
        record { few = few; on = λ c. turn_moves spent m u c q p (λ may. decides may c) a next up after }

    pub comes_to_end : goal.Total (spent + 1)
        → ((b : List ℕ) (c : ℕ) → Good f b → shared_in f b ≡ m → thread_in f b t ≡ u → turn_plan f b t c ≡ p → goal.Last (step_of f b t c))
        → EndsNow spent m u
    comes_to_end total is_last =
        record { few = few; on = λ c. turn_ends spent m u c q p (λ may. decides may c) total (λ b. is_last b c) }

  -- a turn that changes the thread's record alone, by the choice
  pub goes_by_choice : (spent next : ℕ) → next ≡ spent + 1 → (m : Shared) (u : Thread) (v : ℕ → Thread) → spent < goal.end
      → (goal.may u ≡ true → (c : ℕ) → decide s m u c ≡ moved (v c)) → ((c : ℕ) → EndsFrom next m (v c)) → EndsNow spent m u
  unfolding moved plan pick effect_shared
  goes_by_choice spent next up m u v few decides after =
      record {
        few = few;
        on = λ c. turn_moves spent m u c false (moved (v c)) (λ may. decides may c) refl next up (after c);
      }

  -- whatever the choice
  pub goes_on : (spent next : ℕ) → next ≡ spent + 1 → (m : Shared) (u v : Thread) → spent < goal.end
      → (goal.may u ≡ true → (c : ℕ) → decide s m u c ≡ moved v) → EndsFrom next m v → EndsNow spent m u
  goes_on spent next up m u v few decides after = goes_by_choice spent next up m u (λ c. v) few decides (λ c. after)
