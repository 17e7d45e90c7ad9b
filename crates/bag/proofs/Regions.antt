-- The invariant on bytes under a frame: a turn and the beginnings keep it, and the ledger follows what they tell. Assumes nothing.
use Prim.Native.Nat.{ℕ, ◌≤◌}
use native.Mathlib.Omega.{arith}
use mathlib.Core.Path.{◌≡◌, refl, sym, ap, subst, subst₂, ◌∙◌}
use mathlib.Core.Bool.{Bool, true, false}
use mathlib.Core.List.{List}
use borrow.Author.Tests.{eqb-true}
use lib.Dec.{eqb}
use Rattle.region.specs.Refusal.{done}
use Rattle.region.specs.declared.refusal.Refusal.TheVariants.{BadThread, CounterSpent}
use Rattle.region.specs.Pick.{pick, upd}
use Rattle.region.specs.Shape.{between}
use Rattle.region.specs.Shared.{Shared, thread_in, shared_in}
use Rattle.region.specs.Thread.{at_place, idle_thread}
use Rattle.region.specs.declared.answer.Answer.{Answer}
use Rattle.region.specs.declared.answer.Answer.TheVariants.{Idle as AnswersIdle, Refused}
use Rattle.region.specs.declared.frame.Frame.{Frame}
use Rattle.region.specs.declared.place.Place.{Place}
use Rattle.region.specs.declared.place.Place.TheVariants.{ReadRoot, ListReadRoot}
use Rattle.region.specs.declared.record.Item.{Item}
use Rattle.region.specs.declared.shape.Shape.{Shape}
use Rattle.region.specs.declared.thread.Thread.{Thread}
use Rattle.region.proofs.Shapes.{between_least, between_most}
use Rattle.region.proofs.Views.{shared_set_permission, threads_set_permission}
use Rattle.access.specs.Plan.{changes_nothing, plan, refused}
use Rattle.access.specs.declared.effect.Effect.TheVariants.{Nothing}
use Rattle.access.specs.declared.plan.Plan.{Plan}
use Rattle.access.proofs.OrderLaws.{item_below_top}
use Rattle.readable.proofs.Laws.{Good}
use Rattle.readable.proofs.Stores.{keeps_set_permission}
use Rattle.begin.specs.Begin.{BeginsAt, accepted_put, accepted_take, one_item, put_bytes_in, put_refusal_in, take_bytes_in, take_refusal_in, whole_list}
use Rattle.run.specs.Run.{Turn}
use Rattle.machine.specs.Turn.{turn_bytes, turn_plan}
use Rattle.begin.proofs.Laws.{is_idle_lem}
use Rattle.permission.specs.Permit.{permit_bytes_in}
use Rattle.preserved.proofs.Proved.{PutPassed, TakePassed, accepted_put_keeps, accepted_take_keeps, permit_either, permit_least, permit_most, put_free, put_key, put_least, put_most, put_passed, put_tag, take_least, take_most, take_passed, turn_keeps}
use Rattle.theory.specs.Ledger.{Operation, Ledger, Follows, still}
use Rattle.theory.specs.Told.{Told, nothing, begins_put, begins_take, begins_list}
use Rattle.theory.proofs.Facts.{At}
use Rattle.theory.proofs.Plans.{Allowed, OwnAfter, Planned, OperationAfter, rests, refuses, moves, planned, operation_moves}
use Rattle.theory.proofs.Steps.{Invariant, NextState, effect_tells, list_begun, owns, permit_holds, put_begun, quiet_tells, take_begun, turn_moves}
use Rattle.bag.specs.History.{root_item, root_items, served_on, turned}
use Rattle.bag.specs.Told.{tells}
use Rattle.bag.proofs.Answers.{turn_tells}
use Rattle.bag.proofs.Begun.{put_shared, put_threads, take_shared, take_threads}
use Rattle.bag.proofs.Carried.{turn_decides, turn_shared, turn_stays, turn_threads}
use Rattle.bag.proofs.Histories.{Next}

-- bytes in range under a frame, on which the invariant holds; `all` cells are this queue's or free
pub record Region (f : Frame) (all : ℕ) (b : List ℕ) (l : Ledger) : Type 0 where
  pub good : Good f b
  pub holds : Invariant f.shape (shared_in f b) (thread_in f b) l all

-- a call or a turn whose moment the ledger follows
abbrev pub Follow : Frame → ℕ → Ledger → Told → List ℕ → Type 0
Follow f all l told b = Next (Region f all) Follows l told b

-- what follows of the state follows of bytes that read so
followed : {f : Frame} {all : ℕ} {l : Ledger} {told : Told} {b : List ℕ} {m : Shared} {th : ℕ → Thread} → Good f b
    → shared_in f b ≡ m → thread_in f b ≡ th → NextState f.shape l all told m th → Follow f all l told b
followed {f} {all} good em eth n =
    record {
      next = n.next;
      follows = n.follows;
      region = record { good = good; holds = subst₂ (λ x y. Invariant f.shape x y n.next all) (sym em) (sym eth) n.holds };
    }

module _ (f : Frame) (all : ℕ) (b : List ℕ) (l : Ledger) (g : Region f all b l) where
  abbrev s : Shape
  s = f.shape

  abbrev m : Shared
  m = shared_in f b

  abbrev th : ℕ → Thread
  th = thread_in f b

  stays : Follow f all l nothing b
  stays = record { next = l; follows = still; region = g }

  -- the plan of a thread's turn, wherever it stands
  pub plan_fits : (t c : ℕ) → 1 ≤ t → t ≤ f.shape.threads
      → Planned f.shape (shared_in f b) (owns (thread_in f b)) t (thread_in f b t).own (l.operation t) (turn_plan f b t c)
  plan_fits t c lt ut =
      subst (Planned s m (owns th) t (th t).own (l.operation t)) (sym (turn_decides f b t c lt ut))
      (planned s g.good.range m (owns th) g.holds.mound t (th t) refl (l.operation t) (g.holds.at t) c)

  -- a turn that changes nothing tells nothing
  module _ (t c : ℕ) where
    p : Plan
    p = turn_plan f b t c

    quiet_turn : (a : Answer) → changes_nothing a ≡ true → quiet_tells t a ≡ nothing → p.effect ≡ Nothing → p.answer ≡ a
        → Follow f all l (effect_tells (root_item f b) (root_items f b) t p.answer p.effect) (turn_bytes f b t c)
    unfolding p
    quiet_turn a st tells ee ea =
        let e : effect_tells (root_item f b) (root_items f b) t p.answer p.effect ≡ nothing =
        ap (effect_tells (root_item f b) (root_items f b) t p.answer) ee ∙ ap (quiet_tells t) ea ∙ tells
        in
        record {
          next = l;
          follows = subst (λ x. Follows x l l) (sym e) still;
          region = subst (λ x. Region f all x l) (sym (turn_stays f b t c (ap changes_nothing ea ∙ st))) g;
        }

    module _ (lt : 1 ≤ t) (ut : t ≤ f.shape.threads) where
      moving_turn : (op' : Operation) → Allowed s m (owns th) t p.effect → OperationAfter m (l.operation t) op' p.effect p.answer
          → OwnAfter m p.effect (th t).own p.thread.own → At s m p.thread op' p.thread.place
          → Follow f all l (effect_tells (root_item f b) (root_items f b) t p.answer p.effect) (turn_bytes f b t c)
      unfolding p
      moving_turn op' al sp ow at =
          let n = turn_moves s m th l g.holds t lt ut p op' al sp ow at in
          let e = operation_moves sp in
          followed (turn_keeps f b g.good t c).good (turn_shared f b t c g.good e) (turn_threads f b t c g.good e) n

      there : Planned s m (owns th) t (th t).own (l.operation t) p
          → Follow f all l (effect_tells (root_item f b) (root_items f b) t p.answer p.effect) (turn_bytes f b t c)
      there (rests ee ea) = quiet_turn AnswersIdle refl refl ee ea
      there (refuses ee ea) = quiet_turn (Refused CounterSpent) refl refl ee ea
      there (moves op' al sp ow at) = moving_turn op' al sp ow at

    pub nowhere : between 1 t f.shape.threads ≡ false → turn_plan f b t c ≡ refused (idle_thread 0) BadThread
    unfolding turn_plan pick
    nowhere e = rw e refl

    turn_step : Follow f all l (effect_tells (root_item f b) (root_items f b) t p.answer p.effect) (turn_bytes f b t c)
    unfolding p refused plan
    turn_step = go (between 1 t s.threads) refl
      where
        go : (q : Bool) → between 1 t s.threads ≡ q
            → Follow f all l (effect_tells (root_item f b) (root_items f b) t p.answer p.effect) (turn_bytes f b t c)
        go true e =
            let lt = between_least 1 t s.threads e in
            let ut = between_most 1 t s.threads e in
            there lt ut (plan_fits t c lt ut)
        go false e = quiet_turn (Refused BadThread) refl refl (ap (λ x. x.effect) (nowhere e)) (ap (λ x. x.answer) (nowhere e))

  pub turn_next : (x : Turn) → Follow f all l (tells (turned (served_on f b x))) (turn_bytes f b x.thread x.choice)
  unfolding p
  turn_next x =
      subst (λ y. Follow f all l y (turn_bytes f b x.thread x.choice)) (sym (turn_tells f b g.good x))
      (turn_step x.thread x.choice)

  -- A take of either kind that is not refused: it begins at the place z, and this is told.
  module _ (z : Place) (at : BeginsAt z) (told : ℕ → Told)
      (begun : (t : ℕ) → TakePassed f b t → NextState s l all (told t) m (upd th t (at_place (th t) z))) where
    module _ (t : ℕ) (p : TakePassed f b t) where
      take_next : Follow f all l (told t) (accepted_take f b t z)
      take_next =
          followed (accepted_take_keeps f b t p g.good z at).good (take_shared f b g.good t z) (take_threads f b g.good t p z at)
          (begun t p)

    -- refused or not
    begins_so : (t : ℕ) → Follow f all l (pick (eqb (take_refusal_in f b t) done) (told t) nothing) (take_bytes_in f b t z)
    unfolding take_bytes_in pick
    begins_so t = go (eqb (take_refusal_in f b t) done) refl
      where
        go : (q : Bool) → eqb (take_refusal_in f b t) done ≡ q → Follow f all l (pick q (told t) nothing) (pick q (accepted_take f b t z) b)
        go true h = take_next t (take_passed f b t (eqb-true (take_refusal_in f b t) done h))
        go false h = stays

  pub take_follows : (t : ℕ) → Follow f all l (pick (eqb (take_refusal_in f b t) done) (begins_take t) nothing) (take_bytes_in f b t ReadRoot)
  take_follows =
      begins_so ReadRoot one_item begins_take λ t p.
      take_begun s m th l g.holds t (take_least f b t p) (take_most f b t p) (is_idle_lem (th t) p.idle)

  pub list_follows : (t : ℕ) → Follow f all l (pick (eqb (take_refusal_in f b t) done) (begins_list t) nothing) (take_bytes_in f b t ListReadRoot)
  list_follows =
      begins_so ListReadRoot whole_list begins_list λ t p.
      list_begun s m th l g.holds t (take_least f b t p) (take_most f b t p) (is_idle_lem (th t) p.idle)

  -- A put that is not refused.
  module _ (t : ℕ) (i : Item) (p : PutPassed f b t i) where
    put_next : Follow f all l (begins_put t i) (accepted_put f b t i)
    unfolding shared_in
    put_next =
        followed (accepted_put_keeps f b t i p g.good).good (put_shared f b g.good t i p) (put_threads f b g.good t i p)
        (put_begun s m th l g.holds t (put_least f b t i p) (put_most f b t i p) (is_idle_lem (th t) p.idle) i
        (item_below_top i (omega (arith, put_key f b t i p)) (put_tag f b t i p)) (omega (arith, put_free f b t i p)))

  -- Refused or not.
  pub put_follows : (t : ℕ) (i : Item) → Follow f all l (pick (eqb (put_refusal_in f b t i) done) (begins_put t i) nothing) (put_bytes_in f b t i)
  unfolding put_bytes_in pick
  put_follows t i = go (eqb (put_refusal_in f b t i) done) refl
    where
      go : (q : Bool) → eqb (put_refusal_in f b t i) done ≡ q → Follow f all l (pick q (begins_put t i) nothing) (pick q (accepted_put f b t i) b)
      go true h = put_next t i (put_passed f b t i (eqb-true (put_refusal_in f b t i) done h))
      go false h = stays

  -- A permission, set or not.
  pub permit_follows : (t p : ℕ) → Follow f all l nothing (permit_bytes_in f b t p)
  permit_follows t p =
      permit_either f b t p (Follow f all l nothing)
      (λ passed.
      let lt = permit_least f t p passed in
      let ut = permit_most f t p passed in
      followed (keeps_set_permission f b g.good t p lt ut passed.permission).good (shared_set_permission f b g.good.framed t p lt ut)
      (threads_set_permission f b g.good.framed t p lt ut (omega (arith, passed.permission)))
      (record { next = l; follows = still; holds = permit_holds s m th l g.holds t lt ut p }))
      (λ h. stays)
