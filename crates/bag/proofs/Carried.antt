-- A turn on bytes in range under a frame, read as shared memory and threads' records: its thread's record is stored and its plan's
-- effect carried out, or no byte changes. Assumes nothing.
use Prim.Native.Nat.{ℕ, ◌≤◌}
use mathlib.Core.Path.{◌≡◌, refl, ap, ◌∙◌}
use mathlib.Core.Bool.{Bool, true, false, true≢false}
use mathlib.Core.List.{List}
use Rattle.region.specs.declared.refusal.Refusal.TheVariants.{BadThread}
use Rattle.region.specs.Pick.{pick, upd}
use Rattle.region.specs.Record.{counter_size}
use Rattle.region.specs.Shape.{between}
use Rattle.region.specs.Shared.{shared_in, set_thread_in, thread_in}
use Rattle.region.specs.Thread.{idle_thread}
use Rattle.region.specs.declared.frame.Frame.{Frame}
use Rattle.region.proofs.Shapes.{between_least, between_most, is_between}
use Rattle.region.proofs.Views.{shared_set_thread, threads_set_thread}
use Rattle.access.specs.Effect.{effect_shared}
use Rattle.access.specs.Plan.{changes_nothing, refused}
use Rattle.access.specs.declared.plan.Plan.{Plan}
use Rattle.access.proofs.EffectLaws.{effect_shared_lem}
use Rattle.readable.proofs.Laws.{Good, GoodOfWidth}
use Rattle.readable.proofs.Stores.{few_cells}
use Rattle.machine.specs.Turn.{carried_out, decide, turn_bytes, turn_plan}
use Rattle.preserved.proofs.EffectsGood.{effect_fits}
use Rattle.preserved.proofs.PlansGood.{EffectGood, PlanGood}
use Rattle.preserved.proofs.Proved.{effect_threads, plan_in_range, record_fits, record_keeps}

-- a plan whose answer is idle or refused changes no byte
pub carried_stays : (f : Frame) (b : List ℕ) (t : ℕ) (p : Plan) → changes_nothing p.answer ≡ true → carried_out f b t p ≡ b
unfolding carried_out pick
carried_stays f b t p e = rw e refl

-- any other, in range
module _ {width : ℕ} (f : Frame) (b : List ℕ) (g : GoodOfWidth width f b) (t : ℕ) (l : 1 ≤ t) (u : t ≤ f.shape.threads) (p : Plan)
    (gp : PlanGood width f.shape p) (e : changes_nothing p.answer ≡ false) where
  stored : List ℕ
  stored = set_thread_in f b t p.thread

  stored_good : GoodOfWidth width f stored
  unfolding stored
  stored_good = (record_keeps f b g t l u p gp).good

  pub carried_shared : EffectGood width f.shape p.effect → shared_in f (carried_out f b t p) ≡ effect_shared (shared_in f b) p.effect
  unfolding carried_out pick stored
  carried_shared ge =
      rw e
      (effect_shared_lem f stored stored_good.framed (few_cells f.shape g.range) p.effect (effect_fits f stored stored_good p.effect ge)
      ∙ ap (λ m. effect_shared m p.effect) (shared_set_thread f b g.framed t p.thread))

  pub carried_threads : thread_in f (carried_out f b t p) ≡ upd (thread_in f b) t p.thread
  unfolding carried_out pick stored
  carried_threads =
      rw e
      (effect_threads f stored stored_good p.effect
      ∙ threads_set_thread f b g.framed t p.thread l u (record_fits f b g p.thread gp.thread))

-- A turn of thread t with choice c.
module _ (f : Frame) (b : List ℕ) (t c : ℕ) where
  -- the plan of a thread that exists is that of its place
  pub turn_decides : 1 ≤ t → t ≤ f.shape.threads
      → turn_plan f b t c ≡ decide f.shape (shared_in f b) (thread_in f b t) c
  unfolding turn_plan pick
  turn_decides l u = rw (is_between 1 t f.shape.threads l u) refl

  -- a turn that changes anything is one of a thread that exists
  pub thread_exists : changes_nothing (turn_plan f b t c).answer ≡ false → between 1 t f.shape.threads ≡ true
  unfolding turn_plan pick refused
  thread_exists e = go (between 1 t f.shape.threads) e
    where
      go : (q : Bool)
          → changes_nothing (pick q (decide f.shape (shared_in f b) (thread_in f b t) c) (refused (idle_thread 0) BadThread)).answer ≡ false
          → q ≡ true
      go true h = refl
      go false h = absurd (true≢false h)

  -- idle or refused
  pub turn_stays : changes_nothing (turn_plan f b t c).answer ≡ true → turn_bytes f b t c ≡ b
  unfolding turn_bytes
  turn_stays e = carried_stays f b t (turn_plan f b t c) e

  -- any other, on bytes in range
  module _ (e : changes_nothing (turn_plan f b t c).answer ≡ false) where
    turn_from : 1 ≤ t
    turn_from = between_least 1 t f.shape.threads (thread_exists e)

    turn_to : t ≤ f.shape.threads
    turn_to = between_most 1 t f.shape.threads (thread_exists e)

    pub plan_good_of_width : {width : ℕ} → GoodOfWidth width f b → PlanGood width f.shape (turn_plan f b t c)
    plan_good_of_width g = rw (turn_decides turn_from turn_to) (plan_in_range f b g t c)

  module _ (g : Good f b) (e : changes_nothing (turn_plan f b t c).answer ≡ false) where
    pub turn_least : 1 ≤ t
    turn_least = turn_from e

    pub turn_most : t ≤ f.shape.threads
    turn_most = turn_to e

    pub turn_plan_good : PlanGood counter_size f.shape (turn_plan f b t c)
    turn_plan_good = plan_good_of_width e g

    pub turn_shared : shared_in f (turn_bytes f b t c)
        ≡ effect_shared (shared_in f b) (turn_plan f b t c).effect
    unfolding turn_bytes
    turn_shared = carried_shared f b g t turn_least turn_most (turn_plan f b t c) turn_plan_good e turn_plan_good.effect

    pub turn_threads : thread_in f (turn_bytes f b t c)
        ≡ upd (thread_in f b) t (turn_plan f b t c).thread
    unfolding turn_bytes
    turn_threads = carried_threads f b g t turn_least turn_most (turn_plan f b t c) turn_plan_good e
