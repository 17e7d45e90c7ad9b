-- Two regions of one shape, an old one and a new one, that carry the same values; and a turn on both. As long as the old plan is not capped, it is
-- the new one, and what it leaves carries the same values again. Assumes nothing.
use Prim.Native.Nat.{ℕ, ◌+◌, ◌*◌, ◌≤◌}
use native.Mathlib.Omega.{arith}
use mathlib.Core.Path.{◌≡◌, refl, sym, ap, subst, ◌∙◌}
use mathlib.Core.Bool.{Bool, true, false, ◌&&◌}
use mathlib.Core.List.{List}
use borrow.Author.Tests.{leb-true}
use lib.Dec.{leb}
use Rattle.region.specs.declared.refusal.Refusal.TheVariants.{BadThread}
use Rattle.region.specs.Frame.{frame_of_width}
use Rattle.region.specs.Inner.{one_word, two_words}
use Rattle.region.specs.Pick.{pick, upd}
use Rattle.region.specs.Record.{counter_of, counter_size, old_counter_size}
use Rattle.region.specs.Shape.{between}
use Rattle.region.specs.Shared.{shared_in, thread_in}
use Rattle.region.specs.Thread.{idle_thread}
use Rattle.region.specs.declared.frame.Frame.{Frame}
use Rattle.region.specs.declared.record.Node.{Node}
use Rattle.region.specs.declared.shape.Shape.{Shape}
use Rattle.region.proofs.Shapes.{and_left, and_right, between_least, between_most}
use Rattle.access.specs.Effect.{effect_shared}
use Rattle.access.specs.Plan.{changes_nothing, refused}
use Rattle.access.specs.declared.effect.Effect.{Effect}
use Rattle.access.specs.declared.effect.Effect.TheVariants.{Nothing, Grow, Push, Pop, Exchange, Clean, Detach, Free}
use Rattle.access.specs.declared.plan.Plan.{Plan}
use Rattle.readable.specs.Readable.{readable_of_width, shape_in}
use Rattle.readable.proofs.Laws.{GoodOfWidth, good_of_width}
use Rattle.readable.proofs.Stores.{KeepsOfWidth, NodeGood, shape_stays, stays_readable}
use Rattle.machine.specs.Turn.{carried_out, decide, turn_plan}
use Rattle.preserved.proofs.PlansGood.{EffectGood, PlanGood}
use Rattle.preserved.proofs.Proved.{carried_keeps}
use Rattle.bag.proofs.Carried.{carried_shared, carried_stays, carried_threads, plan_good_of_width, thread_exists}
use Rattle.converted.specs.Forms.{nodes_stored, old_counters_fit}

-- the old region's frame and the new one's, of one shape
abbrev pub old_frame : Shape → Frame
old_frame s = frame_of_width old_counter_size s

abbrev pub new_frame : Shape → Frame
new_frame s = frame_of_width counter_size s

pub record Alike (s : Shape) (b b' : List ℕ) : Type 0 where
  pub old : readable_of_width old_counter_size b ≡ true
  pub new : readable_of_width counter_size b' ≡ true
  pub old_shape : shape_in b ≡ s
  pub new_shape : shape_in b' ≡ s
  pub shared : shared_in (new_frame s) b' ≡ shared_in (old_frame s) b
  pub threads : thread_in (new_frame s) b' ≡ thread_in (old_frame s) b

module _ {s : Shape} {b b' : List ℕ} (a : Alike s b b') where
  pub old_good : GoodOfWidth old_counter_size (old_frame s) b
  old_good = subst (λ x. GoodOfWidth old_counter_size (old_frame x) b) a.old_shape (good_of_width one_word b a.old)

  pub new_good : GoodOfWidth counter_size (new_frame s) b'
  new_good = subst (λ x. GoodOfWidth counter_size (new_frame x) b') a.new_shape (good_of_width two_words b' a.new)

  -- what is stored in both keeps both readable
  pub still_alike : (c c' : List ℕ) → KeepsOfWidth old_counter_size (old_frame s) b c → KeepsOfWidth counter_size (new_frame s) b' c'
      → shared_in (new_frame s) c' ≡ shared_in (old_frame s) c → thread_in (new_frame s) c' ≡ thread_in (old_frame s) c → Alike s c c'
  still_alike c c' k k' shared threads =
      let o = subst (λ x. KeepsOfWidth old_counter_size (old_frame x) b c) (sym a.old_shape) k in
      let n = subst (λ x. KeepsOfWidth counter_size (new_frame x) b' c') (sym a.new_shape) k' in
      record {
        old = stays_readable one_word b c a.old o;
        new = stays_readable two_words b' c' a.new n;
        old_shape = shape_stays one_word b c a.old o ∙ a.old_shape;
        new_shape = shape_stays two_words b' c' a.new n ∙ a.new_shape;
        shared = shared;
        threads = threads;
      }

  -- the plan of a turn is of the values alone
  pub same_plan : (t c : ℕ) → turn_plan (new_frame s) b' t c ≡ turn_plan (old_frame s) b t c
  unfolding turn_plan frame_of_width
  same_plan t c = λ i.
      pick (between 1 t s.threads) (decide s (a.shared i) (a.threads i t) c) (refused (idle_thread 0) BadThread)

-- An effect in range whose counters fit one word is in range for an old region.
node_narrow : (cells : ℕ) (v : Node) → NodeGood counter_size cells v → leb (counter_of v) 4294967295 ≡ true → NodeGood old_counter_size cells v
unfolding counter_of
node_narrow cells v g e =
    let l : v.low + 4294967296 * v.high ≤ 4294967295 = leb-true (counter_of v) 4294967295 e in
    record { first = g.first; dirty = g.dirty; low = g.low; high = g.high; narrow = omega (arith, l) }

effect_narrow : (s : Shape) (e : Effect) → EffectGood counter_size s e → old_counters_fit (nodes_stored e) ≡ true → EffectGood old_counter_size s e
unfolding old_counters_fit
effect_narrow s Nothing g h = tt
effect_narrow s (Grow d) g h = g
effect_narrow s (Push n v c x) g h = (g.0, g.1, node_narrow s.cells v g.2 (and_left (leb (counter_of v) 4294967295) true h), g.3)
effect_narrow s (Pop v c) g h = (g.0, node_narrow s.cells v g.1 (and_left (leb (counter_of v) 4294967295) true h))
effect_narrow s (Exchange n v k x) g h =
    let rest = and_right (leb (counter_of v) 4294967295) (leb (counter_of x) 4294967295 && true) h in (
      g.0,
      g.1,
      node_narrow s.cells v g.2 (and_left (leb (counter_of v) 4294967295) (leb (counter_of x) 4294967295 && true) h),
      node_narrow s.cells x g.3 (and_left (leb (counter_of x) 4294967295) true rest),
    )
effect_narrow s (Clean n v) g h = (g.0, node_narrow s.cells v g.1 (and_left (leb (counter_of v) 4294967295) true h))
effect_narrow s (Detach v) g h = node_narrow s.cells v g (and_left (leb (counter_of v) 4294967295) true h)
effect_narrow s (Free c) g h = g

-- A turn whose plan fits: both regions carry it out, and are alike again.
module _ {s : Shape} {b b' : List ℕ} (a : Alike s b b') (t c : ℕ) where
  abbrev p : Plan
  p = turn_plan (old_frame s) b t c

  abbrev p' : Plan
  p' = turn_plan (new_frame s) b' t c

  turn_changes : changes_nothing p.answer ≡ false → old_counters_fit (nodes_stored p.effect) ≡ true
      → Alike s (carried_out (old_frame s) b t p) (carried_out (new_frame s) b' t p)
  unfolding frame_of_width
  turn_changes e fits =
      let f = old_frame s in
      let f' = new_frame s in
      let g = old_good a in
      let g' = new_good a in
      let there = thread_exists f b t c e in
      let l = between_least 1 t s.threads there in
      let u = between_most 1 t s.threads there in
      let good = plan_good_of_width f b t c e g in
      let good' = subst (PlanGood counter_size s) (same_plan a t c)
      (plan_good_of_width f' b' t c (ap (λ x. changes_nothing x.answer) (same_plan a t c) ∙ e) g') in
      let narrow = effect_narrow s p.effect good.effect fits in
      still_alike a (carried_out f b t p) (carried_out f' b' t p) (carried_keeps f b g t l u p good narrow)
      (carried_keeps f' b' g' t l u p good' good'.effect)
      (carried_shared f' b' g' t l u p good' e good'.effect
      ∙ ap (λ m. effect_shared m p.effect) a.shared
      ∙ sym (carried_shared f b g t l u p good e narrow))
      (carried_threads f' b' g' t l u p good' e
      ∙ ap (λ h. upd h t p.thread) a.threads
      ∙ sym (carried_threads f b g t l u p good e))

  pub turn_alike : old_counters_fit (nodes_stored p.effect) ≡ true
      → Alike s (carried_out (old_frame s) b t p) (carried_out (new_frame s) b' t p')
  turn_alike fits = subst (λ x. Alike s (carried_out (old_frame s) b t p) (carried_out (new_frame s) b' t x)) (sym (same_plan a t c)) (go (changes_nothing p.answer) refl)
    where
      go : (q : Bool) → changes_nothing p.answer ≡ q → Alike s (carried_out (old_frame s) b t p) (carried_out (new_frame s) b' t p)
      go true e =
          subst (λ x. Alike s x (carried_out (new_frame s) b' t p)) (sym (carried_stays (old_frame s) b t p e))
          (subst (λ x. Alike s b x) (sym (carried_stays (new_frame s) b' t p e)) a)
      go false e = turn_changes e fits
