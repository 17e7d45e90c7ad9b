-- The ways out of the functions, over plain variables: at each `return` the tests passed decide the definition. Assumes nothing.
use Prim.Native.Nat.{ℕ}
use mathlib.Core.Path.{◌≡◌, refl, sym, ap, subst, ◌∙◌}
use mathlib.Core.Bool.{Bool, true, false, not, ◌&&◌, ◌||◌, true≢false}
use mathlib.Core.List.{List}
use borrow.Author.Tests.{not-true, not-false}
use lib.Dec.{leb}
use lib.ListN.{length}
use Rattle.region.specs.declared.refusal.Refusal.TheVariants.{BadThread, Unreadable}
use Rattle.region.specs.Held.{viewed}
use Rattle.region.specs.Inner.{Within}
use Rattle.region.specs.Pick.{pick}
use Rattle.region.specs.Place.{place_number}
use Rattle.region.specs.Shape.{between}
use Rattle.region.specs.Shared.{shared_in, thread_in}
use Rattle.region.specs.Thread.{at_place, idle_thread}
use Rattle.region.specs.declared.answer.Answer.{Answer}
use Rattle.region.specs.declared.answer.Answer.TheVariants.{Idle, Refused}
use Rattle.region.specs.declared.frame.Frame.{Frame}
use Rattle.region.specs.declared.place.Place.{Place}
use Rattle.region.specs.declared.place.Place.TheVariants.{Idle as AtRest}
use Rattle.region.specs.declared.queue.View.{View}
use Rattle.region.specs.declared.thread.Thread.{Thread}
use Rattle.access.specs.Plan.{plan, refused}
use Rattle.access.specs.declared.plan.Plan.{Plan}
use Rattle.readable.specs.Readable.{frame_in, readable}
use Rattle.readable.proofs.Laws.{readable_within}
use Rattle.permission.specs.Grants.{may_put, may_take}
use Rattle.permission.specs.Withdraw.{is_put_place, is_take_place, is_unreadable, lacks_permission, permitted, withdrawal}
use Rattle.permission.proofs.Laws.{none_lacks, put_lacks, take_lacks}
use Rattle.turns.specs.Inner.{Decided, Ended, EndedBy, Looked, LookedBy, is_withheld, plan_bytes}
use Rattle.machine.specs.Inner.{Placed, Stands, is_withdrawn}
use Rattle.machine.specs.Turn.{Turned, TurnedOn, carried_out, decide, decide_at, turn_answer, turn_bytes, turn_on_answer, turn_on_bytes, turn_plan}
use Rattle.machine.proofs.PlaceEffects.{plan_ends, withdrawal_ends}

-- The plan of a place is carried out, or the turn is withheld and the plan is the withdrawal.
module _ (t : Thread) (p : Plan) where
  goes_on : lacks_permission t && not (is_unreadable p.answer) ≡ false → permitted t p ≡ p
  unfolding permitted pick
  goes_on h = rw h refl

  withdraws : lacks_permission t && not (is_unreadable p.answer) ≡ true → permitted t p ≡ withdrawal t
  unfolding permitted pick
  withdraws h = rw h refl

-- the places that look at a permission, as tests that compute
abbrev puts_at : Place → Bool
puts_at z = leb 1 (place_number z) && leb (place_number z) 8

abbrev takes_at : Place → Bool
takes_at z = leb 9 (place_number z) && leb (place_number z) 10 || leb 17 (place_number z) && leb (place_number z) 18

-- A turn at place z, where the thread stands.
module _ (f : Frame) (b : List ℕ) (t c : ℕ) (y : Place) (s : Stands f b t y) (z : Place) (ez : y ≡ z) where
  abbrev plan_at : Plan
  plan_at = decide_at f.shape (shared_in f b) (thread_in f b t) c z

  there : z ≡ (thread_in f b t).place
  there = sym ez ∙ s.there

  placed : permitted (thread_in f b t) plan_at ≡ decide f.shape (shared_in f b) (thread_in f b t) c
  unfolding decide
  placed = ap (λ v. permitted (thread_in f b t) (decide_at f.shape (shared_in f b) (thread_in f b t) c v)) there

  -- the place's plan was carried out; no place itself answers withdrawn
  carried : lacks_permission (thread_in f b t) && not (is_unreadable plan_at.answer) ≡ false → (b' : List ℕ) (r : Answer)
      → Ended f b b' t plan_at r → Placed f b b' t c r
  carried g b' r h =
      let fits = plan_ends f.shape (shared_in f b) (thread_in f b t) c z in
      let own = sym (goes_on (thread_in f b t) plan_at g) ∙ placed in
      record {
        answer = λ e. h.answer ∙ ap (λ p. p.answer) own;
        bytes = λ e. h.bytes ∙ fits.carried f b t ∙ ap (carried_out f b t) own;
        withdrawn = λ e. absurd (true≢false (sym e ∙ ap is_withdrawn h.answer ∙ fits.own_answer));
      }

  looked : (may : Bool) → lacks_permission (thread_in f b t) ≡ not may → (b' : List ℕ) (r : Answer)
      → Looked may f b b' t plan_at r → Placed f b b' t c r
  unfolding is_withheld
  looked may e b' r h = go (is_withheld may plan_at.answer) refl
    where
      tested : (q : Bool) → is_withheld may plan_at.answer ≡ q → lacks_permission (thread_in f b t) && not (is_unreadable plan_at.answer) ≡ q
      tested q g = ap (λ l. l && not (is_unreadable plan_at.answer)) e ∙ g

      go : (q : Bool) → is_withheld may plan_at.answer ≡ q → Placed f b b' t c r
      go false g = carried (tested false g) b' r (h.ended g)
      go true g =
          record {
            answer = λ k. absurd (true≢false (ap is_withdrawn (sym (h.withheld g).0) ∙ k));
            bytes = λ k. absurd (true≢false (ap is_withdrawn (sym (h.withheld g).0) ∙ k));
            withdrawn = λ k. (sym placed ∙ withdraws (thread_in f b t) plan_at (tested true g), (h.withheld g).1);
          }

  -- a place that looks at no permission
  pub ended : puts_at z ≡ false → takes_at z ≡ false → (b' : List ℕ) (r : Answer) → Ended f b b' t plan_at r → Placed f b b' t c r
  unfolding is_put_place is_take_place between
  ended p q =
      carried
      (ap (λ l. l && not (is_unreadable plan_at.answer))
      (none_lacks (thread_in f b t) (ap is_put_place (sym there) ∙ p) (ap is_take_place (sym there) ∙ q)))

  -- what decides the plan tells that it is the place's
  abbrev Tells : (View → Thread → Plan → Type 0) → Type 0
  Tells tells = (v : View) (x : Thread) (p : Plan) → tells v x p → p ≡ decide_at v.frame.shape (viewed v) x c z

  own_plan : {tells : View → Thread → Plan → Type 0} (p : Plan) → Decided tells f b t p → Tells tells → p ≡ plan_at
  own_plan p d own =
      own d.view (thread_in f b t) p d.told
      ∙ (λ i. decide_at (d.frame i).shape (shared_in (d.frame i) (d.bytes i)) (thread_in f b t) c z)

  module _ {tells : View → Thread → Plan → Type 0} (b' : List ℕ) (r : Answer) where
    pub turned_put : puts_at z ≡ true → LookedBy tells (may_put (thread_in f b t)) f b b' t r
        → Tells tells → Placed f b b' t c r
    unfolding is_put_place between
    turned_put h (p, d, l) own =
        looked (may_put (thread_in f b t)) (put_lacks (thread_in f b t) (ap is_put_place (sym there) ∙ h)) b' r
        (subst (λ q. Looked (may_put (thread_in f b t)) f b b' t q r) (own_plan p d own) l)

    pub turned_take : takes_at z ≡ true → LookedBy tells (may_take (thread_in f b t)) f b b' t r
        → Tells tells → Placed f b b' t c r
    unfolding is_take_place between
    turned_take h (p, d, l) own =
        looked (may_take (thread_in f b t)) (take_lacks (thread_in f b t) (ap is_take_place (sym there) ∙ h)) b' r
        (subst (λ q. Looked (may_take (thread_in f b t)) f b b' t q r) (own_plan p d own) l)

    pub turned : puts_at z ≡ false → takes_at z ≡ false → EndedBy tells f b b' t r
        → Tells tells → Placed f b b' t c r
    turned h k (p, d, e) own = ended h k b' r (subst (λ q. Ended f b b' t q r) (own_plan p d own) e)

-- an idle thread
pub rested : (f : Frame) (b : List ℕ) (t c : ℕ) (y : Place) → Stands f b t y → y ≡ AtRest → Placed f b b t c Idle
unfolding plan_bytes plan pick
rested f b t c y s e = ended f b t c y s AtRest e refl refl b Idle (record { answer = refl; bytes = refl })

-- A turn: refused where there is no such thread, or made at its place, and the withdrawal carried out where that asks for it.
pub stands : (f : Frame) (b : List ℕ) (t : ℕ) (x : Thread) → x ≡ thread_in f b t → Stands f b t x.place
stands f b t x ex = record { there = ap (λ y. y.place) ex }

module _ (f : Frame) (b : List ℕ) (t c : ℕ) (q : Bool) (eq : q ≡ between 1 t f.shape.threads) where
  unplanned : not q ≡ true → refused (idle_thread 0) BadThread ≡ turn_plan f b t c
  unfolding turn_plan pick
  unplanned n = rw (← eq, not-true q n) refl

  pub no_turn : not q ≡ true → Turned f b b t c (Refused BadThread)
  unfolding turn_answer turn_bytes carried_out refused plan pick
  no_turn n = record { answer = ap (λ p. p.answer) (unplanned n); bytes = ap (carried_out f b t) (unplanned n) }

  module _ (n : not q ≡ false) (b₁ : List ℕ) (a : Answer) (h : Placed f b b₁ t c a) (w : Bool) (ew : w ≡ is_withdrawn a) where
    planned : decide f.shape (shared_in f b) (thread_in f b t) c ≡ turn_plan f b t c
    unfolding turn_plan pick
    planned = rw (← eq, not-false q n) refl

    pub turn_ended : w ≡ false → Turned f b b₁ t c a
    unfolding turn_answer turn_bytes
    turn_ended e =
        record {
          answer = h.answer (sym ew ∙ e) ∙ ap (λ p. p.answer) planned;
          bytes = h.bytes (sym ew ∙ e) ∙ ap (carried_out f b t) planned;
        }

    pub turn_withdrawn : w ≡ true → (x : Thread) → x ≡ thread_in f b t → (f₁ : Frame) → f₁ ≡ f → (b₂ : List ℕ) (r : Answer)
        → Ended f₁ b₁ b₂ t (withdrawal (at_place (thread_in f₁ b₁ t) x.place)) r → Turned f b b₂ t c r
    unfolding turn_answer turn_bytes at_place
    turn_withdrawn e x ex f₁ ef b₂ r g₁ =
        let g : Ended f b₁ b₂ t (withdrawal (at_place (thread_in f b₁ t) x.place)) r
        = subst (λ y. Ended y b₁ b₂ t (withdrawal (at_place (thread_in y b₁ t) x.place)) r) ef g₁ in
        let k = h.withdrawn (sym ew ∙ e) in
        let own = sym k.0 ∙ planned in
        let moved : Ended f b b₂ t (withdrawal (at_place (thread_in f b t) x.place)) r
        = subst (λ l. Ended f l b₂ t (withdrawal (at_place (thread_in f l t) x.place)) r) k.1 g in
        let g' : Ended f b b₂ t (withdrawal (thread_in f b t)) r
        = subst (λ z. Ended f b b₂ t (withdrawal (at_place (thread_in f b t) z)) r) (ap (λ y. y.place) ex) moved in
        record {
          answer = g'.answer ∙ ap (λ p. p.answer) own;
          bytes = g'.bytes ∙ withdrawal_ends (thread_in f b t) f b t ∙ ap (carried_out f b t) own;
        }

-- A turn by itself: the region is not readable, or the turn is made in its frame.
module _ (b : List ℕ) (t c : ℕ) (q : Bool) (eq : q ≡ readable b) where
  pub turn_unreadable : not q ≡ true → TurnedOn b b t c (Refused Unreadable)
  unfolding turn_on_answer turn_on_bytes pick
  turn_unreadable n =
      record { answer = rw (← eq, not-true q n) refl; bytes = rw (← eq, not-true q n) refl }

  module _ (gq : not q ≡ false) where
    pub turn_readable : readable b ≡ true
    turn_readable = sym eq ∙ not-false q gq

    module _ (f : Frame) (ef : f ≡ frame_in b) where
      pub turn_within : Within f (length b)
      turn_within = subst (λ g. Within g (length b)) (sym ef) (readable_within b turn_readable)

      pub turned_on : (b' : List ℕ) (r : Answer) → Turned f b b' t c r → TurnedOn b b' t c r
      unfolding turn_on_answer turn_on_bytes pick
      turned_on b' r h =
          record {
            answer = rw turn_readable (h.answer ∙ ap (λ g. turn_answer g b t c) ef);
            bytes = rw turn_readable (h.bytes ∙ ap (λ g. turn_bytes g b t c) ef);
          }
