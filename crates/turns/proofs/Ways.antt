-- The end of a turn, whatever decides its plan: `tells` says which plans that may be. Assumes nothing.
use Prim.Native.Nat.{ℕ}
use mathlib.Core.Path.{◌≡◌, refl, sym, subst, ◌∙◌}
use mathlib.Core.Bool.{Bool, true, false, true≢false}
use mathlib.Core.List.{List}
use Rattle.region.specs.Shared.{thread_in}
use Rattle.region.specs.declared.answer.Answer.{Answer}
use Rattle.region.specs.declared.answer.Answer.TheVariants.{Withdrawn}
use Rattle.region.specs.declared.frame.Frame.{Frame}
use Rattle.region.specs.declared.queue.View.{View}
use Rattle.region.specs.declared.thread.Thread.{Thread}
use Rattle.access.specs.declared.plan.Plan.{Plan}
use Rattle.turns.specs.Inner.{Decided, Ended, EndedBy, LookedBy, is_withheld}

module _ (tells : View → Thread → Plan → Type 0) (f : Frame) (b : List ℕ) (n : ℕ) (v : View) (eb : v.bytes.now ≡ b) (ef : v.frame ≡ f)
    (x : Thread) (ex : x ≡ thread_in f b n) (p : Plan) (h : tells v x p) where
  decided : Decided tells f b n p
  decided = record { view = v; bytes = eb; frame = ef; told = subst (λ t. tells v t p) ex h }

  pub ended : (b' : List ℕ) (r : Answer) → Ended f b b' n p r → EndedBy tells f b b' n r
  ended b' r e = (p, decided, e)

  module _ (may q : Bool) (eq : q ≡ is_withheld may p.answer) where
    pub withheld : q ≡ true → LookedBy tells may f b b n Withdrawn
    withheld g = (p, decided, record { ended = λ e. absurd (true≢false (sym g ∙ eq ∙ e)); withheld = λ e. (refl, refl) })

    pub looked : q ≡ false → (b' : List ℕ) (r : Answer) → Ended f b b' n p r → LookedBy tells may f b b' n r
    looked g b' r e = (p, decided, record { ended = λ k. e; withheld = λ k. absurd (true≢false (sym k ∙ sym eq ∙ g)) })
