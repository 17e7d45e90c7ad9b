-- What only the contracts of inner functions and the proofs need. A reader of the result may skip this file.
use Rattle.std.specs.Prelude.{ℕ, ◌≡◌, Bool, true, false, not, ◌&&◌, List}
use Rattle.region.specs.Pick.{pick}
use Rattle.region.specs.Shared.{set_thread_in, thread_in}
use Rattle.region.specs.Thread.{gone_idle, is_idle}
use Rattle.region.specs.declared.answer.Answer.{Answer}
use Rattle.region.specs.declared.answer.Answer.TheVariants.{Withdrawn}
use Rattle.region.specs.declared.frame.Frame.{Frame}
use Rattle.region.specs.declared.queue.View.{View}
use Rattle.region.specs.declared.thread.Thread.{Thread}
use Rattle.access.specs.Effect.{effect_bytes}
use Rattle.access.specs.Plan.{changes_nothing}
use Rattle.access.specs.declared.plan.Plan.{Plan}
use Rattle.permission.specs.Withdraw.{is_unreadable}

-- the region with a record stored; one that is idle by its place has every other word 0
unfoldable pub record_bytes : Frame → List ℕ → ℕ → Thread → List ℕ
record_bytes f b n t = set_thread_in f b n (pick (is_idle t) (gone_idle t) t)

-- the region with a plan's record stored and its effect carried out; or as it was where the turn is idle or refused
unfoldable pub plan_bytes : Frame → List ℕ → ℕ → Plan → List ℕ
unfolding record_bytes
plan_bytes f b n p = pick (changes_nothing p.answer) b (effect_bytes f (record_bytes f b n p.thread) p.effect)

-- what a turn that ends with plan p answers and leaves
pub record Ended (f : Frame) (b b' : List ℕ) (n : ℕ) (p : Plan) (r : Answer) : Type 0 where
  pub answer : r ≡ p.answer
  pub bytes : b' ≡ plan_bytes f b n p

-- whether a turn is to be withdrawn, a being the answer of its place: its permission is not there, and it is not refused 7
unfoldable pub is_withheld : Bool → Answer → Bool
is_withheld may a = not may && not (is_unreadable a)

-- what a turn answers and leaves at a place that decides plan p, where `may` says whether the permission is there; a withdrawal is not
-- carried out yet
pub record Looked (may : Bool) (f : Frame) (b b' : List ℕ) (n : ℕ) (p : Plan) (r : Answer) : Type 0 where
  pub ended : is_withheld may p.answer ≡ false → Ended f b b' n p r
  pub withheld : is_withheld may p.answer ≡ true → (r ≡ Withdrawn) × (b' ≡ b)

-- plan p is what a place decides on these bytes, for the record of thread n; `tells` says which plans it may give for a view and a record
pub record Decided (tells : View → Thread → Plan → Type 0) (f : Frame) (b : List ℕ) (n : ℕ) (p : Plan) : Type 0 where
  pub view : View
  pub bytes : view.bytes.now ≡ b
  pub frame : view.frame ≡ f
  pub told : tells view (thread_in f b n) p

-- what a turn answers and leaves whose plan is so decided, whatever the permission; and at a place that looks at it
abbrev pub EndedBy : (View → Thread → Plan → Type 0) → Frame → List ℕ → List ℕ → ℕ → Answer → Type 0
EndedBy tells f b b' n r = (p : Plan) × Decided tells f b n p × Ended f b b' n p r

abbrev pub LookedBy : (View → Thread → Plan → Type 0) → Bool → Frame → List ℕ → List ℕ → ℕ → Answer → Type 0
LookedBy tells may f b b' n r = (p : Plan) × Decided tells f b n p × Looked may f b b' n p r
