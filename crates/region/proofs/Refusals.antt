-- No refusal has the number of a call that is done, and none is greater than 16. Assumes nothing.
use Prim.Native.Nat.{◌≤◌}
use native.Mathlib.Omega.{arith}
use mathlib.Core.Path.{◌≡◌, refl, sym, ◌∙◌}
use mathlib.Core.Bool.{Bool, true, false, true≢false}
use borrow.Author.Tests.{eq-eqb}
use lib.Dec.{eqb}
use Rattle.std.specs.Prelude.{Ok, Err}
use Rattle.region.specs.Refusal.{Checked, code_of, done, granted, number_of, ◌unless◌otherwise◌}
use Rattle.region.specs.Pick.{pick}
use Rattle.region.specs.declared.refusal.Refusal.{Refusal}
use Rattle.region.specs.declared.refusal.Refusal.TheVariants.{BadShape, BadLength, BadThread, BadItem, ShortAnswers, BadSchedule, Unreadable, NotPermitted, ThreadBusy, NoFreeCell, CounterSpent, BadRecords, NotShown}

pub number_not_done : (y : Refusal) → eqb (number_of y) done ≡ false
number_not_done BadShape = refl
number_not_done BadLength = refl
number_not_done BadThread = refl
number_not_done BadItem = refl
number_not_done ShortAnswers = refl
number_not_done BadSchedule = refl
number_not_done Unreadable = refl
number_not_done NotPermitted = refl
number_not_done ThreadBusy = refl
number_not_done NoFreeCell = refl
number_not_done CounterSpent = refl
number_not_done BadRecords = refl
number_not_done NotShown = refl

pub not_done : (y : Refusal) → number_of y ≡ done → ⊥
not_done y e = true≢false (sym (eq-eqb (number_of y) done e) ∙ number_not_done y)

pub is_granted : (c : Checked) → code_of c ≡ done → c ≡ granted
is_granted (Ok x) e = refl
is_granted (Err r) e = absurd (not_done r e)

-- where nothing is refused, the first test holds, and nothing is refused behind it
pub passes : (q : Bool) (a : Checked) (r : Refusal) → code_of (r unless q otherwise a) ≡ done → (q ≡ true) × (code_of a ≡ done)
unfolding pick
passes true a r e = (refl, e)
passes false a r e = absurd (not_done r e)

pub number_most : (y : Refusal) → number_of y ≤ 16
number_most BadShape = omega arith
number_most BadLength = omega arith
number_most BadThread = omega arith
number_most BadItem = omega arith
number_most ShortAnswers = omega arith
number_most BadSchedule = omega arith
number_most Unreadable = omega arith
number_most NotPermitted = omega arith
number_most ThreadBusy = omega arith
number_most NoFreeCell = omega arith
number_most CounterSpent = omega arith
number_most BadRecords = omega arith
number_most NotShown = omega arith
