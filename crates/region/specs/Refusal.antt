-- The refusals' numbers, what a call answers to a host, and the first refusal that applies.
use Rattle.std.specs.Prelude.{◌≡◌, ◌≢◌, ℕ, Bool, Result, Ok, Err, MatchResult}
use Rattle.region.specs.Pick.{pick}
use Rattle.region.specs.declared.refusal.NoRefusal.{NoRefusal}
use Rattle.region.specs.declared.refusal.Refusal.{Refusal}
use Rattle.region.specs.declared.refusal.Refusal.TheVariants.{BadShape, BadLength, BadThread, BadItem, ShortAnswers, BadSchedule, Unreadable, NotPermitted, ThreadBusy, NoFreeCell, CounterSpent, BadRecords, NotShown}

abbrev pub number_of : Refusal → ℕ
number_of BadShape = 1
number_of BadLength = 2
number_of BadThread = 3
number_of BadItem = 4
number_of ShortAnswers = 5
number_of BadSchedule = 6
number_of Unreadable = 7
number_of NotPermitted = 8
number_of ThreadBusy = 9
number_of NoFreeCell = 10
number_of CounterSpent = 11
number_of BadRecords = 12
number_of NotShown = 16

-- the number of a call that is done
abbrev pub done : ℕ
done = 0

-- what the checks before a call say: nothing stands against it, or the refusal that does
abbrev pub Checked : Type 0
Checked = Result (Unit {0}) Refusal

abbrev pub granted : Checked
granted = Ok tt

-- what a call answers to a host: 0 where it is done, else its refusal's number
abbrev pub code_of : {A : Type 0} → Result A Refusal → ℕ
code_of (Ok a) = done
code_of (Err r) = number_of r

-- the refusal with this number, or none has it
abbrev pub Decodes : ℕ → Result Refusal NoRefusal → Type 0
Decodes n r = MatchResult r (λ refusal. number_of refusal ≡ n) (λ e. (e.0 ≡ n) × ((refusal : Refusal) → number_of refusal ≢ n))

-- read from top to bottom: the refusal unless its test holds, otherwise what follows
infixr 10 ◌unless◌otherwise◌
abbrev pub ◌unless◌otherwise◌ : {A : Type 0} → Refusal → Bool → Result A Refusal → Result A Refusal
refusal unless test otherwise rest = pick test rest (Err refusal)
