-- Which refusals the output of a script shows. That these are the lines which the script program prints, byte by byte, is `PrintsWhatItShows` in Theorems.antt.
use Rattle.std.specs.Prelude.{ℕ, suc, Bool, false, ◌&&◌, ◌||◌, List, [], ◌∷◌, ◌++◌, Ok, Err, eqb}
use Rattle.region.specs.Answer.{answer_code, answer_key}
use Rattle.region.specs.Refusal.{Checked}
use Rattle.region.specs.declared.answer.Answer.TheVariants.{Refused}
use Rattle.script.specs.Printing.{line_text}
use Rattle.script.specs.Script.{call_bytes, call_outcome, laid_region, setup_check}
use Rattle.script.specs.declared.printing.Outcome.{Outcome}
use Rattle.script.specs.declared.printing.Outcome.TheVariants.{Begun, Set, Answered, Unreadable}
use Rattle.script.specs.declared.reading.Setup.{Setup}
use Rattle.cut.specs.Whole.{Entry}

-- a line of the output: the number of the script's line, its thread, and what came of it
pub record Printed : Type 0 where
  pub line : ℕ
  pub thread : ℕ
  pub outcome : Outcome

-- what these lines print, the first of which is line n, on the region b
unfoldable pub lines_printed : ℕ → List Entry → List ℕ → List Printed
lines_printed n [] b = []
lines_printed n (e ∷ es) b =
    record { line = n; thread = e.thread; outcome = call_outcome b e.what e.thread }
    ∷ lines_printed (suc n) es (call_bytes b e.what e.thread)

-- what a script prints behind the output's heading: its lines, or one line `refused` as line 0, thread 0, where its layout is refused
abbrev pub lines_or_refused : Checked → List Printed → List Printed
lines_or_refused (Ok x) ps = ps
lines_or_refused (Err r) ps = record { line = 0; thread = 0; outcome = Answered (Refused r) } ∷ []

unfoldable pub printed_by : Setup → List Entry → List Printed
unfolding lines_printed
printed_by u es = lines_or_refused (setup_check u) (lines_printed 1 es (laid_region u))

-- whether this is the refusal with that number: "refused 5 with its number as key"
abbrev pub is_refusal : ℕ → Outcome → Bool
is_refusal n Begun = false
is_refusal n Set = false
is_refusal n (Answered a) = eqb (answer_code a) 5 && eqb (answer_key a) n
is_refusal n Unreadable = false

unfoldable pub any_refusal : ℕ → List Printed → Bool
any_refusal n [] = false
any_refusal n (p ∷ ps) = is_refusal n p.outcome || any_refusal n ps

-- whether a script with this setup and these lines shows the number
unfoldable pub shows : ℕ → Setup → List Entry → Bool
unfolding printed_by any_refusal
shows n u es = any_refusal n (printed_by u es)

-- the lines of the output as they are printed
unfoldable pub printed_text : List Printed → List ℕ
printed_text [] = []
printed_text (p ∷ ps) = line_text p.line p.thread p.outcome ++ printed_text ps
