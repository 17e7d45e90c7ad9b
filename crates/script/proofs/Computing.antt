-- The definitions of a script, named together with those of the machine: a theorem that computes says `unfolding computing`.
use Prim.Native.Nat.{ℕ}
use Rattle.machine.specs.Turn.{turn_on_answer, turn_on_bytes}
use Rattle.computes.proofs.Computes.{computes}
use Rattle.script.specs.Text.{decimal, digits, is_digit, starts_with, text_at}
use Rattle.script.specs.Reading.{digits_then, fields_at, number_then, opening_at, read_line, read_opening, shape_at}
use Rattle.script.specs.Printing.{line_text, number_text, outcome_text}
use Rattle.script.specs.Script.{laid_region, lines_from, script_run, setup_refusal, setup_then}

unfoldable pub computing : ℕ
unfolding computes turn_on_answer turn_on_bytes decimal digits is_digit starts_with text_at digits_then fields_at number_then read_line opening_at read_opening shape_at line_text number_text outcome_text laid_region lines_from script_run setup_refusal setup_then
computing = 0
