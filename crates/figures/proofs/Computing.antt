-- The definitions of the report, named together with those of scripts and of the machine: a theorem that computes says `unfolding computing`.
use Prim.Native.Nat.{ℕ}
use Rattle.script.proofs.Computing.{computing as computing_scripts}
use Rattle.kinds.specs.Kind.{failed_update, is_update, makes_access}
use Rattle.figures.specs.Scripts.{lines_at, read_scripts, script_at, scripts_at}
use Rattle.figures.specs.Turns.{all_turns, turn_made, turns_in, turns_of}
use Rattle.figures.specs.Figures.{answered_empty, answered_list, answered_put, answered_take, count, counts, figures, of_thread, is_of_kind, rest, whole}
use Rattle.figures.specs.Report.{all_groups, group_rows, ratio_text, report, row_text, spaced, thread_groups}

unfoldable pub computing : ℕ
unfolding computing_scripts failed_update is_update makes_access lines_at read_scripts script_at scripts_at all_turns turn_made turns_in turns_of answered_empty answered_list answered_put answered_take count counts figures of_thread is_of_kind rest whole ratio_text report row_text all_groups group_rows spaced thread_groups
computing = 0
