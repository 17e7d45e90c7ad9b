-- The definitions of a cut, named together with those of scripts and of the machine: a theorem that computes says `unfolding computing`.
use Prim.Native.Nat.{ℕ}
use Rattle.script.proofs.Computing.{computing as computing_scripts}
use Rattle.cut.specs.Whole.{entries_from, read_script, script_bytes, texts}
use Rattle.cut.specs.Shown.{any_refusal, lines_printed, printed_by, shows}
use Rattle.cut.specs.Cut.{cut_lines, cut_of, cut_refusal, cut_script, pass, passes, tried}

unfoldable pub computing : ℕ
unfolding computing_scripts entries_from read_script script_bytes texts any_refusal lines_printed printed_by shows cut_lines cut_of cut_refusal cut_script pass passes tried
computing = 0
