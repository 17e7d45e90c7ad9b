-- `cut::cutting::write_lines` meets its contract: the loop keeps `Writing`. Assumes nothing.
use Rattle.cut.proofs.Written.{Writing}
use Rattle.cut.proofs.cutting.write_lines.Given as goal

abbrev pub invariant-loop-line : goal.invariant-loop-line
invariant-loop-line l = Writing l.initial.text l.s l.lines l.text l.line-index
