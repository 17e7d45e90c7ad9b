-- `cut::passes::try_line` meets its contract: the line goes or stays. Assumes nothing.
use Rattle.cut.proofs.LinesTrying.{line_goes, line_stays}
use Rattle.cut.proofs.passes.try_line.Goals as goal

pub returns-then-run_lines : goal.returns-then-run_lines
returns-then-run_lines c = search line_goes

pub returns : goal.returns
returns c = search line_stays
