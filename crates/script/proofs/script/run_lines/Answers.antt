-- `script::script::run_lines` meets its contract: the loop keeps `Running`. Assumes nothing.
use Rattle.script.proofs.LineCalls.{run_end, run_less, run_more, run_start, run_unreadable}
use Rattle.script.proofs.script.run_lines.Goals as goal

pub loop-at-init : goal.loop-at-init
loop-at-init c = search run_start

pub returns-in_default : goal.returns-in_default
returns-in_default c = search run_unreadable

pub loop-at-smaller : goal.loop-at-smaller
loop-at-smaller c = search run_less

pub loop-at-preserved : goal.loop-at-preserved
loop-at-preserved c = search run_more

pub returns : goal.returns
returns c = search run_end
