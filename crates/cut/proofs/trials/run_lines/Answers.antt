-- `cut::trials::run_lines` meets its contract: the loop keeps `Trying`. Assumes nothing.
use Rattle.cut.proofs.LinesRun.{group_more, group_shown, try_end, try_more, try_shown}
use Rattle.cut.proofs.trials.run_lines.Goals as goal

pub returns-then-call_shows : goal.returns-then-call_shows
returns-then-call_shows c = search try_shown

pub loop-k-preserved-then-turns-eq0 : goal.loop-k-preserved-then-turns-eq0
loop-k-preserved-then-turns-eq0 c = search try_more

pub returns-then-turns_show : goal.returns-then-turns_show
returns-then-turns_show c = search group_shown

pub loop-k-preserved : goal.loop-k-preserved
loop-k-preserved c = search group_more

pub returns : goal.returns
returns c = search try_end
