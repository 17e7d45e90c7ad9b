-- `figures::scripts::lines_end` meets its contract: the loop keeps `Ending`. Assumes nothing.
use Rattle.figures.proofs.LinesRead.{end_found, end_less, end_more, end_past, end_unread}
use Rattle.figures.proofs.scripts.lines_end.Goals as goal

pub returns-then-s-at-eq10 : goal.returns-then-s-at-eq10
returns-then-s-at-eq10 c = search end_found

pub returns-in_err-line : goal.returns-in_err-line
returns-in_err-line c = search (end_unread, c.in_err-line.was)

pub loop-at-smaller : goal.loop-at-smaller
loop-at-smaller c = search (end_less, c.in_ok-line.was)

pub loop-at-preserved : goal.loop-at-preserved
loop-at-preserved c = search (end_more, c.in_ok-line.was)

pub returns : goal.returns
returns c = search end_past
