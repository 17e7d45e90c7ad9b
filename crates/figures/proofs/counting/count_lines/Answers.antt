-- `figures::counting::count_lines` meets its contract: the loop keeps `Counting`. Assumes nothing.
use Rattle.figures.proofs.TurnsCounted.{count_end, count_less, count_more, count_past, count_unread}
use Rattle.figures.proofs.counting.count_lines.Goals as goal

pub returns-then-input-at-eq10 : goal.returns-then-input-at-eq10
returns-then-input-at-eq10 c = search count_end

pub returns-in_default : goal.returns-in_default
returns-in_default c = search (count_unread, c.loop-at.invariant)

pub loop-at-smaller : goal.loop-at-smaller
loop-at-smaller c = search count_less

pub loop-at-preserved : goal.loop-at-preserved
loop-at-preserved c = search count_more

pub returns : goal.returns
returns c = search count_past
