-- `cut::lines::read_lines` meets its contract: the loop keeps `Reading`. Assumes nothing.
use Rattle.cut.proofs.LinesRead.{line_fits, read_end, read_less, read_more, read_start, read_unread}
use Rattle.cut.proofs.lines.read_lines.Goals as goal

pub loop-at-init : goal.loop-at-init
loop-at-init c = search read_start

pub returns-in_err-line : goal.returns-in_err-line
returns-in_err-line c = search (read_unread, c.in_err-line.was)

pub line_of-requires : goal.line_of-requires
line_of-requires c = search (line_fits, c.in_ok-line.was)

pub loop-at-smaller : goal.loop-at-smaller
loop-at-smaller c = search (read_less, c.in_ok-line.was)

pub loop-at-preserved : goal.loop-at-preserved
loop-at-preserved c = search (read_more, c.in_ok-line.was)

pub returns : goal.returns
returns c = search read_end
