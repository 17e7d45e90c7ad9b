-- `figures::scripts::are_readable` meets its contract: the scripts that are left decide. Assumes nothing.
use Rattle.figures.proofs.ScriptsRead.{input_long, read_all, read_end, read_more, read_not, read_start}
use Rattle.figures.proofs.scripts.are_readable.Goals as goal

pub returns-then-s-gt-INPUT_MOST : goal.returns-then-s-gt-INPUT_MOST
returns-then-s-gt-INPUT_MOST c = search input_long

pub loop-count-init : goal.loop-count-init
loop-count-init c = search read_start

pub returns-then-s-at : goal.returns-then-s-at
returns-then-s-at c = search read_end

pub returns-in_default : goal.returns-in_default
returns-in_default c = search read_not

pub loop-count-preserved : goal.loop-count-preserved
loop-count-preserved c = search read_more

pub returns : goal.returns
returns c = search read_all
