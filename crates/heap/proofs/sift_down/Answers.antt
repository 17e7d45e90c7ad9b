-- `heap::sift_down` meets its contract: the loop keeps `Sinking`. Assumes nothing.
use Rattle.heap.proofs.Loops.{pop_start, pop_one, pop_more, pop_stop, pop_end}
use Rattle.heap.proofs.sift_down.Goals as goal

pub returns-then-last-eq0 : goal.returns-then-last-eq0
returns-then-last-eq0 c = search pop_one

pub loop-i-init : goal.loop-i-init
loop-i-init c = search pop_start

pub returns-then-x-y : goal.returns-then-x-y
returns-then-x-y c = search pop_stop

pub loop-i-preserved : goal.loop-i-preserved
loop-i-preserved c = search pop_more

pub returns : goal.returns
returns c = search pop_end
