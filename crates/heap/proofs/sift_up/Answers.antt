-- `heap::sift_up` meets its contract: the loop keeps `Rising`. Assumes nothing.
use Rattle.heap.proofs.Loops.{push_start, push_more}
use Rattle.heap.proofs.sift_up.Goals as goal

pub loop-i-init : goal.loop-i-init
loop-i-init c = search push_start

pub loop-i-preserved : goal.loop-i-preserved
loop-i-preserved c = search push_more
