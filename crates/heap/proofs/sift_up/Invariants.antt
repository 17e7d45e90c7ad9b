-- `heap::sift_up` meets its contract: the loop keeps `Rising`. Assumes nothing.
use Rattle.heap.proofs.Loops.{Rising}
use Rattle.heap.proofs.sift_up.Given as goal

abbrev pub invariant-loop-i : goal.invariant-loop-i
invariant-loop-i l = Rising l.initial.heap l.size l.x l.heap l.i

abbrev pub decreases-loop-i : goal.decreases-loop-i
decreases-loop-i l = l.i
