-- `heap::sift_down` meets its contract: the loop keeps `Sinking`. Assumes nothing.
use Prim.Native.Nat.{◌-◌}
use Rattle.heap.proofs.Loops.{Sinking}
use Rattle.heap.proofs.sift_down.Given as goal

abbrev pub invariant-loop-i : goal.invariant-loop-i
invariant-loop-i l = Sinking l.initial.heap l.size l.x l.heap l.i

abbrev pub decreases-loop-i : goal.decreases-loop-i
decreases-loop-i l = l.size - l.i
