-- `layout::fill` meets its contract: the loop keeps `Filled`. Assumes nothing.
use Rattle.layout.proofs.Loops.{Filled}
use Rattle.layout.proofs.fill.Given as goal

abbrev pub invariant-loop-k : goal.invariant-loop-k
invariant-loop-k l = Filled l.fn.shape l.permissions l.initial.b l.b l.k
