-- `readable::threads_readable` meets its contract: the loop keeps `Scanned`. Assumes nothing.
use Rattle.readable.specs.Readable.{thread_readable}
use Rattle.readable.proofs.Loops.{Scanned}
use Rattle.readable.proofs.threads_readable.Given as goal

abbrev pub invariant-loop-i : goal.invariant-loop-i
invariant-loop-i g l = Scanned (thread_readable g.row.WIDTH l.shape) l.size l.b l.frame.threads l.shape.threads l.i
