-- `records::order::put_in_order` meets its contract: the loop keeps `Filling`. Assumes nothing.
use Rattle.records.specs.Recorded.{recorded_at}
use Rattle.records.proofs.InOrder.{Filling}
use Rattle.records.proofs.order.put_in_order.Given as goal

abbrev pub invariant-loop-i : goal.invariant-loop-i
invariant-loop-i l = Filling l.n (recorded_at l.b) l.order l.i
