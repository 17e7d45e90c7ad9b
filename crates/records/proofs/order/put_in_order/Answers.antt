-- `records::order::put_in_order` meets its contract: the loop keeps `Filling`. Assumes nothing.
use Rattle.records.proofs.InOrder.{bad_position, bad_repeat, bad_times, order_end, order_more, order_start}
use Rattle.records.proofs.order.put_in_order.Goals as goal

pub loop-i-init : goal.loop-i-init
loop-i-init c = rw c.requires.free (order_start c.requires.formed)

pub returns-then-r-clause-refused : goal.returns-then-r-clause-refused
returns-then-r-clause-refused c = search bad_times

pub returns-then-p-eq0-clause-refused : goal.returns-then-p-eq0-clause-refused
returns-then-p-eq0-clause-refused c = bad_position c.loop-i.invariant c.loop-i-test.true _ c.load_recorded-r.ensures c.then-p-eq0.either

pub returns-then-order-p-ne0-clause-refused : goal.returns-then-order-p-ne0-clause-refused
returns-then-order-p-ne0-clause-refused c = search bad_repeat

pub loop-i-preserved : goal.loop-i-preserved
loop-i-preserved c = search order_more

pub returns-clause-ordered : goal.returns-clause-ordered
returns-clause-ordered c = search order_end
