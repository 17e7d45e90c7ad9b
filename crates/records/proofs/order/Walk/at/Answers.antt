-- `records::order::Walk::at` meets its contract. Assumes nothing.
use Rattle.records.proofs.InOrder.{at_position}
use Rattle.records.proofs.order.Walk.at.Goals as goal

pub returns : goal.returns
returns c = search at_position
