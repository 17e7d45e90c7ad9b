-- `convert::carry::convert_nodes` meets its contract: the loop keeps `Carrying`. Assumes nothing.
use Rattle.convert.specs.Convert.{node_carried}
use Rattle.convert.proofs.Loops.{carry_more, carry_end, node_size_lem}
use Rattle.convert.proofs.carry.convert_nodes.Goals as goal

pub loop-i-preserved : goal.loop-i-preserved
loop-i-preserved c = carry_more node_carried 3 4 node_size_lem c.loop-i.invariant _ c.loop-i-test.true c.convert_node.ensures

pub returns : goal.returns
returns c = carry_end node_carried 3 4 node_size_lem c.loop-i.invariant c.loop-i-test.false
