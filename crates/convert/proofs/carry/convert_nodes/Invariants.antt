-- `convert::carry::convert_nodes` meets its contract: the loop keeps `Carrying`. Assumes nothing.
use Rattle.convert.specs.Convert.{node_carried}
use Rattle.convert.proofs.Loops.{Carrying}
use Rattle.convert.proofs.carry.convert_nodes.Given as goal

abbrev pub invariant-loop-i : goal.invariant-loop-i
invariant-loop-i l = Carrying node_carried 3 4 l.old l.from l.initial.new l.new l.to l.count l.i
