-- `convert::carry::convert_cells` meets its contract: the loop keeps `Carrying`. Assumes nothing.
use Rattle.convert.specs.Inner.{cell_carried}
use Rattle.convert.proofs.Loops.{Carrying}
use Rattle.convert.proofs.carry.convert_cells.Given as goal

abbrev pub invariant-loop-i : goal.invariant-loop-i
invariant-loop-i l = Carrying cell_carried 3 3 l.old l.from l.initial.new l.new l.to l.count l.i
