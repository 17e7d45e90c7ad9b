-- `convert::carry::convert_cells` meets its contract: the loop keeps `Carrying`. Assumes nothing.
use Rattle.convert.specs.Inner.{cell_carried}
use Rattle.convert.proofs.Loops.{carry_more, carry_end, cell_size_lem}
use Rattle.convert.proofs.carry.convert_cells.Goals as goal

pub loop-i-preserved : goal.loop-i-preserved
loop-i-preserved c = carry_more cell_carried 3 3 cell_size_lem c.loop-i.invariant _ c.loop-i-test.true c.convert_cell.ensures

pub returns : goal.returns
returns c = carry_end cell_carried 3 3 cell_size_lem c.loop-i.invariant c.loop-i-test.false
