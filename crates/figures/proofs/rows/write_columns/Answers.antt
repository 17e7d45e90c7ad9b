-- `figures::rows::write_columns` meets its contract: the loop keeps `Columns`. Assumes nothing.
use Rattle.figures.proofs.Printed.{column_room, columns_end, columns_more, columns_start}
use Rattle.figures.proofs.rows.write_columns.Goals as goal

pub loop-figure-init : goal.loop-figure-init
loop-figure-init c = search columns_start

pub number-requires : goal.number-requires
number-requires c = search column_room

pub loop-figure-preserved : goal.loop-figure-preserved
loop-figure-preserved c = search columns_more

pub returns : goal.returns
returns c = search columns_end
