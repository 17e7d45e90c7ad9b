-- `figures::rows::write_rows` meets its contract: the loop keeps `Rows`. Assumes nothing.
use Rattle.figures.proofs.Printed.{row_room, rows_end, rows_more, rows_start}
use Rattle.figures.proofs.rows.write_rows.Goals as goal

pub loop-k-init : goal.loop-k-init
loop-k-init c = search rows_start

pub write_row-requires : goal.write_row-requires
write_row-requires c = search row_room

pub loop-k-preserved : goal.loop-k-preserved
loop-k-preserved c = search rows_more

pub returns : goal.returns
returns c = search rows_end
