-- `figures::rows::write_row` meets its contract: two numbers, then the figures. Assumes nothing.
use Rattle.figures.proofs.Printed.{figures_room, row_wrote, thread_room}
use Rattle.figures.proofs.rows.write_row.Goals as goal

pub number-requires-2 : goal.number-requires-2
number-requires-2 c = search thread_room

pub write_figures-requires : goal.write_figures-requires
write_figures-requires c = figures_room _ _ _ c.number-2.ensures c.number.ensures c.requires

pub returns : goal.returns
returns c = row_wrote _ _ _ c.write_figures.ensures c.number-2.ensures c.number.ensures
