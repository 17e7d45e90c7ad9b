-- `figures::rows::write_ratio` meets its contract: two numbers. Assumes nothing.
use Rattle.figures.proofs.Printed.{ratio_wrote, rest_room}
use Rattle.figures.proofs.rows.write_ratio.Goals as goal

pub number-requires-2 : goal.number-requires-2
number-requires-2 c = search rest_room

pub returns : goal.returns
returns c = search ratio_wrote
