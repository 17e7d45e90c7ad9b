-- `figures::rows::write_figures` meets its contract: the columns, then the ratio of two sums. Assumes nothing.
use Rattle.figures.proofs.Printed.{access_sum, figures_wrote, operation_sum, ratio_room}
use Rattle.figures.proofs.rows.write_figures.Goals as goal

pub sum_of-accesses-requires : goal.sum_of-accesses-requires
sum_of-accesses-requires c = search access_sum

pub sum_of-operations-requires : goal.sum_of-operations-requires
sum_of-operations-requires c = search operation_sum

pub write_ratio-requires : goal.write_ratio-requires
write_ratio-requires c = search ratio_room

pub returns : goal.returns
returns c = search figures_wrote
