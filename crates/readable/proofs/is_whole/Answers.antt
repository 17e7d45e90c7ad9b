-- `readable::is_whole` meets its contract: a slice that is too short is no region. Assumes nothing.
use Rattle.readable.proofs.Loops.{too_short}
use Rattle.readable.proofs.is_whole.Goals as goal

pub returns-then-b-lt16 : goal.returns-then-b-lt16
returns-then-b-lt16 g c = search (too_short g.row.WIDTH)
