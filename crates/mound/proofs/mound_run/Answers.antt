-- `queue::mound_run` meets its contract: the run's numbers fit, and their packing is the definition's. Assumes nothing.
use Rattle.mound.proofs.Packing.{fits_outcome, run_done}
use Rattle.mound.proofs.mound_run.Goals as goal

pub pack-requires : goal.pack-requires
pack-requires c = search fits_outcome

pub returns : goal.returns
returns c = search run_done
