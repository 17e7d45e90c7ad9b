-- `mound::mound_cut` meets its contract: its numbers fit, and their packing is the definition's. Assumes nothing.
use Rattle.mound.proofs.CutPacking.{cut_done, outcome_fits}
use Rattle.mound.proofs.mound_cut.Goals as goal

pub pack_cut-requires : goal.pack_cut-requires
pack_cut-requires c = search outcome_fits

pub returns : goal.returns
returns c = search cut_done
