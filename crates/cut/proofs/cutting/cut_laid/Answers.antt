-- `cut::cutting::cut_laid` meets its contract: shown or not, passes, then what is left. Assumes nothing.
use Rattle.cut.proofs.CutWays.{cut_room, laid_cut, laid_not_shown}
use Rattle.cut.proofs.cutting.cut_laid.Goals as goal

pub returns-then-not-show : goal.returns-then-not-show
returns-then-not-show c = search laid_not_shown

pub write_cut-requires : goal.write_cut-requires
write_cut-requires c = search cut_room

pub returns : goal.returns
returns c = search laid_cut
