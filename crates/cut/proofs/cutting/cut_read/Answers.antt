-- `cut::cutting::cut_read` meets its contract: by the layout. Assumes nothing.
use Rattle.cut.proofs.CutWays.{is_laid, layout_cut, layout_other, opening_room}
use Rattle.cut.proofs.cutting.cut_read.Goals as goal

pub cut_laid-requires : goal.cut_laid-requires
cut_laid-requires c = search is_laid

pub returns-then-from-number : goal.returns-then-from-number
returns-then-from-number c = search layout_other

pub write_cut-requires : goal.write_cut-requires
write_cut-requires c = search opening_room

pub returns : goal.returns
returns c = search layout_cut
