-- `cut::cutting::cut_script` meets its contract: the first refusal that applies, or a cut. Assumes nothing.
use Rattle.cut.proofs.CutWays.{lines_ready, no_lines, no_opening, read_whole, too_short}
use Rattle.cut.proofs.cutting.cut_script.Goals as goal

pub returns-then-out-s : goal.returns-then-out-s
returns-then-out-s c = search too_short

pub returns-in_default : goal.returns-in_default
returns-in_default c = search no_opening

pub read_lines-requires : goal.read_lines-requires
read_lines-requires c = search lines_ready

pub returns-in_default-read_lines : goal.returns-in_default-read_lines
returns-in_default-read_lines c = search no_lines

pub cut_read-requires : goal.cut_read-requires
cut_read-requires c = search read_whole
