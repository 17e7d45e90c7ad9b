-- `cut::passes::lay_last` meets its contract: the layout in the last slot. Assumes nothing.
use Rattle.cut.proofs.LinesCutting.{last_laid}
use Rattle.cut.proofs.passes.lay_last.Goals as goal

pub returns : goal.returns
returns c = search last_laid
