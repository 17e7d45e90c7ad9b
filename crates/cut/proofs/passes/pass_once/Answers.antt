-- `cut::passes::pass_once` meets its contract: laid out, then each line tried. Assumes nothing.
use Rattle.cut.proofs.LinesCutting.{pass_able}
use Rattle.cut.proofs.passes.pass_once.Goals as goal

pub try_lines-requires : goal.try_lines-requires
try_lines-requires c = search pass_able
