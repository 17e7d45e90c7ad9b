-- `layout::fill` meets its contract: the loop keeps `Filled`. Assumes nothing.
use Rattle.layout.proofs.Loops.{fill_start, fill_laying, fill_more, fill_end}
use Rattle.layout.proofs.fill.Goals as goal

pub loop-k-init : goal.loop-k-init
loop-k-init c = search fill_start

pub laid_word-requires : goal.laid_word-requires
laid_word-requires c = search fill_laying

pub loop-k-preserved : goal.loop-k-preserved
loop-k-preserved c = search fill_more

pub returns : goal.returns
returns c = search fill_end
