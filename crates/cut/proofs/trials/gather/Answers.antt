-- `cut::trials::gather` meets its contract: the loop keeps `Gathering`. Assumes nothing.
use Rattle.cut.proofs.Groups.{gather_end, gather_more, gather_stops}
use Rattle.cut.proofs.trials.gather.Goals as goal

pub returns-in_default : goal.returns-in_default
returns-in_default c = search gather_stops

pub loop-k-preserved : goal.loop-k-preserved
loop-k-preserved c = search gather_more

pub returns : goal.returns
returns c = search gather_end
