-- `cut::trials::call_shows` meets its contract: the queue lies in the region. Assumes nothing.
use Rattle.cut.proofs.LinesRun.{call_within}
use Rattle.cut.proofs.trials.call_shows.Goals as goal

pub new-queue-requires : goal.new-queue-requires
new-queue-requires c = search call_within
