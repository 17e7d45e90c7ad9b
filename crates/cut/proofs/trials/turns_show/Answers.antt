-- `cut::trials::turns_show` meets its contract: the run, and its answers looked through. Assumes nothing.
use Rattle.cut.proofs.Groups.{turns_shown}
use Rattle.cut.proofs.trials.turns_show.Goals as goal

pub returns : goal.returns
returns c = search turns_shown
