-- `cut::trials::store_turn` meets its contract: two words are stored. Assumes nothing.
use Rattle.cut.proofs.Groups.{turn_stored}
use Rattle.cut.proofs.trials.store_turn.Goals as goal

pub returns : goal.returns
returns c = search turn_stored
