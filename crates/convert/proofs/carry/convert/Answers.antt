-- `convert::carry::convert` meets its contract: what is not refused can be carried over. Assumes nothing.
use Rattle.convert.proofs.Loops.{accepted_long, exact}
use Rattle.convert.proofs.carry.convert.Goals as goal

pub load_shape-requires : goal.load_shape-requires
load_shape-requires c = accepted_long _ _ c.convert_check.ensures (c.in_ok-convert_check.was {u = tt})

pub convert_words-requires : goal.convert_words-requires
convert_words-requires c = exact _ _ c.convert_check.ensures (c.in_ok-convert_check.was {u = tt}) _ c.load_shape.ensures
