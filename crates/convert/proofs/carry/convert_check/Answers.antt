-- `convert::carry::convert_check` meets its contract: an old region that can be read is long enough, and its shape in range. Assumes nothing.
use Rattle.convert.proofs.Loops.{old_long, old_shape}
use Rattle.region.specs.Inner.{one_word}
use Rattle.convert.proofs.carry.convert_check.Goals as goal

pub is_readable_of_width-requires : goal.is_readable_of_width-requires
is_readable_of_width-requires c = one_word

pub load_shape-shape-requires : goal.load_shape-shape-requires
load_shape-shape-requires c = search old_long

pub word_count-requires : goal.word_count-requires
word_count-requires c = search old_shape
