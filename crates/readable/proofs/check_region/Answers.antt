-- `readable::check_region` meets its contract: counters have two words. Assumes nothing.
use Rattle.region.specs.Inner.{two_words}
use Rattle.readable.proofs.check_region.Goals as goal

pub is_whole-requires : goal.is_whole-requires
is_whole-requires c = search two_words
