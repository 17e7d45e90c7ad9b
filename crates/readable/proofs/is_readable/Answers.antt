-- `readable::is_readable` meets its contract: counters have two words. Assumes nothing.
use Rattle.region.specs.Inner.{one_word, two_words}
use Rattle.readable.proofs.is_readable.Goals as goal

pub is_readable_of_width-requires : goal.is_readable_of_width-requires
is_readable_of_width-requires c = search (one_word, two_words)
