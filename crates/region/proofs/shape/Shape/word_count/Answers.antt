-- `Shape::word_count` may be called: a counter has two words. Assumes nothing.
use Rattle.region.specs.Inner.{two_words}
use Rattle.region.proofs.shape.Shape.word_count.Goals as goal

pub word_count_of_width-requires-clause-width : goal.word_count_of_width-requires-clause-width
word_count_of_width-requires-clause-width c = two_words
