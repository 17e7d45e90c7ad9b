-- `Frame::of` may be called: a counter has two words. Assumes nothing.
use Rattle.region.specs.Inner.{two_words}
use Rattle.region.proofs.frame.Frame.of.Goals as goal

pub of_width-requires-clause-width : goal.of_width-requires-clause-width
of_width-requires-clause-width c = two_words
