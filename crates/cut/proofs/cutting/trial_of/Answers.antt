-- `cut::cutting::trial_of` meets its contract. Assumes nothing.
use Rattle.script.proofs.Setups.{fine_shape, length_fits}
use Rattle.cut.proofs.cutting.trial_of.Goals as goal

pub of-requires : goal.of-requires
of-requires c = search fine_shape

pub word_count-requires : goal.word_count-requires
word_count-requires c = search fine_shape

pub overflow_mul-result : goal.overflow_mul-result
overflow_mul-result c = search length_fits
