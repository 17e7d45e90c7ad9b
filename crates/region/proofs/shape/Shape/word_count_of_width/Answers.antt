-- `region::shape::Shape::word_count_of_width` meets its contract. Assumes nothing.
use native.Mathlib.Omega.{arith}
use Rattle.region.proofs.Forms.{few_words_in_frame}
use Rattle.region.proofs.shape.Shape.word_count_of_width.Goals as goal

pub overflow_add-result : goal.overflow_add-result
overflow_add-result g c =
    omega (arith, few_words_in_frame c.requires.width c.args.self c.requires.range c.of_width-frame.result c.of_width-frame.ensures)
