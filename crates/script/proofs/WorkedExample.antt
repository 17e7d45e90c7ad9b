-- Document 01's script prints its output, computed from the definitions. Assumes nothing.
use mathlib.Core.Path.{refl}
use Rattle.script.specs.Theorems.{WorkedExample}
use Rattle.script.proofs.Computing.{computing}

pub worked_example : WorkedExample
unfolding computing
worked_example = refl
