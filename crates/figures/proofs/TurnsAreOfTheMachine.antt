-- On a readable region the turn that is counted is the machine's: its test for readability is passed. Assumes nothing.
use mathlib.Core.Path.{refl}
use Rattle.region.specs.Pick.{pick}
use Rattle.machine.specs.Turn.{turn_on_answer, turn_on_bytes}
use Rattle.figures.specs.Turns.{turn_made}
use Rattle.figures.specs.Theorems.{TurnsAreOfTheMachine}

pub turns_are_of_the_machine : TurnsAreOfTheMachine
unfolding turn_on_answer turn_on_bytes turn_made pick
turns_are_of_the_machine b e t c = record { answer = rw e refl; bytes = rw e refl }
