-- Cases of request 3, each row computed from the definitions. Assumes nothing.
use mathlib.Core.Path.{refl}
use Rattle.computes.proofs.Computes.{computes}
use Rattle.cases.specs.Row.{Holds, AllHold}
use Rattle.cases.specs.Request3.{empty_root, one_level, rests_and_goes_down, cases_of_request3}

empty_root_holds : Holds empty_root
unfolding computes
empty_root_holds = (refl, refl)

one_level_holds : Holds one_level
unfolding computes
one_level_holds = (refl, refl)

rests_and_goes_down_holds : Holds rests_and_goes_down
unfolding computes
rests_and_goes_down_holds = (refl, refl)

pub cases_of_request3_hold : AllHold cases_of_request3
cases_of_request3_hold = (empty_root_holds, (one_level_holds, (rests_and_goes_down_holds, tt)))
