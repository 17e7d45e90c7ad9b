-- Cases of request 5, each row computed from the definitions. Assumes nothing.
use mathlib.Core.Path.{refl}
use Rattle.computes.proofs.Computes.{computes}
use Rattle.cases.specs.Row.{Holds, AllHold}
use Rattle.cases.specs.Request5.{put_withdrawn, take_withdrawn, take_decided, given_back, between_refusals, permit_refused, cases_of_request5}

put_withdrawn_holds : Holds put_withdrawn
unfolding computes
put_withdrawn_holds = (refl, refl)

take_withdrawn_holds : Holds take_withdrawn
unfolding computes
take_withdrawn_holds = (refl, refl)

take_decided_holds : Holds take_decided
unfolding computes
take_decided_holds = (refl, refl)

given_back_holds : Holds given_back
unfolding computes
given_back_holds = (refl, refl)

between_refusals_holds : Holds between_refusals
unfolding computes
between_refusals_holds = (refl, refl)

permit_refused_holds : Holds permit_refused
unfolding computes
permit_refused_holds = (refl, refl)

pub cases_of_request5_hold : AllHold cases_of_request5
cases_of_request5_hold = (put_withdrawn_holds, (take_withdrawn_holds, (take_decided_holds, (given_back_holds, (between_refusals_holds, (permit_refused_holds, tt))))))
