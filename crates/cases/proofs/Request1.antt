-- Cases of request 1, each row computed from the definitions. Assumes nothing.
use mathlib.Core.Path.{refl}
use Rattle.computes.proofs.Computes.{computes}
use Rattle.cases.specs.Row.{Holds, AllHold}
use Rattle.cases.specs.Request1.{empty_at_once, handed_in_order, put_between, take_of_another, cells_in_hand, admitted, cases_of_request1}

empty_at_once_holds : Holds empty_at_once
unfolding computes
empty_at_once_holds = (refl, refl)

handed_in_order_holds : Holds handed_in_order
unfolding computes
handed_in_order_holds = (refl, refl)

put_between_holds : Holds put_between
unfolding computes
put_between_holds = (refl, refl)

take_of_another_holds : Holds take_of_another
unfolding computes
take_of_another_holds = (refl, refl)

cells_in_hand_holds : Holds cells_in_hand
unfolding computes
cells_in_hand_holds = (refl, refl)

admitted_holds : Holds admitted
unfolding computes
admitted_holds = (refl, refl)

pub cases_of_request1_hold : AllHold cases_of_request1
cases_of_request1_hold = (empty_at_once_holds, (handed_in_order_holds, (put_between_holds, (take_of_another_holds, (cells_in_hand_holds, (admitted_holds, tt))))))
