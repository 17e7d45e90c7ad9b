-- Cases of request 2, each row computed from the definitions. Assumes nothing.
use mathlib.Core.Path.{refl}
use Rattle.computes.proofs.Computes.{computes}
use Rattle.cases.specs.Row.{Holds, AllHold}
use Rattle.cases.specs.Request2.{nine_then_two, two_then_nine, take_between, take_under_way, equal_items, above_every_item, cases_of_request2}

nine_then_two_holds : Holds nine_then_two
unfolding computes
nine_then_two_holds = (refl, refl)

two_then_nine_holds : Holds two_then_nine
unfolding computes
two_then_nine_holds = (refl, refl)

take_between_holds : Holds take_between
unfolding computes
take_between_holds = (refl, refl)

take_under_way_holds : Holds take_under_way
unfolding computes
take_under_way_holds = (refl, refl)

equal_items_holds : Holds equal_items
unfolding computes
equal_items_holds = (refl, refl)

above_every_item_holds : Holds above_every_item
unfolding computes
above_every_item_holds = (refl, refl)

pub cases_of_request2_hold : AllHold cases_of_request2
cases_of_request2_hold = (nine_then_two_holds, (two_then_nine_holds, (take_between_holds, (take_under_way_holds, (equal_items_holds, (above_every_item_holds, tt))))))
