-- Cases of request 4, each row computed from the definitions. Assumes nothing.
use mathlib.Core.Path.{refl}
use Rattle.computes.proofs.Computes.{computes}
use Rattle.cases.specs.Row.{Holds, AllHold}
use Rattle.cases.specs.Request4.{bad_first_word, bad_later_word, bad_tries, bad_waiting_levels, cases_of_request4}

bad_first_word_holds : Holds bad_first_word
unfolding computes
bad_first_word_holds = (refl, refl)

bad_later_word_holds : Holds bad_later_word
unfolding computes
bad_later_word_holds = (refl, refl)

bad_tries_holds : Holds bad_tries
unfolding computes
bad_tries_holds = (refl, refl)

bad_waiting_levels_holds : Holds bad_waiting_levels
unfolding computes
bad_waiting_levels_holds = (refl, refl)

pub cases_of_request4_hold : AllHold cases_of_request4
cases_of_request4_hold = (bad_first_word_holds, (bad_later_word_holds, (bad_tries_holds, (bad_waiting_levels_holds, tt))))
