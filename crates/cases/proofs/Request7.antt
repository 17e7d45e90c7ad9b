-- Cases of request 7, each row computed from the definitions. Assumes nothing.
use mathlib.Core.Path.{refl}
use Rattle.computes.proofs.Computes.{computes}
use Rattle.cases.specs.Row.{Holds, AllHold}
use Rattle.cases.specs.Conversions.{converted_in_take, converted_in_mending, converted_in_list, converted_counter_goes_on, conversion_refused, converted_into_short}
use Rattle.cases.specs.Request7.{carried, last_update, goes_on_after_refusal, carry_compared, high_word_compared, cases_of_request7}

carried_holds : Holds carried
unfolding computes
carried_holds = (refl, refl)

last_update_holds : Holds last_update
unfolding computes
last_update_holds = (refl, refl)

goes_on_after_refusal_holds : Holds goes_on_after_refusal
unfolding computes
goes_on_after_refusal_holds = (refl, refl)

carry_compared_holds : Holds carry_compared
unfolding computes
carry_compared_holds = (refl, refl)

high_word_compared_holds : Holds high_word_compared
unfolding computes
high_word_compared_holds = (refl, refl)

converted_in_take_holds : Holds converted_in_take
unfolding computes
converted_in_take_holds = (refl, refl)

converted_in_mending_holds : Holds converted_in_mending
unfolding computes
converted_in_mending_holds = (refl, refl)

converted_in_list_holds : Holds converted_in_list
unfolding computes
converted_in_list_holds = (refl, refl)

converted_counter_goes_on_holds : Holds converted_counter_goes_on
unfolding computes
converted_counter_goes_on_holds = (refl, refl)

conversion_refused_holds : Holds conversion_refused
unfolding computes
conversion_refused_holds = (refl, refl)

converted_into_short_holds : Holds converted_into_short
unfolding computes
converted_into_short_holds = (refl, refl)

pub cases_of_request7_hold : AllHold cases_of_request7
cases_of_request7_hold = (carried_holds, (last_update_holds, (goes_on_after_refusal_holds, (carry_compared_holds, (high_word_compared_holds, (converted_in_take_holds, (converted_in_mending_holds, (converted_in_list_holds, (converted_counter_goes_on_holds, (conversion_refused_holds, (converted_into_short_holds, tt)))))))))))
