-- Cases of request 9, each row computed from the definitions. Assumes nothing.
use mathlib.Core.Path.{refl}
use Rattle.computes.proofs.Computes.{computes}
use Rattle.cases.specs.Row.{Holds, AllHold}
use Rattle.cases.specs.Request9.{one_operation, overlapping, real_time, smaller_tag_first, threads_and_positions, out_of_range, cases_of_request9}

one_operation_holds : Holds one_operation
unfolding computes
one_operation_holds = (refl, refl)

overlapping_holds : Holds overlapping
unfolding computes
overlapping_holds = (refl, refl)

real_time_holds : Holds real_time
unfolding computes
real_time_holds = (refl, refl)

smaller_tag_first_holds : Holds smaller_tag_first
unfolding computes
smaller_tag_first_holds = (refl, refl)

threads_and_positions_holds : Holds threads_and_positions
unfolding computes
threads_and_positions_holds = (refl, refl)

out_of_range_holds : Holds out_of_range
unfolding computes
out_of_range_holds = (refl, refl)

pub cases_of_request9_hold : AllHold cases_of_request9
cases_of_request9_hold =
    (one_operation_holds, (overlapping_holds, (real_time_holds, (smaller_tag_first_holds, (threads_and_positions_holds, (out_of_range_holds, tt))))))
