-- Cases of request 8, each row computed from the definitions. Assumes nothing.
use mathlib.Core.Path.{refl}
use Rattle.computes.proofs.Computes.{computes}
use Rattle.cases.specs.Row.{Holds, AllHold}
use Rattle.cases.specs.Request8.{next_leaf, first_after_last, next_try, counts_once, counts_below, one_leaf, cases_of_request8}

next_leaf_holds : Holds next_leaf
unfolding computes
next_leaf_holds = (refl, refl)

first_after_last_holds : Holds first_after_last
unfolding computes
first_after_last_holds = (refl, refl)

next_try_holds : Holds next_try
unfolding computes
next_try_holds = (refl, refl)

counts_once_holds : Holds counts_once
unfolding computes
counts_once_holds = (refl, refl)

counts_below_holds : Holds counts_below
unfolding computes
counts_below_holds = (refl, refl)

one_leaf_holds : Holds one_leaf
unfolding computes
one_leaf_holds = (refl, refl)

pub cases_of_request8_hold : AllHold cases_of_request8
cases_of_request8_hold = (next_leaf_holds, (first_after_last_holds, (next_try_holds, (counts_once_holds, (counts_below_holds, (one_leaf_holds, tt))))))
