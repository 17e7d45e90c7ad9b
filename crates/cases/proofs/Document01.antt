-- Document 01's starred cases, each row computed from the definitions. Assumes nothing.
use mathlib.Core.Path.{refl}
use Rattle.computes.proofs.Computes.{computes}
use Rattle.cases.specs.Row.{Holds, AllHold}
use Rattle.cases.specs.Document01.{fits, short, many_cells, too_deep, greatest_key, no_key, empty_list, put_and_takes, grows, crossing_put, crossing_takes, last_cell, cases_of01}

fits_holds : Holds fits
unfolding computes
fits_holds = (refl, refl)

short_holds : Holds short
unfolding computes
short_holds = (refl, refl)

many_cells_holds : Holds many_cells
unfolding computes
many_cells_holds = (refl, refl)

too_deep_holds : Holds too_deep
unfolding computes
too_deep_holds = (refl, refl)

greatest_key_holds : Holds greatest_key
unfolding computes
greatest_key_holds = (refl, refl)

no_key_holds : Holds no_key
unfolding computes
no_key_holds = (refl, refl)

empty_list_holds : Holds empty_list
unfolding computes
empty_list_holds = (refl, refl)

put_and_takes_holds : Holds put_and_takes
unfolding computes
put_and_takes_holds = (refl, refl)

grows_holds : Holds grows
unfolding computes
grows_holds = (refl, refl)

crossing_put_holds : Holds crossing_put
unfolding computes
crossing_put_holds = (refl, refl)

crossing_takes_holds : Holds crossing_takes
unfolding computes
crossing_takes_holds = (refl, refl)

last_cell_holds : Holds last_cell
unfolding computes
last_cell_holds = (refl, refl)

pub cases_of01_hold : AllHold cases_of01
cases_of01_hold = (fits_holds, (short_holds, (many_cells_holds, (too_deep_holds, (greatest_key_holds, (no_key_holds, (empty_list_holds, (put_and_takes_holds, (grows_holds, (crossing_put_holds, (crossing_takes_holds, (last_cell_holds, tt))))))))))))
