-- Cases of request 6, each row computed from the definitions. Assumes nothing.
use mathlib.Core.Path.{refl}
use Rattle.figures.proofs.Computing.{computing}
use Rattle.reports.specs.Rows.{Holds, ReportsHold, worked, one_failed_cas, every_update, list_of_two, withdrawn_put, no_lines, no_script, bad_line, bad_layout, no_empty_line, two_empty_lines, too_many}

worked_holds : Holds worked
unfolding computing
worked_holds = refl

one_failed_cas_holds : Holds one_failed_cas
unfolding computing
one_failed_cas_holds = refl

every_update_holds : Holds every_update
unfolding computing
every_update_holds = refl

list_of_two_holds : Holds list_of_two
unfolding computing
list_of_two_holds = refl

withdrawn_put_holds : Holds withdrawn_put
unfolding computing
withdrawn_put_holds = refl

no_lines_holds : Holds no_lines
unfolding computing
no_lines_holds = refl

no_script_holds : Holds no_script
unfolding computing
no_script_holds = refl

bad_line_holds : Holds bad_line
unfolding computing
bad_line_holds = refl

bad_layout_holds : Holds bad_layout
unfolding computing
bad_layout_holds = refl

no_empty_line_holds : Holds no_empty_line
unfolding computing
no_empty_line_holds = refl

two_empty_lines_holds : Holds two_empty_lines
unfolding computing
two_empty_lines_holds = refl

too_many_holds : Holds too_many
unfolding computing
too_many_holds = refl

pub reports_hold : ReportsHold
reports_hold =
    (worked_holds, (one_failed_cas_holds, (every_update_holds, (list_of_two_holds, (withdrawn_put_holds, (no_lines_holds, (no_script_holds, (bad_line_holds, (bad_layout_holds, (no_empty_line_holds, (two_empty_lines_holds, (too_many_holds, tt))))))))))))
