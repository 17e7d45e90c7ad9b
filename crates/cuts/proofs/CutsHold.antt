-- Cases of request 14, each row computed from the definitions. Assumes nothing.
use mathlib.Core.Path.{refl}
use Rattle.cut.proofs.Computing.{computing}
use Rattle.cuts.specs.Rows.{Holds, CutsHold, no_cell, shown_twice, second_pass, no_cell_again, second_pass_again, refused_layout, lines_not_run, bad_line_not_run, bad_permission, took_nine, slice_short, slice_short_first, no_line_end, no_bytes, leading_zeros}

no_cell_holds : Holds no_cell
unfolding computing
no_cell_holds = (refl, refl)

shown_twice_holds : Holds shown_twice
unfolding computing
shown_twice_holds = (refl, refl)

second_pass_holds : Holds second_pass
unfolding computing
second_pass_holds = (refl, refl)

no_cell_again_holds : Holds no_cell_again
unfolding computing
no_cell_again_holds = (refl, refl)

second_pass_again_holds : Holds second_pass_again
unfolding computing
second_pass_again_holds = (refl, refl)

refused_layout_holds : Holds refused_layout
unfolding computing
refused_layout_holds = (refl, refl)

lines_not_run_holds : Holds lines_not_run
unfolding computing
lines_not_run_holds = (refl, refl)

bad_line_not_run_holds : Holds bad_line_not_run
unfolding computing
bad_line_not_run_holds = (refl, refl)

bad_permission_holds : Holds bad_permission
unfolding computing
bad_permission_holds = (refl, refl)

took_nine_holds : Holds took_nine
unfolding computing
took_nine_holds = (refl, refl)

slice_short_holds : Holds slice_short
unfolding computing
slice_short_holds = (refl, refl)

slice_short_first_holds : Holds slice_short_first
unfolding computing
slice_short_first_holds = (refl, refl)

no_line_end_holds : Holds no_line_end
unfolding computing
no_line_end_holds = (refl, refl)

no_bytes_holds : Holds no_bytes
unfolding computing
no_bytes_holds = (refl, refl)

leading_zeros_holds : Holds leading_zeros
unfolding computing
leading_zeros_holds = (refl, refl)

pub cuts_hold : CutsHold
cuts_hold =
    (no_cell_holds, (shown_twice_holds, (second_pass_holds, (no_cell_again_holds, (second_pass_again_holds, (refused_layout_holds, (lines_not_run_holds, (bad_line_not_run_holds, (bad_permission_holds, (took_nine_holds, (slice_short_holds, (slice_short_first_holds, (no_line_end_holds, (no_bytes_holds, (leading_zeros_holds, tt)))))))))))))))
