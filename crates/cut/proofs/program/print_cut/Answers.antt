-- `cut::program::print_cut` meets its contract: the number, then the script. Assumes nothing.
use Rattle.cut.proofs.Printed.{no_number, script_printed, script_there, too_long}
use Rattle.cut.proofs.program.print_cut.Goals as goal

pub returns-then-input-gt-CUT_INPUT_MOST : goal.returns-then-input-gt-CUT_INPUT_MOST
returns-then-input-gt-CUT_INPUT_MOST c = search too_long

pub returns-in_default : goal.returns-in_default
returns-in_default c = search no_number

pub slice_bounds-print_script-count : goal.slice_bounds-print_script-count
slice_bounds-print_script-count c = search script_there

pub slice_bounds-print_script-start : goal.slice_bounds-print_script-start
slice_bounds-print_script-start c = search script_there

pub returns : goal.returns
returns c = search script_printed
