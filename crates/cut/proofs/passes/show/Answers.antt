-- `cut::passes::show` meets its contract: laid out, then run. Assumes nothing.
use Rattle.cut.proofs.LinesCutting.{all_shown, run_ends, run_fits, run_ready}
use Rattle.cut.proofs.passes.show.Goals as goal

pub overflow_add-end : goal.overflow_add-end
overflow_add-end c = search run_fits

pub slice_bounds-run_lines-end : goal.slice_bounds-run_lines-end
slice_bounds-run_lines-end c = search run_ends

pub run_lines-requires : goal.run_lines-requires
run_lines-requires c = search run_ready

pub returns : goal.returns
returns c = search all_shown
