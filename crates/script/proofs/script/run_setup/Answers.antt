-- `script::script::run_setup` meets its contract: refused, or the lines run. Assumes nothing.
use Rattle.script.proofs.Regions.{lines_ready}
use Rattle.script.proofs.Setups.{ready_part, ready_room, ready_shape, setup_ran, setup_refused}
use Rattle.script.proofs.script.run_setup.Goals as goal

pub returns-in-Err : goal.returns-in-Err
returns-in-Err c = search setup_refused

pub word_count-n-requires : goal.word_count-n-requires
word_count-n-requires c = search ready_shape

pub of-f-requires : goal.of-f-requires
of-f-requires c = search ready_shape

pub slice_bounds-run_lines-end : goal.slice_bounds-run_lines-end
slice_bounds-run_lines-end c = search ready_room

pub slice_bounds-run_lines-end-in-Ok : goal.slice_bounds-run_lines-end-in-Ok
slice_bounds-run_lines-end-in-Ok c = search ready_part

pub run_lines-requires : goal.run_lines-requires
run_lines-requires c = search lines_ready

pub returns-in-Ok : goal.returns-in-Ok
returns-in-Ok c = search setup_ran
