-- `figures::report::count_script` meets its contract: the region laid out, then the lines. Assumes nothing.
use Rattle.figures.proofs.ScriptCounted.{setup_counted, setup_fits, setup_lines, setup_part, setup_room, setup_shape}
use Rattle.figures.proofs.report.count_script.Goals as goal

pub word_count-n-requires : goal.word_count-n-requires
word_count-n-requires c = search setup_shape

pub overflow_mul-n : goal.overflow_mul-n
overflow_mul-n c = search setup_fits

pub slice_bounds-region-end : goal.slice_bounds-region-end
slice_bounds-region-end c = search setup_room

pub slice_bounds-count_lines-end : goal.slice_bounds-count_lines-end
slice_bounds-count_lines-end c = search setup_part

pub count_lines-requires : goal.count_lines-requires
count_lines-requires c = search setup_lines

pub returns : goal.returns
returns c = search setup_counted
