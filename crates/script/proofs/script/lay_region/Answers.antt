-- `script::script::lay_region` meets its contract. Assumes nothing.
use Rattle.script.proofs.Setups.{fine_permission, fine_shape, length_fits, part_length, region_laid, region_room, threads_length, threads_room}
use Rattle.script.proofs.script.lay_region.Goals as goal

pub overflow_cast-permissions : goal.overflow_cast-permissions
overflow_cast-permissions c = search fine_permission

pub word_count-n-requires : goal.word_count-n-requires
word_count-n-requires c = search fine_shape

pub overflow_mul-n : goal.overflow_mul-n
overflow_mul-n c = search length_fits

pub slice_bounds-lay_out-end : goal.slice_bounds-lay_out-end
slice_bounds-lay_out-end c = search region_room

pub slice_bounds-lay_out-end-2 : goal.slice_bounds-lay_out-end-2
slice_bounds-lay_out-end-2 c = search part_length

pub slice_bounds-permissions-end : goal.slice_bounds-permissions-end
slice_bounds-permissions-end c = search threads_room

pub slice_bounds-lay_out-end-3 : goal.slice_bounds-lay_out-end-3
slice_bounds-lay_out-end-3 c = search threads_length

pub returns : goal.returns
returns c = search region_laid
