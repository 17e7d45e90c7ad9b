-- `figures::counting::count_turn` meets its contract: in the total, and in the row of a thread that has one. Assumes nothing.
use Rattle.figures.proofs.TurnsCounted.{both_counted, frame_there, row_there, some_thread, thread_row, total_counted}
use Rattle.figures.proofs.counting.count_turn.Goals as goal

pub new-requires : goal.new-requires
new-requires c = search frame_there

pub turn_plan-plan-requires : goal.turn_plan-plan-requires
turn_plan-plan-requires c = search frame_there

pub overflow_sub-n : goal.overflow_sub-n
overflow_sub-n c = search some_thread

pub bounds-table-n : goal.bounds-table-n
bounds-table-n c = search row_there

pub add_turn-requires-then-is_between : goal.add_turn-requires-then-is_between
add_turn-requires-then-is_between c = search thread_row

pub returns-then-is_between : goal.returns-then-is_between
returns-then-is_between c = search both_counted

pub returns-else-is_between : goal.returns-else-is_between
returns-else-is_between c = search total_counted
