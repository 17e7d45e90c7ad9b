-- `figures::report::report_script` meets its contract: the opening, the turns, the rows. Assumes nothing.
use Rattle.figures.proofs.ScriptCounted.{script_reported, script_room, script_setup, script_unread, threads_long, threads_there}
use Rattle.figures.proofs.report.report_script.Goals as goal

pub returns-in_default : goal.returns-in_default
returns-in_default c = search script_unread

pub count_script-next-requires : goal.count_script-next-requires
count_script-next-requires c = search script_setup

pub slice_bounds-table-end : goal.slice_bounds-table-end
slice_bounds-table-end c = search threads_there

pub slice_bounds-write_rows-end : goal.slice_bounds-write_rows-end
slice_bounds-write_rows-end c = search threads_long

pub write_rows-requires : goal.write_rows-requires
write_rows-requires c = search script_room

pub returns : goal.returns
returns c = search script_reported
