-- `figures::report::report_scripts` meets its contract: the loop keeps `Reporting`. Assumes nothing.
use Rattle.figures.proofs.AllReported.{report_end, report_less, report_more, report_start, report_there, total_room}
use Rattle.figures.proofs.report.report_scripts.Goals as goal

pub loop-at-init : goal.loop-at-init
loop-at-init c = search report_start

pub report_script-at-requires : goal.report_script-at-requires
report_script-at-requires c = search report_there

pub loop-at-smaller : goal.loop-at-smaller
loop-at-smaller c = search report_less

pub loop-at-preserved : goal.loop-at-preserved
loop-at-preserved c = search report_more

pub write_row-requires : goal.write_row-requires
write_row-requires c = search total_room

pub returns : goal.returns
returns c = search report_end
