-- `figures::report::write_report` meets its contract: unreadable, or the heading and the scripts. Assumes nothing.
use Rattle.figures.proofs.AllReported.{report_unreadable, report_whole, scripts_room}
use Rattle.figures.proofs.report.write_report.Goals as goal

pub returns-then-not-are_readable : goal.returns-then-not-are_readable
returns-then-not-are_readable c = search report_unreadable

pub report_scripts-requires : goal.report_scripts-requires
report_scripts-requires c = search scripts_room

pub returns : goal.returns
returns c = search report_whole
