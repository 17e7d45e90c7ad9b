-- `figures::scripts::script_end` meets its contract: opening, layout, lines. Assumes nothing.
use Rattle.figures.proofs.ScriptsRead.{end_lines, end_no_script, end_refused}
use Rattle.figures.proofs.scripts.script_end.Goals as goal

pub returns-in_err-setup : goal.returns-in_err-setup
returns-in_err-setup c = search (end_no_script, c.in_err-setup.was)

pub returns-in-Err : goal.returns-in-Err
returns-in-Err c = search (end_refused, c.in_ok-setup.was)

pub returns-in-Ok : goal.returns-in-Ok
returns-in-Ok c = search (end_lines, c.in_ok-setup.was)
