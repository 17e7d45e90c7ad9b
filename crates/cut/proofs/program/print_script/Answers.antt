-- `cut::program::print_script` meets its contract: what is left of the script, or the refusal. Assumes nothing.
use Rattle.cut.proofs.Printed.{printed_cut, printed_refused}
use Rattle.cut.proofs.program.print_script.Goals as goal

pub returns-in-Ok : goal.returns-in-Ok
returns-in-Ok c = search printed_cut

pub returns-in-Err : goal.returns-in-Err
returns-in-Err c = search printed_refused
