-- `script::script::setup_check` meets its contract: the first test that fails decides. Assumes nothing.
use Rattle.script.proofs.Setups.{deep, last_test, misfit}
use Rattle.script.proofs.script.setup_check.Goals as goal

pub returns-then-shape-gt8 : goal.returns-then-shape-gt8
returns-then-shape-gt8 c = search deep

pub returns-then-not-fits : goal.returns-then-not-fits
returns-then-not-fits c = search misfit

pub returns : goal.returns
returns c = search last_test
