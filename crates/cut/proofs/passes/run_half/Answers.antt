-- `cut::passes::run_half` meets its contract: a copy, then the lines on it. Assumes nothing.
use Rattle.cut.proofs.LinesTrying.{half_ran, half_runs}
use Rattle.cut.proofs.passes.run_half.Goals as goal

pub run_lines-requires : goal.run_lines-requires
run_lines-requires c = search half_runs

pub returns : goal.returns
returns c = search half_ran
