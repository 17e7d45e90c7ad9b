-- `figures::scripts::are_readable` meets its contract: the scripts that are left decide. Assumes nothing.
use Rattle.figures.proofs.ScriptsRead.{Reading}
use Rattle.figures.proofs.scripts.are_readable.Given as goal

abbrev pub invariant-loop-count : goal.invariant-loop-count
invariant-loop-count l = Reading l.s l.at l.count
