-- `cut::trials::gather` meets its contract: the loop keeps `Gathering`. Assumes nothing.
use Rattle.cut.proofs.Groups.{Gathering}
use Rattle.cut.proofs.trials.gather.Given as goal

abbrev pub invariant-loop-k : goal.invariant-loop-k
invariant-loop-k l = Gathering l.lines l.initial.schedule l.schedule l.k
