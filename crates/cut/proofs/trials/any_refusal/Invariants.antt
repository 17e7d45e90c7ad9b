-- `cut::trials::any_refusal` meets its contract: the answers that are left decide. Assumes nothing.
use Rattle.cut.proofs.Groups.{Scanning}
use Rattle.cut.proofs.trials.any_refusal.Given as goal

abbrev pub invariant-loop-k : goal.invariant-loop-k
invariant-loop-k l = Scanning l.number l.answers l.count l.k
