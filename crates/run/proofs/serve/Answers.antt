-- `run::serve` meets its contract: the turn, its answer's words and its accesses are the definition's. Assumes nothing.
use Rattle.run.proofs.Turns.{one_served}
use Rattle.run.proofs.serve.Goals as goal

pub returns-clause-turn : goal.returns-clause-turn
returns-clause-turn c = search one_served
