-- `readable::greatest_tries` meets its contract. Assumes nothing.
use Rattle.readable.proofs.Loops.{tries_leaf, tries_else}
use Rattle.readable.proofs.greatest_tries.Goals as goal

pub returns-then-place-eq2 : goal.returns-then-place-eq2
returns-then-place-eq2 c = search tries_leaf

pub returns-else-place-eq2 : goal.returns-else-place-eq2
returns-else-place-eq2 c = search tries_else
