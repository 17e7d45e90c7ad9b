-- `run::serve_all` meets its contract: the loop keeps `Serving`. Assumes nothing.
use Rattle.std.proofs.Common.{rules}
use Rattle.run.proofs.Turns.{serve_start, serve_more, serve_stop, serve_end}
use Rattle.run.proofs.serve_all.Goals as goal

pub loop-turns-init : goal.loop-turns-init
loop-turns-init c = (search rules, search serve_start)

pub returns-then-accesses-limit-clause-turns : goal.returns-then-accesses-limit-clause-turns
returns-then-accesses-limit-clause-turns c = search serve_stop

pub loop-turns-preserved : goal.loop-turns-preserved
loop-turns-preserved c = (search rules, search serve_more)

pub returns-clause-turns : goal.returns-clause-turns
returns-clause-turns c = search serve_end
