-- `run::serve_all` meets its contract: the loop keeps `Serving`. Assumes nothing.
use Prim.Native.Nat.{◌-◌}
use Rattle.region.specs.Held.{Stays}
use Rattle.run.proofs.Turns.{Serving}
use Rattle.run.proofs.serve_all.Given as goal

abbrev pub invariant-loop-turns : goal.invariant-loop-turns
invariant-loop-turns l = Stays l.initial.queue l.queue × Serving l.initial.queue.frame l.limit l.count l.schedule l.initial.queue.bytes.now l.initial.answers l.queue.bytes.now l.answers l.turns l.accesses

abbrev pub decreases-loop-turns : goal.decreases-loop-turns
decreases-loop-turns l = l.count - l.turns
