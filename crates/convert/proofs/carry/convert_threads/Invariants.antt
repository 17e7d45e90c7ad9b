-- `convert::carry::convert_threads` meets its contract: the loop keeps `Carrying`. Assumes nothing.
use Rattle.convert.specs.Convert.{thread_carried}
use Rattle.convert.proofs.Loops.{Carrying}
use Rattle.convert.proofs.carry.convert_threads.Given as goal

abbrev pub invariant-loop-i : goal.invariant-loop-i
invariant-loop-i l = Carrying thread_carried 33 36 l.old l.from l.initial.new l.new l.to l.count l.i
