-- `convert::carry::convert_threads` meets its contract: the loop keeps `Carrying`. Assumes nothing.
use Rattle.convert.specs.Convert.{thread_carried}
use Rattle.convert.proofs.Loops.{carry_more, carry_end, thread_size_lem}
use Rattle.convert.proofs.carry.convert_threads.Goals as goal

pub loop-i-preserved : goal.loop-i-preserved
loop-i-preserved c = carry_more thread_carried 33 36 thread_size_lem c.loop-i.invariant _ c.loop-i-test.true c.convert_thread.ensures

pub returns : goal.returns
returns c = carry_end thread_carried 33 36 thread_size_lem c.loop-i.invariant c.loop-i-test.false
