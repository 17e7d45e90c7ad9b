-- `readable::threads_readable` meets its contract: the loop keeps `Scanned`. Assumes nothing.
use Rattle.readable.proofs.Loops.{scan_bad, threads_decide}
use Rattle.readable.proofs.threads_readable.Goals as goal

pub returns-then-not-thread_of_width_readable : goal.returns-then-not-thread_of_width_readable
returns-then-not-thread_of_width_readable g c =
    threads_decide c.args.frame c.args.b.now c.requires _ _ c.thread_size-size.ensures
    (scan_bad c.loop-i.invariant _ c.loop-i-test.true c.thread_of_width_readable.ensures c.if-not-thread_of_width_readable.true)
