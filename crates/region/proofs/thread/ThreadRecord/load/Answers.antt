-- `region::thread::Thread::load` meets its contract: each field is its word, and the copies lie behind. Assumes nothing.
use Rattle.region.specs.Inner.{two_words}
use Rattle.region.specs.Record.{copy_at}
use Rattle.region.specs.Thread.{thread_at}
use Rattle.region.proofs.Threads.{thread_loaded}
use Rattle.region.proofs.thread.ThreadRecord.load.Goals as goal

pub returns : goal.returns
unfolding copy_at thread_at
returns c = thread_loaded two_words _ _ _ _ _ _ _ c.load_words.ensures c.of.ensures c.load.ensures c.load-2.ensures c.load-3.ensures
