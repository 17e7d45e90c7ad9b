-- `records::play::is_played` meets its contract: the loop keeps `Playing`. Assumes nothing.
use Rattle.records.specs.Recorded.{recorded_at}
use Rattle.records.proofs.Played.{Playing}
use Rattle.records.proofs.play.is_played.Given as goal

abbrev pub invariant-loop-k : goal.invariant-loop-k
invariant-loop-k l = Playing l.walk.count (recorded_at l.walk.bytes.now) l.bag.entries l.bag.size l.k
