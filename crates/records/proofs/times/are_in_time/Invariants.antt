-- `records::times::are_in_time` meets its contract: the loop keeps `Timing`. Assumes nothing.
use Rattle.records.specs.Recorded.{recorded_at}
use Rattle.records.proofs.InTime.{Timing}
use Rattle.records.proofs.times.are_in_time.Given as goal

abbrev pub invariant-loop-k : goal.invariant-loop-k
invariant-loop-k l = Timing l.walk.count (recorded_at l.walk.bytes.now) l.latest l.last l.k
