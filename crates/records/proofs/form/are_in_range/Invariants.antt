-- `records::form::are_in_range` meets its contract: the loop keeps `Ranging`. Assumes nothing.
use Rattle.records.proofs.Ranges.{Ranging}
use Rattle.records.proofs.form.are_in_range.Given as goal

abbrev pub invariant-loop-k : goal.invariant-loop-k
invariant-loop-k l = Ranging l.b l.n l.k
