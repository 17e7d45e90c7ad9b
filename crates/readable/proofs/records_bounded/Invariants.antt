-- `readable::records_bounded` meets its contract: the loop keeps `Scanned`. Assumes nothing.
use Prim.Native.Nat.{◌*◌}
use Rattle.readable.specs.Readable.{bounded}
use Rattle.readable.proofs.Loops.{Scanned}
use Rattle.readable.proofs.records_bounded.Given as goal

abbrev pub invariant-loop-i : goal.invariant-loop-i
invariant-loop-i l = Scanned (λ list j. bounded list j l.maxima) l.stride l.b l.at l.count (2 * l.i)
