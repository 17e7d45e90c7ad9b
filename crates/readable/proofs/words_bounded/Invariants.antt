-- `readable::words_bounded` meets its contract: the loop keeps `Passed`. Assumes nothing.
use Rattle.readable.proofs.Loops.{Passed}
use Rattle.readable.proofs.words_bounded.Given as goal

abbrev pub invariant-loop-i : goal.invariant-loop-i
invariant-loop-i l = Passed l.b l.at l.maxima l.i
