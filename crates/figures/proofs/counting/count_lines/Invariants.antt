-- `figures::counting::count_lines` meets its contract: the loop keeps `Counting`. Assumes nothing.
use Prim.Native.Nat.{◌-◌}
use lib.ListN.{length}
use Rattle.figures.proofs.TurnsCounted.{Counting}
use Rattle.figures.proofs.counting.count_lines.Given as goal

abbrev pub invariant-loop-at : goal.invariant-loop-at
invariant-loop-at l = Counting l.f l.input l.start l.initial.region l.initial.table l.initial.total l.at l.region l.table l.total

abbrev pub decreases-loop-at : goal.decreases-loop-at
decreases-loop-at l = length l.input - l.at
