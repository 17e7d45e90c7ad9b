-- `cut::passes::cut_lines` meets its contract: the loop keeps `Cutting`. Assumes nothing.
use Prim.Native.Nat.{◌-◌}
use lib.ListN.{length}
use Rattle.cut.proofs.LinesCutting.{Cutting}
use Rattle.cut.proofs.passes.cut_lines.Given as goal

abbrev pub invariant-loop-first : goal.invariant-loop-first
invariant-loop-first l = Cutting l.trial l.initial.lines l.initial.states l.lines l.states l.first

abbrev pub decreases-loop-first : goal.decreases-loop-first
decreases-loop-first l = length l.initial.lines - l.first
