-- `cut::trials::run_lines` meets its contract: the loop keeps `Trying`. Assumes nothing.
use Prim.Native.Nat.{◌-◌}
use lib.ListN.{length}
use Rattle.cut.proofs.LinesRun.{Trying}
use Rattle.cut.proofs.trials.run_lines.Given as goal

abbrev pub invariant-loop-k : goal.invariant-loop-k
invariant-loop-k l = Trying l.number l.f l.lines l.initial.region l.region l.schedule l.k

abbrev pub decreases-loop-k : goal.decreases-loop-k
decreases-loop-k l = length l.lines - l.k
