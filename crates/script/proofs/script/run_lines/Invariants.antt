-- `script::script::run_lines` meets its contract: the loop keeps `Running`. Assumes nothing.
use Prim.Native.Nat.{◌-◌}
use lib.ListN.{length}
use Rattle.script.proofs.LineCalls.{Running}
use Rattle.script.proofs.script.run_lines.Given as goal

abbrev pub invariant-loop-at : goal.invariant-loop-at
invariant-loop-at l = Running l.f l.input l.start l.initial.region l.initial.text l.region l.text l.at l.line

abbrev pub decreases-loop-at : goal.decreases-loop-at
decreases-loop-at l = length l.input - l.at
