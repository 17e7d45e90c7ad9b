-- `figures::report::report_scripts` meets its contract: the loop keeps `Reporting`. Assumes nothing.
use Prim.Native.Nat.{◌-◌}
use Rattle.figures.proofs.AllReported.{Reporting}
use Rattle.figures.proofs.report.report_scripts.Given as goal

abbrev pub invariant-loop-at : goal.invariant-loop-at
invariant-loop-at l = Reporting l.input l.initial.text l.total l.text l.at l.script

abbrev pub decreases-loop-at : goal.decreases-loop-at
decreases-loop-at l = 65 - l.script
