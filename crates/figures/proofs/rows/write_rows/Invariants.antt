-- `figures::rows::write_rows` meets its contract: the loop keeps `Rows`. Assumes nothing.
use Rattle.figures.proofs.Printed.{Rows}
use Rattle.figures.proofs.rows.write_rows.Given as goal

abbrev pub invariant-loop-k : goal.invariant-loop-k
invariant-loop-k l = Rows l.initial.text l.script l.rows l.text l.k
