-- `figures::rows::write_columns` meets its contract: the loop keeps `Columns`. Assumes nothing.
use Rattle.figures.proofs.Printed.{Columns}
use Rattle.figures.proofs.rows.write_columns.Given as goal

abbrev pub invariant-loop-figure : goal.invariant-loop-figure
invariant-loop-figure l = Columns l.initial.text l.figures l.text l.figure-index
