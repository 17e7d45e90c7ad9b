-- Reading at most as many lines as there are bytes leaves no line out. Assumes nothing.
use native.Mathlib.Omega.{arith}
use lib.ListN.{length}
use Rattle.figures.specs.Theorems.{NoLineLeftOut}
use Rattle.figures.proofs.LinesRead.{enough}

pub no_line_left_out : NoLineLeftOut
no_line_left_out n s at h = enough n (length s) s at (omega arith) (omega arith)
