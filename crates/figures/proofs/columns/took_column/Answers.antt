-- `figures::columns::took_column` meets its contract: one item, the last of a list, or another. Assumes nothing.
use Rattle.figures.proofs.TurnColumns.{takes_one}
use Rattle.figures.proofs.columns.took_column.Goals as goal

pub returns-in_default : goal.returns-in_default
returns-in_default c = takes_one _ _ c.in_default.not-HandOut
