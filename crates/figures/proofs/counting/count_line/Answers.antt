-- `figures::counting::count_line` meets its contract: the line makes a turn, or none. Assumes nothing.
use Rattle.figures.proofs.TurnsCounted.{no_turn, one_turn}
use Rattle.figures.proofs.counting.count_line.Goals as goal

pub returns-in-Turn : goal.returns-in-Turn
returns-in-Turn c = search one_turn

pub returns-in_default : goal.returns-in_default
returns-in_default c = no_turn _ _ _ _ _ c.in_default.not-Turn
