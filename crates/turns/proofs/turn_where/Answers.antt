-- `turns::turn_where` meets its contract: the turn is withheld, or ends with its plan. Assumes nothing.
use Rattle.turns.proofs.Ways.{looked, withheld}
use Rattle.turns.proofs.turn_where.Goals as goal

pub returns-then-is_withheld-clause-turn : goal.returns-then-is_withheld-clause-turn
returns-then-is_withheld-clause-turn g c =
    withheld _ _ _ _ _ c.view.ensures.bytes c.view.ensures.frame _ c.thread-t.ensures _ c.decide-plan.ensures _ _ c.is_withheld.ensures c.if-is_withheld.true

pub returns-clause-turn : goal.returns-clause-turn
returns-clause-turn g c =
    looked _ _ _ _ _ c.view.ensures.bytes c.view.ensures.frame _ c.thread-t.ensures _ c.decide-plan.ensures _ _ c.is_withheld.ensures c.if-is_withheld.false _ _ c.end.ensures.turn
