-- `turns::free_turn` meets its contract. Assumes nothing.
use Rattle.turns.proofs.Ways.{ended}
use Rattle.turns.proofs.free_turn.Goals as goal

pub returns-clause-turn : goal.returns-clause-turn
returns-clause-turn g c =
    ended _ _ _ _ _ c.view.ensures.bytes c.view.ensures.frame _ c.thread-t.ensures _ c.decide-plan.ensures _ _ c.end.ensures.turn
