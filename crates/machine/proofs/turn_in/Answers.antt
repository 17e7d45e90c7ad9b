-- `machine::turn_in` meets its contract: refused without a thread, or a turn at its place, and its withdrawal where that is asked for. Assumes
-- nothing.
use Rattle.machine.proofs.Ways.{no_turn, stands, turn_ended, turn_withdrawn}
use Rattle.machine.proofs.turn_in.Goals as goal

pub returns-then-not-is_between-clause-turn : goal.returns-then-not-is_between-clause-turn
returns-then-not-is_between-clause-turn c = search no_turn

pub turn_at-answer-requires : goal.turn_at-answer-requires
turn_at-answer-requires c = search stands

pub returns-then-is_withdrawn-clause-turn : goal.returns-then-is_withdrawn-clause-turn
returns-then-is_withdrawn-clause-turn c = search turn_withdrawn

pub returns-clause-turn : goal.returns-clause-turn
returns-clause-turn c = search turn_ended
