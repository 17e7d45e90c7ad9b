-- `machine::turn_on` meets its contract: the region is not readable, or the turn is made in its frame. Assumes nothing.
use Rattle.machine.proofs.Ways.{turn_unreadable, turn_within, turned_on}
use Rattle.machine.proofs.turn_on.Goals as goal

pub returns-then-not-is_readable : goal.returns-then-not-is_readable
returns-then-not-is_readable c = search turn_unreadable

pub turn-requires : goal.turn-requires
turn-requires c = search turn_within

pub returns : goal.returns
returns c = search turned_on
