-- `figures::columns::add_turn` meets its contract: three columns, one after the other. Assumes nothing.
use Rattle.figures.proofs.TurnColumns.{first_room, second_room, third_room, turn_counted}
use Rattle.figures.proofs.columns.add_turn.Goals as goal

pub add_one-requires : goal.add_one-requires
add_one-requires c = search first_room

pub add_one-requires-2 : goal.add_one-requires-2
add_one-requires-2 c = search second_room

pub add_one-requires-3 : goal.add_one-requires-3
add_one-requires-3 c = third_room c.requires _ _ c.add_one.ensures _ _ c.add_one-2.ensures

pub returns : goal.returns
returns c = search turn_counted
