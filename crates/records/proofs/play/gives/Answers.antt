-- `records::play::gives` meets its contract. Assumes nothing.
use Rattle.records.proofs.InHeap.{empty_played, no_kind, none_played, other_played, put_played, take_played}
use Rattle.records.proofs.play.gives.Goals as goal

pub returns-in-Ok-Put : goal.returns-in-Ok-Put
returns-in-Ok-Put c = let kind = rw c.in-Ok-Put.field-0-is at c.in-Ok-Put.ensures in search put_played

pub returns-in_default : goal.returns-in_default
returns-in_default c =
    let kind = rw c.in-Ok-Take.field-0-is at c.in-Ok-Take.ensures in
    none_played c.requires.ranged kind c.pack-x.ensures c.in_default.ensures

pub returns-then-least-x : goal.returns-then-least-x
returns-then-least-x c =
    let kind = rw c.in-Ok-Take.field-0-is at c.in-Ok-Take.ensures in
    other_played c.requires.ranged kind c.pack-x.ensures c.in-Some.ensures c.if-least-x.true

pub returns-else-least-x : goal.returns-else-least-x
returns-else-least-x c =
    let kind = rw c.in-Ok-Take.field-0-is at c.in-Ok-Take.ensures in
    take_played c.requires.ranged kind c.pack-x.ensures c.in-Some.ensures c.if-least-x.false c.pop.ensures.popped c.pop.ensures.size

pub returns-in-Ok-Empty : goal.returns-in-Ok-Empty
returns-in-Ok-Empty c = let kind = rw c.in-Ok-Empty.field-0-is at c.in-Ok-Empty.ensures in search empty_played

pub returns-in-Err : goal.returns-in-Err
returns-in-Err c = no_kind c.requires.ranged c.in-Err.ensures
