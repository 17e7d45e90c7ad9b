-- `script::printing::write_line` meets its contract, piece by piece. Assumes nothing.
use Rattle.script.proofs.Lines.{key_room, line_appended, tag_room, thread_room, word_room}
use Rattle.script.proofs.printing.write_line.Goals as goal

pub number-requires-2 : goal.number-requires-2
number-requires-2 c = thread_room _ c.requires _ c.number.ensures

pub push-requires : goal.push-requires
push-requires c = word_room _ c.requires _ c.number.ensures _ c.number-2.ensures _ _ c.word.ensures

pub number-requires-3 : goal.number-requires-3
number-requires-3 c =
    key_room _ c.requires _ c.number.ensures _ c.number-2.ensures _ _ c.word.ensures c.push.ensures

pub number-requires-4 : goal.number-requires-4
number-requires-4 c =
    tag_room _ c.requires _ c.number.ensures _ c.number-2.ensures _ _ c.word.ensures c.push.ensures _ c.key.ensures c.number-3.ensures

pub returns : goal.returns
returns c =
    line_appended _ c.requires _ c.number.ensures _ c.number-2.ensures _ _ c.word.ensures c.push.ensures _ c.key.ensures c.number-3.ensures
    _
    c.tag.ensures
    c.number-4.ensures
