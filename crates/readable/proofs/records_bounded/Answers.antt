-- `readable::records_bounded` meets its contract: the loop keeps `Scanned`. Assumes nothing.
use Rattle.readable.proofs.Loops.{last_decides, second_bad, two_more}
use Rattle.readable.proofs.records_bounded.Goals as goal

pub returns-then-not-words_bounded-2 : goal.returns-then-not-words_bounded-2
returns-then-not-words_bounded-2 c =
    second_bad c.loop-i.invariant c.loop-i-test.true _ c.words_bounded.ensures c.if-not-words_bounded.false _
    c.words_bounded-in-loop-i.ensures c.if-not-words_bounded-2.true

pub loop-i-preserved : goal.loop-i-preserved
loop-i-preserved c =
    two_more c.loop-i.invariant c.loop-i-test.true _ c.words_bounded.ensures c.if-not-words_bounded.false _
    c.words_bounded-in-loop-i.ensures c.if-not-words_bounded-2.false

pub returns : goal.returns
returns c = last_decides c.loop-i.invariant c.loop-i-test.false c.if-count-eq0.false _ c.words_bounded-2.ensures
