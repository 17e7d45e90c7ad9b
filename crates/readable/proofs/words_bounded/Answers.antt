-- `readable::words_bounded` meets its contract: the loop keeps `Passed`. Assumes nothing.
use Rattle.readable.proofs.Loops.{pass_more, pass_bad, pass_end}
use Rattle.readable.proofs.words_bounded.Goals as goal

pub returns-then-maxima-i : goal.returns-then-maxima-i
returns-then-maxima-i c = pass_bad c.loop-i.invariant _ c.loop-i-test.true c.load_word.ensures c.if-maxima-i.true

pub loop-i-preserved : goal.loop-i-preserved
loop-i-preserved c = pass_more c.loop-i.invariant _ c.loop-i-test.true c.load_word.ensures c.if-maxima-i.false

pub returns : goal.returns
returns c = search pass_end
