-- `script::numbers::digits_then` meets its contract: the digits that are left, with the value so far, give the whole. Assumes nothing.
use Rattle.script.proofs.Decimals.{Reading}
use Rattle.script.proofs.numbers.digits_then.Given as goal

abbrev pub invariant-loop-k : goal.invariant-loop-k
invariant-loop-k l = Reading l.s l.at l.end l.k l.value
