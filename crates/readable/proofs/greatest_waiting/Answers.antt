-- `readable::greatest_waiting` meets its contract. Assumes nothing.
use Rattle.readable.proofs.Loops.{not_mending, mending_none, mark_shift, mark_some, mending_marks}
use Rattle.readable.proofs.greatest_waiting.Goals as goal

pub returns-then-not-is_between : goal.returns-then-not-is_between
returns-then-not-is_between c = search not_mending

pub returns-then-level-eq0 : goal.returns-then-level-eq0
returns-then-level-eq0 c = search mending_none

pub overflow_shl-result : goal.overflow_shl-result
overflow_shl-result c = search mark_shift

pub overflow_sub-result-2 : goal.overflow_sub-result-2
overflow_sub-result-2 c = search mark_some

pub returns : goal.returns
returns c = search mending_marks
