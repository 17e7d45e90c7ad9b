-- `records::is_accepted` meets its contract: the walks decide. Assumes nothing.
use Rattle.records.proofs.Decided.{all_decided, none_accepted}
use Rattle.records.proofs.is_accepted.Goals as goal

pub returns-then-are_in_time : goal.returns-then-are_in_time
returns-then-are_in_time c = search all_decided

pub returns-then-n-eq0 : goal.returns-then-n-eq0
returns-then-n-eq0 c = none_accepted _ _ c.if-n-eq0.true
