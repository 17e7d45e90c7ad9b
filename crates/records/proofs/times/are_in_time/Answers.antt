-- `records::times::are_in_time` meets its contract: the loop keeps `Timing`. Assumes nothing.
use Rattle.records.proofs.InTime.{not_ended, times_end, times_more, times_start, too_early}
use Rattle.records.proofs.times.are_in_time.Goals as goal

pub loop-k-init : goal.loop-k-init
loop-k-init c = times_start _ _

pub returns-then-r-latest : goal.returns-then-r-latest
returns-then-r-latest c = search too_early

pub returns-then-not-has_ended : goal.returns-then-not-has_ended
returns-then-not-has_ended c = search not_ended

pub loop-k-preserved : goal.loop-k-preserved
loop-k-preserved c = search times_more

pub returns : goal.returns
returns c = search times_end
