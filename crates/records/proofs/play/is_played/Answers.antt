-- `records::play::is_played` meets its contract: the loop keeps `Playing`. Assumes nothing.
use Rattle.records.proofs.Played.{play_end, play_more, play_start, play_stop}
use Rattle.records.proofs.play.is_played.Goals as goal

pub loop-k-init : goal.loop-k-init
loop-k-init c = rw c.new-bag.ensures (play_start _ _ _)

pub returns-then-not-gives : goal.returns-then-not-gives
returns-then-not-gives c = search play_stop

pub loop-k-preserved : goal.loop-k-preserved
loop-k-preserved c = search play_more

pub returns : goal.returns
returns c = search play_end
