-- `cut::cutting::write_lines` meets its contract: the loop keeps `Writing`. Assumes nothing.
use Rattle.cut.proofs.Written.{text_room, write_end, write_more, write_start}
use Rattle.cut.proofs.cutting.write_lines.Goals as goal

pub loop-line-init : goal.loop-line-init
loop-line-init c = search write_start

pub push-requires : goal.push-requires
push-requires c = search text_room

pub loop-line-preserved : goal.loop-line-preserved
loop-line-preserved c = search write_more

pub returns : goal.returns
returns c = search write_end
