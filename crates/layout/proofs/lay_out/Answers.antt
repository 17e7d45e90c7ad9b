-- `layout::lay_out` meets its contract: what is not refused can be filled. Assumes nothing.
use Rattle.layout.proofs.Loops.{is_accepted}
use Rattle.layout.proofs.lay_out.Goals as goal

pub fill-requires : goal.fill-requires
fill-requires c = is_accepted _ _ _ _ _ c.layout_check.ensures (c.in_ok-layout_check.was {u = tt})
