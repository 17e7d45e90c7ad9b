-- `moundify::mend_read_right` meets its contract: the node has children. Assumes nothing.
use Rattle.moundify.proofs.Ways.{has_children}
use Rattle.moundify.proofs.mend_read_right.Goals as goal

pub after_children_read-requires : goal.after_children_read-requires
after_children_read-requires c = search has_children
