-- `insert::read_leaf` meets its contract: what is read is a leaf of the thread's depth. Assumes nothing.
use Rattle.insert.proofs.Ways.{level_some, level_few, read_tested}
use Rattle.insert.proofs.read_leaf.Goals as goal

pub after_leaf_read-requires : goal.after_leaf_read-requires
after_leaf_read-requires c = (search level_some, search level_few, search read_tested)
