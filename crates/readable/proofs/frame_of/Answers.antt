-- `readable::frame_of` meets its contract. Assumes nothing.
use mathlib.Core.Path.{subst, sym}
use Rattle.region.specs.Inner.{InRange}
use Rattle.readable.proofs.Laws.{readable_long, readable_shape}
use Rattle.readable.proofs.frame_of.Goals as goal

pub load_shape-requires : goal.load_shape-requires
load_shape-requires c = search readable_long

pub of-requires : goal.of-requires
of-requires c = subst InRange (sym c.load_shape.ensures) (readable_shape c.args.b.now c.requires)
