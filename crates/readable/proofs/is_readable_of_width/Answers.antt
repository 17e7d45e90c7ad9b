-- `readable::is_readable_of_width` meets its contract: a region that is not whole is not readable, else the fields decide. Assumes nothing.
use Rattle.readable.proofs.Loops.{fields_within, long_enough, not_whole, readable_rest, shape_in_range}
use Rattle.readable.proofs.is_readable_of_width.Goals as goal

pub returns-then-not-is_whole : goal.returns-then-not-is_whole
returns-then-not-is_whole g c = search (not_whole c.requires)

pub load_shape-requires : goal.load_shape-requires
load_shape-requires g c = search (long_enough c.requires)

pub of_width-requires-clause-range : goal.of_width-requires-clause-range
of_width-requires-clause-range g c = search (shape_in_range c.requires)

pub fields_readable-requires : goal.fields_readable-requires
fields_readable-requires g c = search (fields_within c.requires)

pub returns : goal.returns
returns g c = search (readable_rest c.requires)
