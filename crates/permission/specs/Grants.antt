-- What a permission grants (document 01, The region): "bit 0 put, bit 1 take; 0 is the empty list and grants nothing".
use Rattle.std.specs.Prelude.{◌/◌, ◌%◌, Bool, eqb}
use Rattle.region.specs.declared.thread.Thread.{Thread}

unfoldable pub may_put : Thread → Bool
may_put t = eqb (t.permission % 2) 1

unfoldable pub may_take : Thread → Bool
may_take t = eqb (t.permission / 2 % 2) 1
