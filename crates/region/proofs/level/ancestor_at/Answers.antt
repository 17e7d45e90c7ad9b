-- `region::level::ancestor_at` meets its contract: a level is at most 32. Assumes nothing.
use Rattle.std.proofs.Common.{arith}
use Rattle.region.proofs.Levels.{level_most}
use Rattle.region.proofs.level.ancestor_at.Goals as goal

pub overflow_shr-result : goal.overflow_shr-result
overflow_shr-result c = omega (arith, level_most c.args.n)
