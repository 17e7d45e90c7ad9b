-- `cut::passes::try_lines` meets its contract: one line, or two halves. Its measure is how many lines there are. Assumes nothing.
use Prim.Native.Nat.{◌-◌}
use Rattle.cut.proofs.passes.+try_lines.Given as goal

abbrev pub decreases-try_lines : goal.decreases-try_lines
decreases-try_lines l = l.to - l.from
