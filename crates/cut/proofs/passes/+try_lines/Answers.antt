-- `cut::passes::try_lines` meets its contract: one line, or two halves. Its measure is how many lines there are. Assumes nothing.
use native.Mathlib.Omega.{arith}
use mathlib.Core.Path.{refl}
use Rattle.cut.proofs.LinesTrying.{first_half_able, halves_tried, one_able, one_tried, second_able, shown_able, shown_tried}
use Rattle.cut.proofs.passes.+try_lines.Goals as goal

pub try_line-requires : goal.try_line-requires
try_line-requires t c = search one_able

pub returns-then-to-from-eq1 : goal.returns-then-to-from-eq1
returns-then-to-from-eq1 t c = search one_tried

pub try_lines-requires : goal.try_lines-requires
try_lines-requires t c = (
  omega arith,
  shown_able c.requires c.if-to-from-eq1.false _ refl _ _ c.run_half.ensures
      c.run_half.auto.states,
)

pub returns-then-run_half : goal.returns-then-run_half
returns-then-run_half t c = search shown_tried

pub try_lines-left-requires : goal.try_lines-left-requires
try_lines-left-requires t c = (
  omega arith,
  second_able c.requires c.if-to-from-eq1.false _ refl _ _ c.run_half.ensures
      c.run_half.auto.states c.if-run_half.false,
)

pub try_lines-requires-2 : goal.try_lines-requires-2
try_lines-requires-2 t c = (
  omega arith,
  first_half_able c.requires c.if-to-from-eq1.false _ refl _ _ c.run_half.ensures
      c.run_half.auto.states c.if-run_half.false _ _ c.try_lines-left.ensures c.try_lines-left.auto.lines
      c.try_lines-left.new.states c.try_lines-left.auto.states,
)

pub returns : goal.returns
returns t c = search halves_tried
