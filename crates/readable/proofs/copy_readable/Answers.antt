-- `readable::copy_readable` meets its contract: a node, and a cell behind it. Assumes nothing.
use Prim.Native.Nat.{◌+◌}
use native.Mathlib.Omega.{arith}
use mathlib.Core.Path.{ap, ◌∙◌}
use Rattle.readable.specs.Readable.{bounded}
use Rattle.readable.proofs.Loops.{copy_test, first_decides, node_test, second_decides}
use Rattle.readable.proofs.copy_readable.Goals as goal

pub returns-then-words_bounded : goal.returns-then-words_bounded
returns-then-words_bounded g c =
    let a = c.args in
    second_decides (copy_test c.requires.width a.cells a.b.now a.at)
    (c.words_bounded.ensures ∙ ap (bounded a.b.now a.at) c.node_maxima.ensures
    ∙ node_test c.requires.width a.cells a.b.now (λ i. omega (arith, c.shared_slice_known-1.given i)) a.at)
    c.if-words_bounded.true
    (c.words_bounded-then-words_bounded.ensures ∙ (λ i. bounded a.b.now (a.at + c.node_size.ensures i) (c.cell_maxima.ensures i)))

pub returns-else-words_bounded : goal.returns-else-words_bounded
returns-else-words_bounded g c =
    let a = c.args in
    first_decides _ (copy_test c.requires.width a.cells a.b.now a.at)
    (c.words_bounded.ensures ∙ ap (bounded a.b.now a.at) c.node_maxima.ensures
    ∙ node_test c.requires.width a.cells a.b.now (λ i. omega (arith, c.shared_slice_known-1.given i)) a.at)
    c.if-words_bounded.false
