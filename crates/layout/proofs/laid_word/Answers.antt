-- `layout::laid_word` meets its contract: what it asks of the words of cells and threads. Assumes nothing.
use native.Mathlib.Omega.{arith}
use Rattle.layout.proofs.Loops.{in_threads}
use Rattle.region.proofs.Shapes.{sizes}
use Rattle.layout.proofs.laid_word.Goals as goal

pub cell_word-requires : goal.cell_word-requires
cell_word-requires c =
    let shape = c.requires.shape in omega (arith, sizes c.args.frame.shape shape.depth_most, shape)

pub thread_word-requires : goal.thread_word-requires
thread_word-requires c = search in_threads
