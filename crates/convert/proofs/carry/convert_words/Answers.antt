-- `convert::carry::convert_words` meets its contract: the parts one behind the other. Assumes nothing.
use native.Mathlib.Omega.{arith}
use mathlib.Core.Path.{refl}
use Rattle.region.specs.Inner.{one_word}
use Rattle.convert.proofs.Loops.{all_stored, cells_room, head_room, nodes_room, threads_room}
use Rattle.convert.proofs.carry.convert_words.Goals as goal

pub of_width-before-requires-clause-width : goal.of_width-before-requires-clause-width
of_width-before-requires-clause-width c = one_word

pub convert_head-requires : goal.convert_head-requires
convert_head-requires c = head_room _ _ _ c.requires

pub convert_nodes-requires : goal.convert_nodes-requires
convert_nodes-requires c = omega (arith, nodes_room _ _ _ c.requires _ _ c.of_width-before.ensures c.of-after.ensures _ c.node_count.ensures)

pub convert_cells-requires : goal.convert_cells-requires
convert_cells-requires c = omega (arith, cells_room _ _ _ c.requires _ _ c.of_width-before.ensures c.of-after.ensures _ refl)

pub convert_threads-requires : goal.convert_threads-requires
convert_threads-requires c = omega (arith, threads_room _ _ _ c.requires _ _ c.of_width-before.ensures c.of-after.ensures _ refl)

pub returns : goal.returns
returns c =
    all_stored _ _ _ _ _ _ _ _ _ _ _ _ c.of_width-before.ensures c.of-after.ensures
    c.node_count.ensures refl refl
    c.convert_head.ensures
    c.convert_nodes.ensures
    c.convert_cells.ensures c.convert_threads.ensures
