-- `readable::nodes_readable` meets its contract: a node's first words decide. Assumes nothing.
use native.Mathlib.Omega.{arith}
use mathlib.Core.Path.{ap, ◌∙◌}
use Rattle.readable.specs.Readable.{all_records, bounded}
use Rattle.readable.proofs.Loops.{nodes_decide}
use Rattle.readable.proofs.nodes_readable.Goals as goal

pub returns : goal.returns
returns g c =
    nodes_decide c.args.frame c.args.b.now c.requires _ _ (λ i. omega (arith, c.shared_slice_known-1.given i)) c.node_size-size.ensures _ c.node_count.ensures
    (c.records_bounded.ensures
    ∙ ap (λ ms. all_records (λ l k. bounded l k ms) c.node_size-size.result c.args.b.now c.args.frame.nodes c.node_count.result) c.node_maxima.ensures)
