-- `extract::cas_root` meets its contract, whatever is removed: the comparison failed, there is nothing to remove, the counter is spent, or what
-- is removed leaves. Assumes nothing.
use Rattle.extract.proofs.Ways.{no_head, root_changed, root_removes, root_spent}
use Rattle.extract.proofs.cas_root.Goals as goal

pub returns-then-not-same_node : goal.returns-then-not-same_node
returns-then-not-same_node g c p k = search root_changed

pub returns-then-q-eq0 : goal.returns-then-q-eq0
returns-then-q-eq0 g c p k = search no_head

pub returns-then-is_spent : goal.returns-then-is_spent
returns-then-is_spent g c p k = search root_spent

pub returns : goal.returns
returns g c p k = search (root_removes, k _ c.removed.ensures)
