-- READ of a node, the comparison that CAS, DCAS and DCSS make, and the counter of updates.
use Rattle.std.specs.Prelude.{ℕ, ◌+◌, ◌/◌, ◌%◌, Bool, not, ◌&&◌, eqb}
use Rattle.region.specs.Record.{counter_of, greatest_counter}
use Rattle.region.specs.Shape.{between, node_count}
use Rattle.region.specs.Shared.{Shared}
use Rattle.region.specs.declared.record.Node.{Node}
use Rattle.region.specs.declared.record.NodeCopy.{NodeCopy}
use Rattle.region.specs.declared.shape.Shape.{Shape}

-- "READ of a node also copies its head cell's key, tag and next (0 if empty)": cell 0 reads as zero
unfoldable pub read_node : Shared → ℕ → NodeCopy
read_node m n = record { node = m.node n; head = m.cell (m.node n).first }

-- "a comparison takes cell, dirty and counter together"
unfoldable pub same_node : Node → Node → Bool
same_node a b = eqb a.first b.first && eqb a.dirty b.dirty && eqb a.low b.low && eqb a.high b.high

unfoldable pub is_dirty : Node → Bool
is_dirty n = not (eqb n.dirty 0)

-- "11: an update whose comparison holds meets a counter of" its last value "in a node it would change"; "Refusal 11 now stands at 2^64 − 1"
-- (document 02, request 7)
unfoldable pub is_spent : Node → Bool
unfolding counter_of
is_spent n = eqb (counter_of n) greatest_counter

-- "Each update adds 1 to the counter of every node it changes": the node with another list and mark; the low word carries into the high one
unfoldable pub updated : Node → ℕ → ℕ → Node
updated n first dirty =
    record {
      first = first;
      dirty = dirty;
      low = (n.low + 1) % 4294967296;
      high = n.high + (n.low + 1) / 4294967296;
    }

-- node n is in the tree, j is a level of it
unfoldable pub is_node : Shape → ℕ → Bool
unfolding between
is_node s n = between 1 n (node_count s)

unfoldable pub is_level : Shape → ℕ → Bool
unfolding between
is_level s j = between 1 j s.depth
