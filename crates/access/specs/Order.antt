-- The order of items (document 02, request 2). Every comparison of values goes through `item_le`; the theory uses only its laws
-- (proofs/OrderLaws.antt): it is a total order, and the value of an empty node is above every item.
use Rattle.std.specs.Prelude.{ℕ, ◌+◌, Bool, not, leb, ltb, eqb}
use Rattle.region.specs.Pick.{pick}
use Rattle.region.specs.Record.{greatest_tag}
use Rattle.region.specs.Shared.{Shared}
use Rattle.region.specs.declared.record.Item.{Item}
use Rattle.region.specs.declared.record.NodeCopy.{NodeCopy}
use Rattle.access.specs.Read.{read_node}

-- "items compare by key, then tag" (request 2; document 01 had compared keys alone)
unfoldable pub item_le : Item → Item → Bool
item_le a b = pick (eqb a.key b.key) (leb a.tag b.tag) (ltb a.key b.key)

unfoldable pub item_lt : Item → Item → Bool
unfolding item_le
item_lt a b = not (item_le b a)

-- "The key of an empty node counts as 4,294,967,295." "an empty node is above every item" (request 2): its tag is one more than a cell can
-- hold, so it is above a stored key of 4,294,967,295 too.
abbrev pub top_item : Item
top_item = record { key = 4294967295; tag = greatest_tag + 1 }

-- "val is the head's key" (line 1 of Listing 1); "Every place that compares keys now compares items" (request 2): the head's item
unfoldable pub value_of : NodeCopy → Item
value_of q = pick (eqb q.node.first 0) top_item q.head.item

-- val of node n, as a READ finds it
abbrev pub val : Shared → ℕ → Item
val m n = value_of (read_node m n)
