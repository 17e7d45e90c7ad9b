-- Items, nodes, cells and node copies as words, in the order in which they stand in a region.
use Rattle.std.specs.Prelude.{ℕ, zero, suc, ◌+◌, ◌*◌, Bool, ◌&&◌, List, [], ◌∷◌, ◌++◌, leb, eqb, get_or}
use Rattle.words.specs.Word.{words_at, set_words}
use Rattle.region.specs.declared.record.Item.{Item}
use Rattle.region.specs.declared.record.Node.{Node}
use Rattle.region.specs.declared.record.Cell.{Cell}
use Rattle.region.specs.declared.record.NodeCopy.{NodeCopy}

-- keys are 0 to 4,294,967,294, tags 0 to 65,535
abbrev pub greatest_key : ℕ
greatest_key = 4294967294

abbrev pub greatest_tag : ℕ
greatest_tag = 65535

-- an item's key and tag are in range
unfoldable pub is_item : Item → Bool
is_item i = leb i.key greatest_key && leb i.tag greatest_tag

-- an item is a key with a tag
unfoldable pub same_item : Item → Item → Bool
same_item i j = eqb i.key j.key && eqb i.tag j.tag

-- Counters in nodes and in node copies have two words, low first: how many words a counter has. In regions of the
-- earlier form it has one. Sizes and readings of records take this number, w, so that there is one definition for both forms.
abbrev pub counter_size : ℕ
counter_size = 2

abbrev pub old_counter_size : ℕ
old_counter_size = 1

-- the number that a node's counter is
unfoldable pub counter_of : Node → ℕ
counter_of n = n.low + 4294967296 * n.high

-- the last value of a counter, at which refusal 11 stands: 2^64 − 1
abbrev pub greatest_counter : ℕ
greatest_counter = 18446744073709551615

-- a node (three words where counters have one), a cell (key, tag, next cell) and a node copy (six words where counters have one): how many
-- words each has
abbrev pub node_size : ℕ → ℕ
node_size w = 2 + w

abbrev pub cell_size : ℕ
cell_size = 3

abbrev pub copy_size : ℕ → ℕ
copy_size w = node_size w + cell_size

-- the item, node, cell or node copy whose words stand in ws from index k on
abbrev pub item_of : List ℕ → ℕ → Item
item_of ws k = record { key = get_or ws k 0; tag = get_or ws (k + 1) 0 }

-- the high word of a counter whose words start at index k: a counter of one word has none
abbrev pub high_of : ℕ → List ℕ → ℕ → ℕ
high_of zero ws k = 0
high_of (suc zero) ws k = 0
high_of (suc (suc w)) ws k = get_or ws (k + 1) 0

abbrev pub node_of : ℕ → List ℕ → ℕ → Node
node_of w ws k = record { first = get_or ws k 0; dirty = get_or ws (k + 1) 0; low = get_or ws (k + 2) 0; high = high_of w ws (k + 2) }

abbrev pub cell_of : List ℕ → ℕ → Cell
cell_of ws k = record { item = item_of ws k; next = get_or ws (k + 2) 0 }

abbrev pub copy_of : ℕ → List ℕ → ℕ → NodeCopy
copy_of w ws k = record { node = node_of w ws k; head = cell_of ws (k + node_size w) }

-- the words of a counter, low first
abbrev pub counter_words : ℕ → Node → List ℕ
counter_words zero n = []
counter_words (suc zero) n = n.low ∷ []
counter_words (suc (suc w)) n = n.low ∷ n.high ∷ []

-- first cell (0 for none), dirty (0 or 1), counter
abbrev pub node_words : ℕ → Node → List ℕ
node_words w n = n.first ∷ n.dirty ∷ counter_words w n

-- key, tag, next cell (0 ends)
abbrev pub cell_words : Cell → List ℕ
cell_words c = c.item.key ∷ c.item.tag ∷ c.next ∷ []

-- first cell, dirty, counter, head's key, head's tag, head's next
abbrev pub copy_words : ℕ → NodeCopy → List ℕ
copy_words w q = node_words w q.node ++ cell_words q.head

-- empty, clean, counter 0
abbrev pub empty_node : Node
empty_node = record { first = 0; dirty = 0; low = 0; high = 0 }

abbrev pub zero_item : Item
zero_item = record { key = 0; tag = 0 }

abbrev pub zero_cell : Cell
zero_cell = record { item = zero_item; next = 0 }

abbrev pub zero_copy : NodeCopy
zero_copy = record { node = empty_node; head = zero_cell }

-- the node, the cell and the node copy at word `at` of the bytes b, and b with another one there
unfoldable pub node_at : ℕ → List ℕ → ℕ → Node
node_at w b at = node_of w (words_at b at (node_size w)) 0

unfoldable pub set_node_at : ℕ → List ℕ → ℕ → Node → List ℕ
set_node_at w b at n = set_words b at (node_words w n)

unfoldable pub cell_at : List ℕ → ℕ → Cell
cell_at b at = cell_of (words_at b at cell_size) 0

unfoldable pub set_cell_at : List ℕ → ℕ → Cell → List ℕ
set_cell_at b at c = set_words b at (cell_words c)

unfoldable pub copy_at : ℕ → List ℕ → ℕ → NodeCopy
copy_at w b at = copy_of w (words_at b at (copy_size w)) 0

unfoldable pub set_copy_at : ℕ → List ℕ → ℕ → NodeCopy → List ℕ
set_copy_at w b at q = set_words b at (copy_words w q)
