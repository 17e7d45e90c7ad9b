-- "The tree holds of each item as many copies as there are cells with that key and tag in the lists of nodes 1 to 2^D − 1, each list from
-- its first cell by next cells to 0, at most C of them."
use Rattle.std.specs.Prelude.{ℕ, zero, suc, ◌+◌, Bool, List, [], ◌∷◌, eqb}
use Rattle.region.specs.Pick.{pick}
use Rattle.region.specs.Shared.{Shared}
use Rattle.region.specs.declared.record.Cell.{Cell}
use Rattle.region.specs.declared.record.Item.{Item}

-- a cell of a list, with its item
pub record Listed : Type 0 where
  pub cell : ℕ
  pub item : Item

-- the list from cell c on, by next cells to 0, at most n of them
unfoldable pub list_from : (ℕ → Cell) → ℕ → ℕ → List Listed
list_from cell zero c = []
list_from cell (suc n) c = pick (eqb c 0) [] (record { cell = c; item = (cell c).item } ∷ list_from cell n (cell c).next)

-- the items of a list, in its order
unfoldable pub items_of : List Listed → List Item
items_of [] = []
items_of (x ∷ xs) = x.item ∷ items_of xs

-- how many items of a list pass the test
unfoldable pub passing : (Item → Bool) → List Listed → ℕ
passing test [] = 0
passing test (x ∷ xs) = pick (test x.item) 1 0 + passing test xs

-- the cells whose item passes the test, among at most n cells from cell c on
unfoldable pub in_list : Shared → (Item → Bool) → ℕ → ℕ → ℕ
unfolding list_from passing
in_list m test n c = passing test (list_from m.cell n c)

-- the same in the lists of nodes 1 to n, with at most l cells each
unfoldable pub in_nodes : Shared → (Item → Bool) → ℕ → ℕ → ℕ
unfolding in_list
in_nodes m test l zero = 0
in_nodes m test l (suc n) = in_nodes m test l n + in_list m test l (m.node (suc n)).first
