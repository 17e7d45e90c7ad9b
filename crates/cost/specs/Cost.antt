-- How many accesses a take of one item costs, all nodes being clean and no other thread moving (document 02, request 3): a figure of shared
-- memory as it stands before the take, so that a planner can compute it beforehand. That a take makes exactly this many is said in
-- crates/bag/specs/TakeCost.antt.
use Rattle.std.specs.Prelude.{ℕ, zero, suc, ◌+◌, ◌-◌, ◌*◌, eqb, ltb}
use Rattle.region.specs.Pick.{pick}
use Rattle.region.specs.Shared.{Shared, set_node}
use Rattle.region.specs.declared.record.Item.{Item}
use Rattle.access.specs.Order.{item_le, val}
use Rattle.access.specs.Read.{updated}
use Rattle.moundify.specs.Moundify.{less_below}

-- M5's child: "left child if left val ≤ right val, else right"
unfoldable pub lesser_child : (ℕ → Item) → ℕ → ℕ
lesser_child value n = pick (item_le (value (2 * n)) (value (2 * n + 1))) (2 * n) (2 * n + 1)

-- the levels that a list of value v goes down from node n, at most k: each time to the lesser child, where M4's test finds one that is less
unfoldable pub levels_down : (ℕ → Item) → Item → ℕ → ℕ → ℕ
unfolding lesser_child
levels_down value v zero n = 0
levels_down value v (suc k) n =
    pick
    (less_below v (value (2 * n)) (value (2 * n + 1)))
    (1 + levels_down value v k (lesser_child value n))
    0

-- the root's list without its head, as E2 leaves it: its value is that of the second cell, or above every item where there is none
unfoldable pub without_head : Shared → Shared
without_head m = set_node m 1 (updated (m.node 1) (m.cell (m.node 1).first).next 1)

-- the level at which that list comes to rest: from the root, which is level 1, at most to the present depth
unfoldable pub rest_level : Shared → ℕ
unfolding levels_down without_head
rest_level m = 1 + levels_down (val m) (val (without_head m) 1) (m.depth - 1) 1

-- "5 × j + 2 if its last mending leaves the list at level j above d, and 5 × d if it reaches level d"
unfoldable pub cost_of_level : ℕ → ℕ → ℕ
cost_of_level d j = pick (ltb j d) (5 * j + 2) (5 * d)

-- "exactly 1 access if empty", else by the level
unfoldable pub take_cost : Shared → ℕ
unfolding rest_level cost_of_level
take_cost m = pick (eqb (m.node 1).first 0) 1 (cost_of_level m.depth (rest_level m))
