-- The places of a put of v, I1 to I8 (document 01, The sixteen places; Listing 1, insert and findInsertPoint, lines 2 to 20). v is the
-- thread's item. Each answers a plan from the shape, shared memory and the thread's record.
use Rattle.std.specs.Prelude.{ℕ, ◌+◌, ◌-◌, ◌/◌, ◌%◌, ◌^◌, min, Bool, ◌&&◌, ◌||◌, ltb, eqb}
use Rattle.region.specs.declared.refusal.Refusal.TheVariants.{Unreadable, CounterSpent}
use Rattle.region.specs.Level.{ancestor, level}
use Rattle.region.specs.Pick.{pick}
use Rattle.region.specs.Shape.{between}
use Rattle.region.specs.Shared.{Shared}
use Rattle.region.specs.Thread.{at_place, gone_idle, with_depth, with_search, with_node, with_first, with_second}
use Rattle.region.specs.declared.answer.Answer.TheVariants.{Moved, Inserted}
use Rattle.region.specs.declared.place.Place.{Place}
use Rattle.region.specs.declared.place.Place.TheVariants.{ReadDepth, ReadLeaf, ReadAncestor, GrowDepth, ReadTarget, InsertAtRoot, ReadParent, InsertBelow}
use Rattle.region.specs.declared.record.NodeCopy.{NodeCopy}
use Rattle.region.specs.declared.shape.Shape.{Shape}
use Rattle.region.specs.declared.thread.Search.{Search}
use Rattle.region.specs.declared.thread.Thread.{Thread}
use Rattle.access.specs.Order.{item_le, item_lt, value_of}
use Rattle.access.specs.Plan.{plan, on_to, refused}
use Rattle.access.specs.Read.{is_level, is_spent, read_node, same_node, updated}
use Rattle.access.specs.declared.effect.Effect.TheVariants.{Grow, Push}
use Rattle.access.specs.declared.plan.Plan.{Plan}

abbrev pub searching : ℕ → ℕ → ℕ → ℕ → Search
searching leaf tries lo hi = record { leaf = leaf; tries = tries; lo = lo; hi = hi }

-- I1 "READ depth into d, tries 0; to I2." (line 15)
unfoldable pub read_depth : Shared → Thread → Plan
read_depth m t =
    on_to (with_search (with_depth t m.depth) (searching t.search_state.leaf 0 t.search_state.lo t.search_state.hi)) ReadLeaf

-- "Search: while lo < hi, I3 .. Then node = ancestor at hi; to I5." t has its new lo and hi; a level that the leaf does not have is
-- refused 7 (line 18)
unfoldable pub search_on : Thread → Plan
search_on t =
    pick
    (ltb t.search_state.lo t.search_state.hi)
    (on_to t ReadAncestor)
    (pick
    (between 1 t.search_state.hi (level t.search_state.leaf))
    (on_to (with_node t (ancestor t.search_state.leaf t.search_state.hi)) ReadTarget)
    (refused t Unreadable))

-- "leaf = 2^(d−1) + (choice mod 2^(d−1))" (lines 17 and 20)
unfoldable pub leaf_of : ℕ → ℕ → ℕ
leaf_of d choice = 2 ^ (d - 1) + choice % 2 ^ (d - 1)

-- "Level j holds nodes 2^(j−1) to 2^j − 1"
unfoldable pub is_leaf_of : ℕ → ℕ → Bool
is_leaf_of d leaf = between (2 ^ (d - 1)) leaf (2 ^ d - 1)

-- "The leaf word already tells whether there was such a try" (request 8), one with d at D: it then is a leaf of level D
unfoldable pub has_tried_deepest : Shape → Thread → Bool
unfolding is_leaf_of
has_tried_deepest s t = eqb t.depth s.depth && is_leaf_of t.depth t.search_state.leaf

-- "the choice counts only at the first try since the put began at which d was D" (request 8); with d below D it always counts
unfoldable pub leaf_to_read : Shape → Thread → ℕ → ℕ
unfolding leaf_of has_tried_deepest
leaf_to_read s t choice = pick (has_tried_deepest s t) t.search_state.leaf (leaf_of t.depth choice)

-- "the next leaf (after the last, the first)" of level d
unfoldable pub next_leaf : ℕ → ℕ → ℕ
next_leaf d leaf = pick (ltb leaf (2 ^ d - 1)) (leaf + 1) (2 ^ (d - 1))

-- "each failed try at D puts the next leaf .. in the leaf word for the next try" (request 8); one with d below D, the leaf that it read
unfoldable pub leaf_after_failed_try : Shape → Thread → ℕ → ℕ
unfolding next_leaf
leaf_after_failed_try s t leaf = pick (eqb t.depth s.depth) (next_leaf t.depth leaf) leaf

-- "tries + 1", which at I2 is at most H
unfoldable pub next_tries : Shape → Thread → ℕ
next_tries s t = min (t.search_state.tries + 1) s.threshold

-- "Else tries + 1; at H go to I4 if d < D, else I1; below H stay." (lines 16 and 19)
unfoldable pub failed_place : Shape → Thread → Place
unfolding next_tries
failed_place s t = pick (ltb (next_tries s t) s.threshold) ReadLeaf (pick (ltb t.depth s.depth) GrowDepth ReadDepth)

unfoldable pub after_failed_try : Shape → Thread → ℕ → NodeCopy → Plan
unfolding leaf_after_failed_try next_tries failed_place
after_failed_try s t leaf q =
    on_to
    (with_first (with_search t (searching (leaf_after_failed_try s t leaf) (next_tries s t) t.search_state.lo t.search_state.hi)) q)
    (failed_place s t)

-- "If val ≥ v: lo 1, hi d, search."
unfoldable pub after_leaf_read : Shape → Thread → ℕ → NodeCopy → Plan
unfolding search_on after_failed_try
after_leaf_read s t leaf q =
    pick
    (item_le t.item (value_of q))
    (search_on (with_first (with_search t (searching leaf t.search_state.tries 1 t.depth)) q))
    (after_failed_try s t leaf q)

-- I2 (lines 16 to 20); d outside 1..D is refused 7
unfoldable pub read_leaf : Shape → Shared → Thread → ℕ → Plan
unfolding leaf_to_read after_leaf_read
read_leaf s m t choice =
    pick
    (is_level s t.depth)
    (after_leaf_read s t (leaf_to_read s t choice) (read_node m (leaf_to_read s t choice)))
    (refused t Unreadable)

-- "val ≥ v sets hi to it, else lo to it + 1."
unfoldable pub after_ancestor_read : Thread → ℕ → NodeCopy → Plan
unfolding search_on
after_ancestor_read t middle q =
    search_on
    (with_first
    (with_search t
    (pick
    (item_le t.item (value_of q))
    (searching t.search_state.leaf t.search_state.tries t.search_state.lo middle)
    (searching t.search_state.leaf t.search_state.tries (middle + 1) t.search_state.hi)))
    q)

-- "level floor((lo+hi)/2)"
unfoldable pub middle_level : Thread → ℕ
middle_level t = (t.search_state.lo + t.search_state.hi) / 2

-- lo is below hi, and the level halfway is one that the leaf has, 1 to its own level; leaf 0 has none
unfoldable pub has_middle : Thread → Bool
unfolding middle_level
has_middle t = ltb t.search_state.lo t.search_state.hi && between 1 (middle_level t) (level t.search_state.leaf)

-- I3 "READs the leaf's ancestor at level floor((lo+hi)/2)" (line 18); lo not below hi, no leaf, or no such level is refused 7
unfoldable pub read_ancestor : Shared → Thread → Plan
unfolding middle_level has_middle after_ancestor_read
read_ancestor m t =
    pick
    (has_middle t)
    (after_ancestor_read t (middle_level t) (read_node m (ancestor t.search_state.leaf (middle_level t))))
    (refused t Unreadable)

-- I4 "CAS depth from d to d + 1; to I1 either way." (line 19); refused 7 where d or d + 1 is no level
unfoldable pub grow_depth : Shape → Shared → Thread → Plan
grow_depth s m t =
    pick
    (is_level s t.depth && is_level s (t.depth + 1))
    (pick (eqb m.depth t.depth) (plan (Grow (t.depth + 1)) (at_place t ReadDepth) Moved) (on_to t ReadDepth))
    (refused t Unreadable)

-- "val < v: I1. Root: I6. Else I7."
unfoldable pub target_place : Thread → NodeCopy → Place
target_place t q =
    pick (item_lt (value_of q) t.item) ReadDepth (pick (eqb t.node 1) InsertAtRoot ReadParent)

-- I5 "READ node." (lines 4 and 5); node 0 is refused 7
unfoldable pub read_target : Shared → Thread → Plan
unfolding target_place
read_target m t =
    pick
    (eqb t.node 0)
    (refused t Unreadable)
    (on_to (with_first t (read_node m t.node)) (target_place t (read_node m t.node)))

-- the update of I6 and I8 at node n; `holds` says whether its comparison held: "own cell as new head. Failure: I1.", "A put keeps the dirty bit
-- it found." (lines 6, 8 and 12)
unfoldable pub insert_at : Thread → ℕ → Bool → Plan
insert_at t n holds =
    pick
    holds
    (pick
    (is_spent t.copies.first.node)
    (refused t CounterSpent)
    (plan
    (Push n (updated t.copies.first.node t.own t.copies.first.node.dirty) t.own t.copies.first.node.first)
    (gone_idle t)
    Inserted))
    (on_to t ReadDepth)

-- I6 "CAS root" (line 8); own cell 0 is refused 7
unfoldable pub insert_at_root : Shared → Thread → Plan
unfolding insert_at
insert_at_root m t =
    pick
    (eqb t.own 0)
    (refused t Unreadable)
    (insert_at t 1 (same_node (m.node 1) t.copies.first.node))

-- I7 "READ parent. val > v: I1. Else I8." (lines 10 and 11); node 0 or 1 is refused 7
unfoldable pub read_parent : Shared → Thread → Plan
read_parent m t =
    pick
    (ltb t.node 2)
    (refused t Unreadable)
    (on_to
    (with_second t (read_node m (t.node / 2)))
    (pick (item_lt t.item (value_of (read_node m (t.node / 2)))) ReadDepth InsertBelow))

-- "if parent also equals its copy"
unfoldable pub node_and_parent_same : Shared → Thread → Bool
node_and_parent_same m t =
    same_node (m.node t.node) t.copies.first.node && same_node (m.node (t.node / 2)) t.copies.second.node

-- I8 "DCSS: node as I6, if parent also equals its copy. Failure: I1." (line 12); node 0 or 1 or own cell 0 is refused 7
unfoldable pub insert_below : Shared → Thread → Plan
unfolding insert_at node_and_parent_same
insert_below m t =
    pick (ltb t.node 2 || eqb t.own 0) (refused t Unreadable) (insert_at t t.node (node_and_parent_same m t))
