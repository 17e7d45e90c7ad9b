-- The places of mending n, M1 to M6 (document 01, The sixteen places; Listing 1, moundify, lines 32 to 56). n is the thread's node, w the
-- waiting levels that its place carries.
use Rattle.std.specs.Prelude.{ℕ, ◌+◌, ◌-◌, ◌*◌, Bool, not, ◌&&◌, ◌||◌, ltb, eqb}
use Rattle.region.specs.declared.refusal.Refusal.TheVariants.{Unreadable, CounterSpent}
use Rattle.region.specs.Level.{ancestor, level, mark}
use Rattle.region.specs.Pick.{pick}
use Rattle.region.specs.Shared.{Shared}
use Rattle.region.specs.Thread.{at_place, gone_idle, mending, with_depth, with_first, with_second, with_third}
use Rattle.region.specs.declared.answer.Answer.{Answer}
use Rattle.region.specs.declared.answer.Answer.TheVariants.{Moved, Took}
use Rattle.region.specs.declared.place.Place.{Place}
use Rattle.region.specs.declared.place.Place.TheVariants.{ReadRoot, MendReadNode, MendReadDepth, MendReadLeft, MendReadRight, MendSwap, MendClean, ListReadRoot, HandOut}
use Rattle.region.specs.declared.record.Item.{Item}
use Rattle.region.specs.declared.record.Node.{Node}
use Rattle.region.specs.declared.shape.Shape.{Shape}
use Rattle.region.specs.declared.thread.Thread.{Thread}
use Rattle.access.specs.Order.{item_le, item_lt, value_of}
use Rattle.access.specs.Plan.{plan, moved, on_to, refused}
use Rattle.access.specs.Read.{is_dirty, is_node, is_spent, read_node, same_node, updated}
use Rattle.access.specs.declared.effect.Effect.{Effect}
use Rattle.access.specs.declared.effect.Effect.TheVariants.{Nothing, Exchange, Clean}
use Rattle.access.specs.declared.plan.Plan.{Plan}

-- where a mending that does not answer goes, by after: "0 back to E1", "2 for back to 17, 3 for on to 19" (request 1)
unfoldable pub place_after : ℕ → Place
place_after after = pick (eqb after 2) ListReadRoot (pick (eqb after 3) HandOut ReadRoot)

-- "Return: M1 at the deepest waiting level's ancestor, whose mark is cleared; if none waits, by after" ("1 answer"): the record afterwards,
-- with the waiting levels w
unfoldable pub returned : Thread → ℕ → Thread
unfolding mending gone_idle at_place place_after pick
returned t w =
    pick
    (eqb w 0)
    (pick (eqb t.after 1) (gone_idle t) (at_place t (place_after t.after)))
    (mending t (ancestor t.node (level w)) (w - mark (level w)))

-- and what the turn that returns answers
unfoldable pub return_answer : Thread → ℕ → Answer
return_answer t w = pick (eqb w 0 && eqb t.after 1) (Took t.result) Moved

-- "Return", after an effect: the record afterwards and the answer
unfoldable pub returning : Effect → Thread → ℕ → Plan
returning e t w = plan e (returned t w) (return_answer t w)

-- M1 "READ n." (line 33); node 0 is refused 7
unfoldable pub mend_read_node : Shared → Thread → ℕ → Plan
mend_read_node m t w =
    pick (eqb t.node 0) (refused t Unreadable) (on_to (with_first t (read_node m t.node)) (MendReadDepth w))

-- "clean returns; level d goes to M6; else M3" (lines 35 and 36). A clean copy returns whatever the node; only a dirty one asks for the
-- node's level, and node 0 has none: refused 7
unfoldable pub after_depth_read : Thread → ℕ → ℕ → Plan
unfolding returning
after_depth_read t d w =
    pick
    (is_dirty t.copies.first.node)
    (pick
    (eqb t.node 0)
    (refused t Unreadable)
    (pick (eqb (level t.node) d) (on_to (with_depth t d) (MendClean w)) (on_to (with_depth t d) (MendReadLeft w))))
    (returning Nothing (with_depth t d) w)

-- M2 "READ depth into d" (line 34): its access names no node
unfoldable pub mend_read_depth : Shared → Thread → ℕ → Plan
unfolding after_depth_read
mend_read_depth m t w = after_depth_read t m.depth w

-- M3 "READ 2n." (line 37); node 0 and a child not in the tree are refused 7, here and below
unfoldable pub mend_read_left : Shape → Shared → Thread → ℕ → Plan
mend_read_left s m t w =
    pick
    (is_node s (2 * t.node))
    (on_to (with_second t (read_node m (2 * t.node))) (MendReadRight w))
    (refused t Unreadable)

-- "n's level waits": its mark joins those of the levels above
unfoldable pub marked : ℕ → ℕ → ℕ
marked w j = pick (ltb w (mark j)) (w + mark j) w

-- "left val ≤ right val and < n's val, or right val < left val and < n's val" (lines 45 and 50), of n's value and its children's
unfoldable pub less_below : Item → Item → Item → Bool
less_below own left right = (item_le left right && item_lt left own) || (item_lt right left && item_lt right own)

-- the same of the three copies
unfoldable pub child_less : Thread → Bool
unfolding less_below
child_less t = less_below (value_of t.copies.first) (value_of t.copies.second) (value_of t.copies.third)

-- "left dirty, n's level waits, mend 2n; else right dirty likewise; else .. M5; else M6" (lines 39 to 56)
unfoldable pub after_children_read : Thread → ℕ → Plan
unfolding marked child_less
after_children_read t w =
    pick
    (is_dirty t.copies.second.node)
    (moved (mending t (2 * t.node) (marked w (level t.node))))
    (pick
    (is_dirty t.copies.third.node)
    (moved (mending t (2 * t.node + 1) (marked w (level t.node))))
    (pick (child_less t) (on_to t (MendSwap w)) (on_to t (MendClean w))))

-- M4 "READ 2n + 1" (line 38)
unfoldable pub mend_read_right : Shape → Shared → Thread → ℕ → Plan
unfolding after_children_read
mend_read_right s m t w =
    pick
    (not (eqb t.node 0) && is_node s (2 * t.node + 1))
    (after_children_read (with_third t (read_node m (2 * t.node + 1))) w)
    (refused t Unreadable)

-- "n gets the child's list, clean; the child gets n's list, dirty. Success: mend the child. Failure: M1." c is the child, k its copied
-- node; `holds` says whether the comparison held (lines 46 to 54)
unfoldable pub exchange_at : Thread → ℕ → ℕ → Node → Bool → Plan
exchange_at t w c k holds =
    pick
    holds
    (pick
    (is_spent t.copies.first.node || is_spent k)
    (refused t CounterSpent)
    (plan
    (Exchange t.node (updated t.copies.first.node k.first 0) c (updated k t.copies.first.node.first 1))
    (mending t c w)
    Moved))
    (on_to t (MendReadNode w))

-- both nodes of the DCAS equal their copies
unfoldable pub node_and_child_same : Shared → Thread → ℕ → Node → Bool
node_and_child_same m t c k = same_node (m.node t.node) t.copies.first.node && same_node (m.node c) k

-- DCAS of n and its child c
unfoldable pub exchange_with : Shape → Shared → Thread → ℕ → ℕ → Node → Plan
unfolding exchange_at node_and_child_same
exchange_with s m t w c k =
    pick
    (not (eqb t.node 0) && is_node s c)
    (exchange_at t w c k (node_and_child_same m t c k))
    (refused t Unreadable)

-- M5 "DCAS (left child if left val ≤ right val, else right)"
unfoldable pub mend_swap : Shape → Shared → Thread → ℕ → Plan
unfolding exchange_with
mend_swap s m t w =
    pick
    (item_le (value_of t.copies.second) (value_of t.copies.third))
    (exchange_with s m t w (2 * t.node) t.copies.second.node)
    (exchange_with s m t w (2 * t.node + 1) t.copies.third.node)

-- n becomes clean, and the mending returns
unfoldable pub clean_at : Thread → ℕ → Plan
unfolding returning
clean_at t w =
    pick
    (is_spent t.copies.first.node)
    (refused t CounterSpent)
    (returning (Clean t.node (updated t.copies.first.node t.copies.first.node.first 0)) t w)

-- M6 "CAS n to clean. Success returns. Failure: M1." (line 56, and line 36 as corrected)
unfoldable pub mend_clean : Shared → Thread → ℕ → Plan
unfolding clean_at
mend_clean m t w =
    pick
    (eqb t.node 0)
    (refused t Unreadable)
    (pick (same_node (m.node t.node) t.copies.first.node) (clean_at t w) (on_to t (MendReadNode w)))
