-- The places of a take of one item, E1 and E2 (document 01, The sixteen places; Listing 1, extractMin, lines 21 to 31), and of a take of the
-- root's whole list, 17 to 19 (document 02, request 1; section 3 of the mound's paper: "extractMany returns the entire list from a node, by
-- setting the list pointer to nil and dirty to true, and then calling moundify").
use Rattle.std.specs.Prelude.{ℕ, eqb}
use Rattle.region.specs.declared.refusal.Refusal.TheVariants.{Unreadable, CounterSpent}
use Rattle.region.specs.Pick.{pick}
use Rattle.region.specs.Shared.{Shared}
use Rattle.region.specs.Thread.{at_place, gone_idle, mending, with_after, with_first, with_own, with_result}
use Rattle.region.specs.declared.answer.Answer.TheVariants.{Moved, Took, Empty}
use Rattle.region.specs.declared.place.Place.{Place}
use Rattle.region.specs.declared.place.Place.TheVariants.{ReadRoot, RemoveHead, ListReadRoot, RemoveList, HandOut}
use Rattle.region.specs.declared.record.Cell.{Cell}
use Rattle.region.specs.declared.record.NodeCopy.{NodeCopy}
use Rattle.region.specs.declared.thread.Thread.{Thread}
use Rattle.access.specs.Plan.{plan, moved, on_to, refused}
use Rattle.access.specs.Read.{is_dirty, is_spent, read_node, same_node, updated}
use Rattle.access.specs.declared.effect.Effect.TheVariants.{Nothing, Pop, Detach, Free}
use Rattle.access.specs.declared.plan.Plan.{Plan}

-- "Dirty: mend node 1 with after 0. Empty: answer empty. Else E2." (lines 23 to 26); of a list with after 2, and 18 for E2
unfoldable pub after_root_read : Thread → NodeCopy → ℕ → Place → Plan
after_root_read t q after next =
    pick
    (is_dirty q.node)
    (moved (mending (with_after (with_first t q) after) 1 0))
    (pick (eqb q.node.first 0) (plan Nothing (gone_idle t) Empty) (on_to (with_first t q) next))

-- E1 "READ root." (line 22)
unfoldable pub read_root : Shared → Thread → Plan
unfolding after_root_read
read_root m t = after_root_read t (read_node m 1) 0 RemoveHead

-- 17 (request 1): "Places 17 and 18 read and empty the root", "after is 2 for back to 17", "An empty clean root answers empty"
unfoldable pub list_read_root : Shared → Thread → Plan
unfolding after_root_read
list_read_root m t = after_root_read t (read_node m 1) 2 RemoveList

-- "Success: head is the result, its cell is freed, mend node 1 with after 1." (lines 27 to 30)
unfoldable pub after_removal : Thread → NodeCopy → Plan
after_removal t q =
    plan
    (Pop (updated q.node q.head.next 1) q.node.first)
    (mending (with_after (with_result t q.head.item) 1) 1 0)
    Moved

-- "Its deciding access empties the root's list and marks the root dirty. Mending follows", "own cell is the first in hand", "after is .. 3 for
-- on to 19", "the result words stay unused" (request 1)
unfoldable pub after_list_removal : Thread → NodeCopy → Plan
after_list_removal t q =
    plan
    (Detach (updated q.node 0 1))
    (mending (with_after (with_own t q.node.first) 3) 1 0)
    Moved

-- CAS of the root, which a success leaves by the plan `removed` and a failure for the place `back`. The copied first cell is named by a
-- success alone; so cell 0 is refused 7 only where the comparison holds
unfoldable pub cas_root : Shared → Thread → Place → Plan → Plan
cas_root m t back removed =
    pick
    (same_node (m.node 1) t.copies.first.node)
    (pick
    (eqb t.copies.first.node.first 0)
    (refused t Unreadable)
    (pick (is_spent t.copies.first.node) (refused t CounterSpent) removed))
    (on_to t back)

-- E2 "CAS root to the copied next cell, dirty. .. Failure: E1." (line 27)
unfoldable pub remove_head : Shared → Thread → Plan
unfolding cas_root after_removal
remove_head m t = cas_root m t ReadRoot (after_removal t t.copies.first)

-- 18 (request 1): "Places 17 and 18 read and empty the root (failure: 17)", "an 18 that would take an empty list is 7"
unfoldable pub remove_list : Shared → Thread → Plan
unfolding cas_root after_list_removal
remove_list m t = cas_root m t ListReadRoot (after_list_removal t t.copies.first)

-- "each further turn of the thread hands out one item and frees its cell", "each handed item took; the thread goes idle with the last"
-- (request 1); c is the own cell
unfoldable pub handed_out : Thread → Cell → Plan
handed_out t c =
    plan
    (Free t.own)
    (pick (eqb c.next 0) (gone_idle t) (at_place (with_own t c.next) HandOut))
    (Took c.item)

-- 19 (request 1): "19 hands out"; own cell 0 is refused 7
unfoldable pub hand_out : Shared → Thread → Plan
unfolding handed_out
hand_out m t = pick (eqb t.own 0) (refused t Unreadable) (handed_out t (m.cell t.own))
