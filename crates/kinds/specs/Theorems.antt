-- The statements about kinds of accesses and failed updates; each is proved under its name in the file of `proofs/` with its name.
use Rattle.std.specs.Prelude.{ℕ, ◌+◌, ◌*◌, ◌≡◌, Bool, true, not, ◌&&◌, List, [], ◌∷◌, eqb, get_or}
use Rattle.region.specs.Pick.{pick}
use Rattle.region.specs.Place.{place_number}
use Rattle.region.specs.Shared.{Shared, shared_in, thread_in}
use Rattle.region.specs.declared.frame.Frame.{Frame}
use Rattle.region.specs.declared.place.Place.{Place}
use Rattle.region.specs.declared.place.Place.TheVariants.{Idle, ReadDepth, ReadLeaf, ReadAncestor, GrowDepth, ReadTarget, InsertAtRoot, ReadParent, InsertBelow, ReadRoot, RemoveHead, MendReadNode, MendReadDepth, MendReadLeft, MendReadRight, MendSwap, MendClean, ListReadRoot, RemoveList, HandOut}
use Rattle.region.specs.declared.thread.Thread.{Thread}
use Rattle.access.specs.Order.{item_le, value_of}
use Rattle.access.specs.Read.{same_node}
use Rattle.insert.specs.Insert.{node_and_parent_same}
use Rattle.moundify.specs.Moundify.{node_and_child_same}
use Rattle.machine.specs.Turn.{turn_plan}
use Rattle.kinds.specs.Kind.{access_kind, failed_update, makes_access}

-- The constant table of the code: its entry at each place's number is the place's kind. The contract of `access_kind` rests on it.
abbrev pub kind_table : List ℕ
kind_table = 6 ∷ 1 ∷ 0 ∷ 0 ∷ 2 ∷ 0 ∷ 2 ∷ 0 ∷ 4 ∷ 0 ∷ 2 ∷ 0 ∷ 1 ∷ 0 ∷ 0 ∷ 3 ∷ 2 ∷ 0 ∷ 2 ∷ 5 ∷ []

abbrev pub TableIsKinds : Type 0
TableIsKinds = (p : Place) → get_or kind_table (place_number p) 0 ≡ access_kind p

-- the comparison that the update of a place makes; a place without one has none that could fail
abbrev pub comparison_holds : Shared → Thread → Place → Bool
comparison_holds m t Idle = true
comparison_holds m t ReadDepth = true
comparison_holds m t ReadLeaf = true
comparison_holds m t ReadAncestor = true
-- I4 "CAS depth from d to d + 1"
comparison_holds m t GrowDepth = eqb m.depth t.depth
comparison_holds m t ReadTarget = true
-- I6 "CAS root"
comparison_holds m t InsertAtRoot = same_node (m.node 1) t.copies.first.node
comparison_holds m t ReadParent = true
-- I8 "DCSS: node as I6, if parent also equals its copy"
comparison_holds m t InsertBelow = node_and_parent_same m t
comparison_holds m t ReadRoot = true
-- E2 "CAS root"
comparison_holds m t RemoveHead = same_node (m.node 1) t.copies.first.node
comparison_holds m t (MendReadNode w) = true
comparison_holds m t (MendReadDepth w) = true
comparison_holds m t (MendReadLeft w) = true
comparison_holds m t (MendReadRight w) = true
-- M5 "DCAS (left child if left val ≤ right val, else right)"
comparison_holds m t (MendSwap w) =
    pick
    (item_le (value_of t.copies.second) (value_of t.copies.third))
    (node_and_child_same m t (2 * t.node) t.copies.second.node)
    (node_and_child_same m t (2 * t.node + 1) t.copies.third.node)
-- M6 "CAS n to clean"
comparison_holds m t (MendClean w) = same_node (m.node t.node) t.copies.first.node
comparison_holds m t ListReadRoot = true
-- 18 "empty the root (failure: 17)"
comparison_holds m t RemoveList = same_node (m.node 1) t.copies.first.node
comparison_holds m t HandOut = true

-- an update that failed is a turn that made its access and whose comparison did not hold
abbrev pub FailedIsComparison : Type 0
FailedIsComparison =
    (f : Frame) (b : List ℕ) (n c : ℕ)
    → failed_update (thread_in f b n).place (turn_plan f b n c)
    ≡ makes_access (turn_plan f b n c).answer && not (comparison_holds (shared_in f b) (thread_in f b n) (thread_in f b n).place)
