-- An update that failed is a turn that made its access and whose comparison did not hold: place by place, by the tests of its plan.
-- Assumes nothing.
use Prim.Native.Nat.{ℕ}
use mathlib.Core.Path.{◌≡◌, refl, sym, ◌∙◌}
use mathlib.Core.Bool.{Bool, true, false, not, ◌&&◌}
use lib.Dec.{eqb}
use Rattle.region.specs.Pick.{pick}
use Rattle.region.specs.Shape.{between}
use Rattle.region.specs.Shared.{Shared, shared_in, thread_in}
use Rattle.region.specs.declared.place.Place.{Place}
use Rattle.region.specs.declared.place.Place.TheVariants.{Idle, ReadDepth, ReadLeaf, ReadAncestor, GrowDepth, ReadTarget, InsertAtRoot, ReadParent, InsertBelow, ReadRoot, RemoveHead, MendReadNode, MendReadDepth, MendReadLeft, MendReadRight, MendSwap, MendClean, ListReadRoot, RemoveList, HandOut}
use Rattle.region.specs.declared.record.Node.{Node}
use Rattle.region.specs.declared.shape.Shape.{Shape}
use Rattle.region.specs.declared.thread.Thread.{Thread}
use Rattle.region.proofs.Picks.{pick_good}
use Rattle.region.proofs.Shapes.{and_not_right}
use Rattle.access.specs.Plan.{plan, moved, on_to, refused}
use Rattle.access.specs.Read.{same_node}
use Rattle.access.specs.declared.plan.Plan.{Plan}
use Rattle.insert.specs.Insert.{grow_depth, insert_at, insert_at_root, insert_below, node_and_parent_same}
use Rattle.extract.specs.Extract.{after_list_removal, after_removal, cas_root, remove_head, remove_list}
use Rattle.moundify.specs.Moundify.{clean_at, exchange_at, exchange_with, mend_clean, mend_swap, node_and_child_same, returning}
use Rattle.permission.specs.Withdraw.{permitted, withdrawal}
use Rattle.machine.specs.Turn.{decide, decide_at, turn_plan}
use Rattle.kinds.specs.Kind.{access_kind, failed_update, is_nothing, is_update, makes_access}
use Rattle.kinds.specs.Theorems.{FailedIsComparison, comparison_holds}

-- what is claimed of a plan at place p whose comparison held or not
record Tells (p : Place) (holds : Bool) (q : Plan) : Type 0 where
  same : failed_update p q ≡ makes_access q.answer && not holds

-- Each end of a plan: no access was made; the effect took place, the comparison having held; the comparison failed; a place that only reads.
neither : (a b c d : Bool) → b ≡ false → a && b && c ≡ b && d
neither a b c d h = rw h (rw (and_not_right a refl) refl)

module _ {p : Place} {holds : Bool} {q : Plan} where
  no_access : makes_access q.answer ≡ false → Tells p holds q
  unfolding failed_update
  no_access h = record { same = neither (is_update (access_kind p)) (makes_access q.answer) (is_nothing q.effect) (not holds) h }

module _ {p : Place} {q : Plan} where
  took_effect : is_nothing q.effect ≡ false → Tells p true q
  unfolding failed_update
  took_effect h =
      record {
        same = rw h (and_not_right (is_update (access_kind p) && makes_access q.answer) refl ∙ sym (and_not_right (makes_access q.answer) refl));
      }

  fails : is_update (access_kind p) ≡ true → is_nothing q.effect ≡ true → Tells p false q
  unfolding failed_update
  fails u h = record { same = rw (u, h) refl }

  reads : is_update (access_kind p) ≡ false → Tells p true q
  unfolding failed_update
  reads u = record { same = rw u (sym (and_not_right (makes_access q.answer) refl)) }

-- by the comparison itself, and by a test that chooses which one is made
compared : {p : Place} {a b : Plan} (holds : Bool) → Tells p true a → Tells p false b → Tells p holds (pick holds a b)
unfolding pick
compared true x y = x
compared false x y = y

chosen : {p : Place} {g h : Bool} {a b : Plan} (left : Bool) → Tells p g a → Tells p h b → Tells p (pick left g h) (pick left a b)
unfolding pick
chosen true x y = x
chosen false x y = y

-- The update of I6 and I8, that of E2 and 18, and M5's.
module _ {p : Place} (u : is_update (access_kind p) ≡ true) where
  inserts : (t : Thread) (n : ℕ) (holds : Bool) → Tells p holds (insert_at t n holds)
  unfolding insert_at plan refused on_to moved makes_access
  inserts t n holds =
      compared holds (pick_good (Tells p true) _ (λ e. no_access refl) (λ e. took_effect refl)) (fails u refl)

  takes : (m : Shared) (t : Thread) (back : Place) (removed : Plan) → is_nothing removed.effect ≡ false
      → Tells p (same_node (m.node 1) t.copies.first.node) (cas_root m t back removed)
  unfolding cas_root plan refused on_to moved makes_access
  takes m t back removed h =
      compared _
      (pick_good (Tells p true) _ (λ e. no_access refl) (λ e. pick_good (Tells p true) _ (λ e. no_access refl) (λ e. took_effect h)))
      (fails u refl)

  exchanges : (s : Shape) (m : Shared) (t : Thread) (w c : ℕ) (k : Node) → Tells p (node_and_child_same m t c k) (exchange_with s m t w c k)
  unfolding exchange_with exchange_at plan refused on_to moved makes_access
  exchanges s m t w c k =
      pick_good (Tells p (node_and_child_same m t c k)) _
      (λ e. compared _ (pick_good (Tells p true) _ (λ e. no_access refl) (λ e. took_effect refl)) (fails u refl))
      (λ e. no_access refl)

-- Place by place.
at_place : (s : Shape) (m : Shared) (t : Thread) (c : ℕ) (p : Place) → Tells p (comparison_holds m t p) (decide_at s m t c p)
unfolding is_update between grow_depth insert_at_root insert_below remove_head remove_list after_removal after_list_removal mend_swap mend_clean clean_at returning plan refused on_to moved makes_access
at_place s m t c Idle = reads refl
at_place s m t c ReadDepth = reads refl
at_place s m t c ReadLeaf = reads refl
at_place s m t c ReadAncestor = reads refl
at_place s m t c GrowDepth =
    pick_good (Tells GrowDepth (eqb m.depth t.depth)) _
    (λ e. compared _ (took_effect refl) (fails refl refl))
    (λ e. no_access refl)
at_place s m t c ReadTarget = reads refl
at_place s m t c InsertAtRoot =
    pick_good (Tells InsertAtRoot (same_node (m.node 1) t.copies.first.node)) _ (λ e. no_access refl) (λ e. inserts refl t 1 _)
at_place s m t c ReadParent = reads refl
at_place s m t c InsertBelow =
    pick_good (Tells InsertBelow (node_and_parent_same m t)) _ (λ e. no_access refl) (λ e. inserts refl t t.node _)
at_place s m t c ReadRoot = reads refl
at_place s m t c RemoveHead = takes refl m t ReadRoot (after_removal t t.copies.first) refl
at_place s m t c (MendReadNode w) = reads refl
at_place s m t c (MendReadDepth w) = reads refl
at_place s m t c (MendReadLeft w) = reads refl
at_place s m t c (MendReadRight w) = reads refl
at_place s m t c (MendSwap w) = chosen _ (exchanges refl s m t w _ _) (exchanges refl s m t w _ _)
at_place s m t c (MendClean w) =
    pick_good (Tells (MendClean w) (same_node (m.node t.node) t.copies.first.node)) _
    (λ e. no_access refl)
    (λ e. compared _ (pick_good (Tells (MendClean w) true) _ (λ e. no_access refl) (λ e. took_effect refl)) (fails refl refl))
at_place s m t c ListReadRoot = reads refl
at_place s m t c RemoveList = takes refl m t ListReadRoot (after_list_removal t t.copies.first) refl
at_place s m t c HandOut = reads refl

-- A turn that is withdrawn makes no access.
permits : (p : Place) (holds : Bool) (t : Thread) (q : Plan) → Tells p holds q → Tells p holds (permitted t q)
unfolding permitted withdrawal plan refused makes_access
permits p holds t q h =
    pick_good (Tells p holds) _
    (λ e.
    pick_good (Tells p holds) _
    (λ e. pick_good (Tells p holds) _ (λ e. no_access refl) (λ e. no_access refl))
    (λ e. no_access refl))
    (λ e. h)

pub failed_is_comparison : FailedIsComparison
unfolding turn_plan decide refused plan makes_access
failed_is_comparison f b n c =
    let t = thread_in f b n in
    let m = shared_in f b in
    (pick_good (Tells t.place (comparison_holds m t t.place)) (between 1 n f.shape.threads)
    (λ e. permits t.place (comparison_holds m t t.place) t _ (at_place f.shape m t c t.place))
    (λ e. no_access refl)
    ).same
