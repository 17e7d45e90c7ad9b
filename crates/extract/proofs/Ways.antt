-- The ways out of the functions, over plain variables. Assumes nothing.
use Prim.Native.Nat.{ℕ}
use mathlib.Core.Path.{◌≡◌, ap, ◌∙◌}
use mathlib.Core.Bool.{Bool, true, false, not}
use mathlib.Core.List.{List}
use borrow.Author.Tests.{eq-eqb, ne_eqb, not-true, not-false}
use Rattle.region.specs.declared.refusal.Refusal.TheVariants.{Unreadable, CounterSpent}
use Rattle.region.specs.Pick.{pick}
use Rattle.region.specs.Shared.{node_in, shared_in}
use Rattle.region.specs.declared.frame.Frame.{Frame}
use Rattle.region.specs.declared.place.Place.{Place}
use Rattle.region.specs.declared.record.Node.{Node}
use Rattle.region.specs.declared.thread.Thread.{Thread}
use Rattle.access.specs.Plan.{on_to, refused}
use Rattle.access.specs.Read.{is_spent, same_node}
use Rattle.access.specs.declared.plan.Plan.{Plan}
use Rattle.extract.specs.Extract.{cas_root}

module _ (f : Frame) (b : List ℕ) (t : Thread) (back : Place) (removed r : Plan) (x : Node) (ex : x ≡ node_in f b 1) (s : Bool)
    (es : s ≡ same_node x t.copies.first.node) where
  root_test : s ≡ same_node ((shared_in f b).node 1) t.copies.first.node
  unfolding shared_in
  root_test = es ∙ ap (λ y. same_node y t.copies.first.node) ex

  pub root_changed : not s ≡ true → r ≡ on_to t back → r ≡ cas_root (shared_in f b) t back removed
  unfolding cas_root pick
  root_changed h er = rw (← root_test, not-true s h) er

  module _ (h : not s ≡ false) where
    pub no_head : t.copies.first.node.first ≡ 0 → r ≡ refused t Unreadable → r ≡ cas_root (shared_in f b) t back removed
    unfolding cas_root pick
    no_head z er = rw (← root_test, not-false s h, eq-eqb t.copies.first.node.first 0 z) er

    module _ (nz : t.copies.first.node.first ≡ 0 → ⊥) (p : Bool) (ep : p ≡ is_spent t.copies.first.node) where
      pub root_spent : p ≡ true → r ≡ refused t CounterSpent → r ≡ cas_root (shared_in f b) t back removed
      unfolding cas_root pick
      root_spent g er =
          rw (← root_test, not-false s h, ne_eqb t.copies.first.node.first 0 nz, ← ep, g) er

      pub root_removes : p ≡ false → r ≡ removed → r ≡ cas_root (shared_in f b) t back removed
      unfolding cas_root pick
      root_removes g er =
          rw (← root_test, not-false s h, ne_eqb t.copies.first.node.first 0 nz, ← ep, g) er
