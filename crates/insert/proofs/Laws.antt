-- What the crates above know of a put's places: I2 reads a leaf of level d; what I8's comparison tells. Assumes nothing.
use Prim.Native.Nat.{ℕ, ◌+◌, ◌-◌, ◌/◌, ◌%◌, ◌^◌, ◌≤◌, ◌<◌}
use native.Mathlib.Nat.{add-mod_right, mod-eq_of_lt, mod-eq-sub-mod, mod-lt, mod_self}
use native.Mathlib.Omega.{arith}
use mathlib.Core.Path.{◌≡◌, refl, ap, ◌∙◌}
use mathlib.Core.Bool.{true}
use borrow.Author.Tests.{eq-eqb, ltb-false, ltb-true}
use lib.Dec.{eqb, ltb}
use lib.Pow.{pow_pos}
use Rattle.region.specs.Pick.{pick}
use Rattle.region.specs.Shared.{Shared}
use Rattle.region.specs.declared.shape.Shape.{Shape}
use Rattle.region.specs.declared.thread.Thread.{Thread}
use Rattle.region.proofs.Levels.{power_doubles}
use Rattle.region.proofs.Picks.{pick_good}
use Rattle.region.proofs.Shapes.{and_left, and_right, between_least, between_most, is_between}
use Rattle.access.specs.Read.{same_node}
use Rattle.insert.specs.Insert.{has_tried_deepest, is_leaf_of, leaf_after_failed_try, leaf_of, leaf_to_read, next_leaf, node_and_parent_same}

-- A leaf of level d.
pub record LeafOf (d leaf : ℕ) : Type 0 where
  pub least : 2 ^ (d - 1) ≤ leaf
  pub most : leaf < 2 ^ d

module _ (d : ℕ) (some : 1 ≤ d) where
  pub leaf_tests : (leaf : ℕ) → LeafOf d leaf → is_leaf_of d leaf ≡ true
  unfolding is_leaf_of
  leaf_tests leaf h = is_between (2 ^ (d - 1)) leaf (2 ^ d - 1) h.least (omega (arith, h.most))

  pub tested_leaf : (leaf : ℕ) → is_leaf_of d leaf ≡ true → LeafOf d leaf
  unfolding is_leaf_of
  tested_leaf leaf e =
      record {
        least = between_least (2 ^ (d - 1)) leaf (2 ^ d - 1) e;
        most = omega (arith, between_most (2 ^ (d - 1)) leaf (2 ^ d - 1) e, pow_pos d);
      }

  pub chosen_leaf : (choice : ℕ) → LeafOf d (leaf_of d choice)
  unfolding leaf_of
  chosen_leaf choice =
      record { least = omega arith; most = omega (arith, mod-lt choice (pow_pos (d - 1)), power_doubles d some) }

  pub next_leaf_lem : (leaf : ℕ) → LeafOf d leaf → LeafOf d (next_leaf d leaf)
  unfolding next_leaf
  next_leaf_lem leaf h =
      pick_good (LeafOf d) (ltb leaf (2 ^ d - 1))
      (λ e. let l = ltb-true leaf (2 ^ d - 1) e in record { least = omega (arith, h.least); most = omega arith })
      (λ e. record { least = omega arith; most = omega (arith, power_doubles d some, pow_pos (d - 1)) })

  -- as a choice, a leaf's own number names it, and the number behind it the next leaf
  pub chosen_itself : (leaf : ℕ) → LeafOf d leaf → leaf_of d leaf ≡ leaf
  unfolding leaf_of
  chosen_itself leaf h =
      let e : leaf % 2 ^ (d - 1) ≡ leaf - 2 ^ (d - 1) =
      mod-eq-sub-mod h.least ∙ mod-eq_of_lt (omega (arith, h.most, power_doubles d some, pow_pos (d - 1))) in
      omega (arith, e, h.least)

  pub next_chosen : (leaf : ℕ) → LeafOf d leaf → leaf_of d (leaf + 1) ≡ next_leaf d leaf
  unfolding leaf_of next_leaf
  next_chosen leaf h =
      let m = 2 ^ (d - 1) in
      pick_good (λ x. leaf_of d (leaf + 1) ≡ x) (ltb leaf (2 ^ d - 1))
      (λ e. let l = ltb-true leaf (2 ^ d - 1) e in chosen_itself (leaf + 1) (record { least = omega (arith, h.least); most = omega arith }))
      (λ e.
      let last : leaf + 1 ≡ m + m = omega (arith, ltb-false leaf (2 ^ d - 1) e, h.most, power_doubles d some) in
      let none : (leaf + 1) % m ≡ 0 = ap (λ x. x % m) last ∙ add-mod_right m m ∙ mod_self m in
      omega (arith, none))

-- I2 reads a leaf of level d, and a failed try leaves one in the leaf word.
module _ (s : Shape) (t : Thread) (some : 1 ≤ t.depth) where
  pub read_leaf_lem : (choice : ℕ) → LeafOf t.depth (leaf_to_read s t choice)
  unfolding leaf_to_read has_tried_deepest
  read_leaf_lem choice =
      pick_good (LeafOf t.depth) (has_tried_deepest s t)
      (λ e. tested_leaf t.depth some t.search_state.leaf (and_right (eqb t.depth s.depth) _ e))
      (λ e. chosen_leaf t.depth some choice)

  pub left_leaf : (leaf : ℕ) → LeafOf t.depth leaf → LeafOf t.depth (leaf_after_failed_try s t leaf)
  unfolding leaf_after_failed_try
  left_leaf leaf h =
      pick_good (LeafOf t.depth) (eqb t.depth s.depth) (λ e. next_leaf_lem t.depth some leaf h) (λ e. h)

-- with d at D and a leaf of level D in the leaf word, that is the leaf to read
pub tried_leaf : (s : Shape) (t : Thread) → 1 ≤ t.depth → t.depth ≡ s.depth → LeafOf t.depth t.search_state.leaf → (choice : ℕ)
    → leaf_to_read s t choice ≡ t.search_state.leaf
unfolding leaf_to_read has_tried_deepest pick
tried_leaf s t some deepest h choice =
    rw (eq-eqb t.depth s.depth deepest, leaf_tests t.depth some t.search_state.leaf h) refl

-- I8: the node and its parent are as in their copies.
module _ (m : Shared) (t : Thread) (e : node_and_parent_same m t ≡ true) where
  pub node_same : same_node (m.node t.node) t.copies.first.node ≡ true
  unfolding node_and_parent_same
  node_same = and_left (same_node (m.node t.node) t.copies.first.node) _ e

  pub parent_same : same_node (m.node (t.node / 2)) t.copies.second.node ≡ true
  unfolding node_and_parent_same
  parent_same = and_right (same_node (m.node t.node) t.copies.first.node) _ e
