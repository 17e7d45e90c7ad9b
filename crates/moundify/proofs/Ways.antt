-- The ways out of the functions, over plain variables: at each `return` the tests passed decide the definition. Assumes nothing.
use Prim.Native.Nat.{ℕ, ◌+◌, ◌*◌, ◌^◌, ◌≤◌, ◌<◌}
use native.Mathlib.Omega.{arith}
use mathlib.Core.Path.{◌≡◌, refl, sym, ap, ◌∙◌}
use mathlib.Core.Bool.{Bool, true, false, not, ◌&&◌, ◌||◌}
use borrow.Author.Tests.{not-false}
use Rattle.region.specs.Inner.{Within}
use Rattle.region.specs.Level.{level}
use Rattle.region.specs.Pick.{pick}
use Rattle.region.specs.Shape.{node_count}
use Rattle.region.specs.Thread.{with_third}
use Rattle.region.specs.declared.frame.Frame.{Frame}
use Rattle.region.specs.declared.record.Item.{Item}
use Rattle.region.specs.declared.record.NodeCopy.{NodeCopy}
use Rattle.region.specs.declared.thread.Thread.{Thread}
use Rattle.region.proofs.Levels.{level_holds, level_most}
use Rattle.region.proofs.Shapes.{between_most, sizes}
use Rattle.access.specs.Order.{item_le, item_lt, value_of}
use Rattle.access.specs.Read.{is_node}
use Rattle.moundify.specs.Moundify.{child_less, less_below}
use Rattle.moundify.specs.Inner.{HasChildren}

-- M3.
pub node_fits : (f : Frame) (l : ℕ) → Within f l → (n : ℕ) (q : Bool) → q ≡ is_node f.shape n → not q ≡ false → n < 2 ^ 32
unfolding is_node
node_fits f l h n q eq g =
    let e = between_most 1 n (node_count f.shape) (sym eq ∙ not-false q g) in
    omega (arith, sizes f.shape h.deep)

either_way : (q x y : Bool) → (q && x) || (not q && y) ≡ pick q x y
unfolding pick
either_way true true y = refl
either_way true false y = refl
either_way false x y = refl

less_of : (n l k : Item) → less_below n l k ≡ pick (item_le l k) (item_lt l n) (item_lt k n)
unfolding less_below item_lt
less_of n l k = either_way (item_le l k) (item_lt l n) (item_lt k n)

module _ (t : Thread) (n l k : Item) (en : n ≡ value_of t.copies.first) (el : l ≡ value_of t.copies.second)
    (ek : k ≡ value_of t.copies.third) (q : Bool) (eq : q ≡ item_le l k) (r : Bool) where
  less_here : pick q (item_lt l n) (item_lt k n) ≡ child_less t
  unfolding child_less
  less_here =
      ap (λ x. pick x (item_lt l n) (item_lt k n)) eq
      ∙ sym (less_of n l k)
      ∙ (λ i. less_below (en i) (el i) (ek i))

  pub left_decides : q ≡ true → r ≡ item_lt l n → r ≡ child_less t
  unfolding pick
  left_decides h er = er ∙ (rw h at less_here)

  pub right_decides : q ≡ false → r ≡ item_lt k n → r ≡ child_less t
  unfolding pick
  right_decides h er = er ∙ (rw h at less_here)

module _ (t : Thread) (l : ℕ) (el : l ≡ level t.node) where
  pub some_level : HasChildren t → 1 ≤ l
  some_level a = omega (arith, (level_holds t.node a.some (omega arith)).some)

  pub few_levels : l ≤ 32
  few_levels = omega (arith, level_most t.node)

pub has_children : (f : Frame) (l : ℕ) → Within f l → (t u : Thread) (k : NodeCopy) → (t.node ≡ 0 → ⊥) → (q : Bool)
    → q ≡ is_node f.shape (2 * t.node + 1) → not q ≡ false → u ≡ with_third t k → HasChildren u
unfolding with_third
has_children f l h t u k n q eq g eu =
    let e : u.node ≡ t.node = ap (λ y. y.node) eu in
    let fits = node_fits f l h (2 * t.node + 1) q eq g in
    record { some = omega arith; few = omega arith }
