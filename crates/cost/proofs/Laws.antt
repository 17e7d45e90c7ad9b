-- The laws of a take's cost: the list goes down as M4 and M5 move it, and the level at which it comes to rest gives the three figures.
-- Assumes nothing.
use Prim.Native.Nat.{ℕ, zero, suc, ◌+◌, ◌-◌, ◌*◌, ◌≤◌, ◌<◌, min}
use native.Mathlib.Decide.{dec_lt, ℕ_discrete}
use native.Mathlib.Omega.{arith}
use mathlib.Core.Path.{◌≡◌, refl, ap, ◌∙◌}
use mathlib.Core.Bool.{Bool, true, false}
use borrow.Author.Tests.{eq-eqb, lt-ltb, le-ltb, ne_eqb}
use Rattle.region.specs.Pick.{pick}
use Rattle.region.specs.Shared.{Shared}
use Rattle.region.specs.declared.record.Item.{Item}
use Rattle.region.specs.declared.shape.Shape.{Shape}
use Rattle.region.specs.declared.thread.Thread.{Thread}
use Rattle.access.specs.Order.{item_le, val, value_of}
use Rattle.access.specs.Read.{read_node}
use Rattle.access.specs.declared.plan.Plan.{Plan}
use Rattle.moundify.specs.Moundify.{child_less, exchange_with, less_below, mend_swap}
use Rattle.cost.specs.Cost.{cost_of_level, lesser_child, levels_down, rest_level, take_cost, without_head}

-- M4's test and M5's child are those of the figure, where the thread's copies equal its node and the children.
module _ (m : Shared) (u : Thread) (second : u.copies.second ≡ read_node m (2 * u.node))
    (third : u.copies.third ≡ read_node m (2 * u.node + 1)) where
  pub tests_as_placed : u.copies.first ≡ read_node m u.node
      → child_less u ≡ less_below (val m u.node) (val m (2 * u.node)) (val m (2 * u.node + 1))
  unfolding child_less
  tests_as_placed first = λ i. less_below (value_of (first i)) (value_of (second i)) (value_of (third i))

  pub swaps_as_placed : (s : Shape) (w : ℕ)
      → mend_swap s m u w ≡ exchange_with s m u w (lesser_child (val m) u.node) (m.node (lesser_child (val m) u.node))
  unfolding mend_swap lesser_child pick read_node
  swaps_as_placed s w =
      ap both (λ i. item_le (value_of (second i)) (value_of (third i))) ∙ go (item_le (val m (2 * u.node)) (val m (2 * u.node + 1)))
    where
      both : Bool → Plan
      both q =
          pick q (exchange_with s m u w (2 * u.node) u.copies.second.node)
          (exchange_with s m u w (2 * u.node + 1) u.copies.third.node)

      go : (q : Bool)
          → both q ≡ exchange_with s m u w (pick q (2 * u.node) (2 * u.node + 1)) (m.node (pick q (2 * u.node) (2 * u.node + 1)))
      go true = ap (λ k. exchange_with s m u w (2 * u.node) k.node) second
      go false = ap (λ k. exchange_with s m u w (2 * u.node + 1) k.node) third

-- the lesser child of n is one of its two
one_of_two : (q : Bool) (n : ℕ) → (2 * n ≤ pick q (2 * n) (2 * n + 1)) × (pick q (2 * n) (2 * n + 1) ≤ 2 * n + 1)
unfolding pick
one_of_two true n = omega arith
one_of_two false n = omega arith

pub lesser_is_child : (value : ℕ → Item) (n : ℕ) → (2 * n ≤ lesser_child value n) × (lesser_child value n ≤ 2 * n + 1)
unfolding lesser_child
lesser_is_child value n = one_of_two _ n

module _ (value : ℕ → Item) (v : Item) where
  -- the list goes down where M4's test holds, and rests where it fails
  pub goes_down : (k n : ℕ) → less_below v (value (2 * n)) (value (2 * n + 1)) ≡ true
      → levels_down value v (suc k) n ≡ 1 + levels_down value v k (lesser_child value n)
  unfolding levels_down pick
  goes_down k n e = rw e refl

  pub rests_there : (k n : ℕ) → less_below v (value (2 * n)) (value (2 * n + 1)) ≡ false → levels_down value v (suc k) n ≡ 0
  unfolding levels_down pick
  rests_there k n e = rw e refl

  pub rests_deepest : (n : ℕ) → levels_down value v 0 n ≡ 0
  unfolding levels_down
  rests_deepest n = refl

  pub levels_few : (k n : ℕ) → levels_down value v k n ≤ k
  unfolding levels_down pick
  levels_few zero n = omega arith
  levels_few (suc k) n = go (less_below v (value (2 * n)) (value (2 * n + 1))) (levels_few k (lesser_child value n))
    where
      go : (q : Bool) → levels_down value v k (lesser_child value n) ≤ k
          → pick q (1 + levels_down value v k (lesser_child value n)) 0 ≤ suc k
      go true h = omega arith
      go false h = omega arith

-- only the values of nodes behind n count
pub levels_same : (value value' : ℕ → Item) (v : Item) (k n : ℕ) → 1 ≤ n → ((x : ℕ) → n < x → value' x ≡ value x)
    → levels_down value' v k n ≡ levels_down value v k n
unfolding levels_down lesser_child
levels_same value value' v zero n p h = refl
levels_same value value' v (suc k) n p h =
    let l = h (2 * n) (omega arith) in
    let r = h (2 * n + 1) (omega arith) in
    let c = lesser_child value n in
    let g = lesser_is_child value n in
    (λ i.
    pick (less_below v (l i) (r i)) (1 + levels_down value' v k (pick (item_le (l i) (r i)) (2 * n) (2 * n + 1))) 0)
    ∙ ap (λ x. pick (less_below v (value (2 * n)) (value (2 * n + 1))) (1 + x) 0)
    (levels_same value value' v k c (omega arith) (λ x b. h x (omega arith)))

-- the cost at a level above d, and at level d
pub cost_above : (d j : ℕ) → j < d → cost_of_level d j ≡ 5 * j + 2
unfolding cost_of_level pick
cost_above d j l = rw (lt-ltb j d l) refl

pub cost_deepest : (d j : ℕ) → d ≤ j → cost_of_level d j ≡ 5 * d
unfolding cost_of_level pick
cost_deepest d j l = rw (le-ltb j d l) refl

-- the same, with the accesses counted from 3 at E1
pub cost_counted : (d j : ℕ) → j ≤ d → 3 + cost_of_level d j ≡ min (5 * j + 5) (5 * d + 3)
cost_counted d j h = go (dec_lt j d)
  where
    go : Dec (j < d) → 3 + cost_of_level d j ≡ min (5 * j + 5) (5 * d + 3)
    go (yes l) = omega (arith, cost_above d j l)
    go (no l) = omega (arith, cost_deepest d j (omega arith))

module _ (m : Shared) where
  pub cost_empty : (m.node 1).first ≡ 0 → take_cost m ≡ 1
  unfolding take_cost pick
  cost_empty e = rw (eq-eqb (m.node 1).first 0 e) refl

  pub cost_full : ((m.node 1).first ≡ 0 → ⊥) → take_cost m ≡ cost_of_level m.depth (rest_level m)
  unfolding take_cost pick
  cost_full n = rw (ne_eqb (m.node 1).first 0 n) refl

  module _ (some : 1 ≤ m.depth) where
    pub rest_least : 1 ≤ rest_level m
    unfolding rest_level
    rest_least = omega arith

    pub rest_most : rest_level m ≤ m.depth
    unfolding rest_level
    rest_most = omega (arith, levels_few (val m) (val (without_head m) 1) (m.depth - 1) 1)

    -- "at most 5 × d accesses": what the figure is at most
    pub cost_ceiling : (1 ≤ take_cost m) × (take_cost m ≤ 5 * m.depth)
    cost_ceiling = go (ℕ_discrete (m.node 1).first 0) (dec_lt (rest_level m) m.depth)
      where
        go : Dec ((m.node 1).first ≡ 0) → Dec (rest_level m < m.depth) → (1 ≤ take_cost m) × (take_cost m ≤ 5 * m.depth)
        go (yes e) l = omega (arith, cost_empty e, some)
        go (no n) (yes l) = omega (arith, cost_full n, cost_above m.depth (rest_level m) l)
        go (no n) (no l) = omega (arith, cost_full n, cost_deepest m.depth (rest_level m) (omega arith), some)
