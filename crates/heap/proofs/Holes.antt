-- A heap with a hole at entry i: what one step of the hole, up or down, leaves of the order, and that a number which fits there fills it.
-- Each goes by where the entry lies: at the hole, below it, or apart. Assumes nothing.
use Prim.Native.Nat.{ℕ, ◌/◌, ◌≤◌, ◌<◌}
use native.Mathlib.Decide.{ℕ_discrete}
use native.Mathlib.Omega.{arith}
use mathlib.Core.Path.{◌≡◌, ap}
use mathlib.Core.Logic.{◌≢◌}
use mathlib.Core.List.{List}
use lib.ListN.{length, get_or, set}
use lib.Seq.{get_or-set_same, get_or-set_other}
use Rattle.heap.specs.Heap.{Ordered}
use Rattle.heap.specs.Inner.{LeastChild}

-- the entries to m are in order apart from the hole, and around it: its children are not less than its parent
pub record Hole (h : List ℕ) (m i : ℕ) : Type 0 where
  pub apart : (j : ℕ) → 2 ≤ j → j ≤ m → j ≢ i → j / 2 ≢ i → get_or h (j / 2) 0 ≤ get_or h j 0
  pub around : (j : ℕ) → 2 ≤ j → j ≤ m → j / 2 ≡ i → 2 ≤ i → get_or h (i / 2) 0 ≤ get_or h j 0

-- x is not less than the hole's parent
abbrev pub FitsAbove : List ℕ → ℕ → ℕ → Type 0
FitsAbove h i x = 2 ≤ i → get_or h (i / 2) 0 ≤ x

-- x is not greater than the hole's children
abbrev pub FitsBelow : List ℕ → ℕ → ℕ → ℕ → Type 0
FitsBelow h m i x = (j : ℕ) → 2 ≤ j → j ≤ m → j / 2 ≡ i → x ≤ get_or h j 0

module _ (h : List ℕ) (m i : ℕ) (r : i < length h) (o : Hole h m i) where
  pub settled : (x : ℕ) → FitsAbove h i x → FitsBelow h m i x → Ordered (set h i x) m
  settled x a b k l u = go (ℕ_discrete k i) (ℕ_discrete (k / 2) i)
    where
      go : Dec (k ≡ i) → Dec (k / 2 ≡ i) → get_or (set h i x) (k / 2) 0 ≤ get_or (set h i x) k 0
      go (yes e) d =
          rw e
          (omega (arith, get_or-set_same h i x 0 r, get_or-set_other h i (i / 2) x 0 (λ z. omega arith), a (omega arith)))
      go (no n) (yes e) =
          rw e (omega (arith, get_or-set_same h i x 0 r, get_or-set_other h i k x 0 n, b k l u e))
      go (no n) (no d) =
          omega (arith, get_or-set_other h i (k / 2) x 0 d, get_or-set_other h i k x 0 n, o.apart k l u n d)

  -- The hole goes up, and its parent's number down.
  module _ (x : ℕ) (b : FitsBelow h m i x) (l : 2 ≤ i) (u : i ≤ m) (g : x < get_or h (i / 2) 0) where
    up_same : get_or (set h i (get_or h (i / 2) 0)) i 0 ≡ get_or h (i / 2) 0
    up_same = get_or-set_same h i (get_or h (i / 2) 0) 0 r

    up_other : (j : ℕ) → j ≢ i → get_or (set h i (get_or h (i / 2) 0)) j 0 ≡ get_or h j 0
    up_other j n = get_or-set_other h i j (get_or h (i / 2) 0) 0 n

    -- the parent's other child is not less than it
    beside : (j : ℕ) → 2 ≤ j → j ≤ m → j ≢ i → j / 2 ≡ i / 2 → get_or h (i / 2) 0 ≤ get_or h j 0
    beside j lj uj n e = rw e at (o.apart j lj uj n (λ z. omega arith))

    up_apart : (j : ℕ) → 2 ≤ j → j ≤ m → j ≢ i / 2 → j / 2 ≢ i / 2
        → get_or (set h i (get_or h (i / 2) 0)) (j / 2) 0 ≤ get_or (set h i (get_or h (i / 2) 0)) j 0
    up_apart j lj uj n d = go (ℕ_discrete (j / 2) i)
      where
        away : j ≢ i
        away z = d (ap (λ k. k / 2) z)

        go : Dec (j / 2 ≡ i) → get_or (set h i (get_or h (i / 2) 0)) (j / 2) 0 ≤ get_or (set h i (get_or h (i / 2) 0)) j 0
        go (yes e) = rw e (omega (arith, up_same, up_other j away, o.around j lj uj e l))
        go (no e) = omega (arith, up_other (j / 2) e, up_other j away, o.apart j lj uj away e)

    up_around : (j : ℕ) → 2 ≤ j → j ≤ m → j / 2 ≡ i / 2 → 2 ≤ i / 2
        → get_or (set h i (get_or h (i / 2) 0)) (i / 2 / 2) 0 ≤ get_or (set h i (get_or h (i / 2) 0)) j 0
    up_around j lj uj e lp = go (ℕ_discrete j i)
      where
        top : get_or h (i / 2 / 2) 0 ≤ get_or h (i / 2) 0
        top = o.apart (i / 2) lp (omega arith) (λ z. omega arith) (λ z. omega arith)

        go : Dec (j ≡ i) → get_or (set h i (get_or h (i / 2) 0)) (i / 2 / 2) 0 ≤ get_or (set h i (get_or h (i / 2) 0)) j 0
        go (yes z) = rw z (omega (arith, up_same, up_other (i / 2 / 2) (λ q. omega arith), top))
        go (no z) = omega (arith, up_other j z, up_other (i / 2 / 2) (λ q. omega arith), top, beside j lj uj z e)

    pub up_hole : Hole (set h i (get_or h (i / 2) 0)) m (i / 2)
    up_hole = record { apart = up_apart; around = up_around }

    pub up_below : FitsBelow (set h i (get_or h (i / 2) 0)) m (i / 2) x
    up_below j lj uj e = go (ℕ_discrete j i)
      where
        go : Dec (j ≡ i) → x ≤ get_or (set h i (get_or h (i / 2) 0)) j 0
        go (yes z) = rw z (omega (arith, up_same))
        go (no z) = omega (arith, up_other j z, beside j lj uj z e)

  -- The hole goes down to its lesser child, and that child's number up.
  module _ (c x : ℕ) (s : LeastChild h m i c) (l : 1 ≤ i) where
    down_same : get_or (set h i (get_or h c 0)) i 0 ≡ get_or h c 0
    down_same = get_or-set_same h i (get_or h c 0) 0 r

    down_other : (j : ℕ) → j ≢ i → get_or (set h i (get_or h c 0)) j 0 ≡ get_or h j 0
    down_other j n = get_or-set_other h i j (get_or h c 0) 0 n

    down_apart : (j : ℕ) → 2 ≤ j → j ≤ m → j ≢ c → j / 2 ≢ c
        → get_or (set h i (get_or h c 0)) (j / 2) 0 ≤ get_or (set h i (get_or h c 0)) j 0
    down_apart j lj uj n d = go (ℕ_discrete j i) (ℕ_discrete (j / 2) i)
      where
        go : Dec (j ≡ i) → Dec (j / 2 ≡ i) → get_or (set h i (get_or h c 0)) (j / 2) 0 ≤ get_or (set h i (get_or h c 0)) j 0
        go (yes e) q =
            rw e
            (omega (
              arith,
              down_same,
              down_other (i / 2) (λ z. omega arith),
              o.around c (omega (arith, s.child)) s.within s.child (omega arith),
            ))
        go (no e) (yes q) = rw q (omega (arith, down_same, down_other j e, s.least j uj q))
        go (no e) (no q) = omega (arith, down_other (j / 2) q, down_other j e, o.apart j lj uj e q)

    down_around : (j : ℕ) → 2 ≤ j → j ≤ m → j / 2 ≡ c → 2 ≤ c
        → get_or (set h i (get_or h c 0)) (c / 2) 0 ≤ get_or (set h i (get_or h c 0)) j 0
    down_around j lj uj e lc =
        rw s.child
        (omega (
          arith,
          down_same,
          down_other j (λ z. omega (arith, s.child)),
          rw e at (o.apart j lj uj (λ z. omega (arith, s.child)) (λ z. omega (arith, s.child))),
        ))

    pub down_hole : Hole (set h i (get_or h c 0)) m c
    down_hole = record { apart = down_apart; around = down_around }

    pub down_above : get_or h c 0 < x → FitsAbove (set h i (get_or h c 0)) c x
    down_above g lc = rw s.child (omega (arith, down_same))
