-- The ways out of the functions, over plain variables: at each `return` the tests passed decide the definition. Assumes nothing.
use Prim.Native.Nat.{ℕ, ◌+◌, ◌-◌, ◌*◌, ◌/◌, ◌%◌, ◌^◌, ◌≤◌, ◌<◌}
use native.Mathlib.Decide.{ℕ_discrete, dec_lt}
use native.Mathlib.Nat.{div-lt_iff_lt-mul, le-div_iff_mul-le}
use native.Mathlib.Omega.{arith}
use mathlib.Core.Path.{◌≡◌, refl, sym, ap, subst, ◌∙◌}
use mathlib.Core.Bool.{Bool, true, false, not}
use borrow.Author.Tests.{eq-eqb, ne_eqb, not-false}
use lib.Dec.{eqb, ltb}
use lib.Pow.{pow_mono, pow_pos}
use Rattle.region.specs.Level.{level, mark}
use Rattle.region.specs.Pick.{pick}
use Rattle.region.specs.Shape.{between}
use Rattle.region.specs.declared.shape.Shape.{Shape}
use Rattle.region.specs.declared.thread.Thread.{Thread}
use Rattle.region.proofs.Levels.{level_most, power_doubles}
use Rattle.region.proofs.Shapes.{above, and_right, below, between_least, between_most, is_between}
use Rattle.access.specs.Read.{is_level}
use Rattle.insert.specs.Insert.{has_middle, has_tried_deepest, is_leaf_of, leaf_after_failed_try, leaf_of, leaf_to_read, middle_level}
use Rattle.insert.proofs.Laws.{LeafOf, chosen_itself, leaf_tests, next_chosen, read_leaf_lem, tested_leaf}

pub some_level : (x l : ℕ) (q : Bool) → q ≡ between 1 x l → not q ≡ false → 1 ≤ x
some_level x l q e n = between_least 1 x l (sym e ∙ not-false q n)

-- I2.
module _ (d m : ℕ) (e : m ≡ mark d) where
  pub some_leaf : 0 < m
  some_leaf = rw e (pow_pos (d - 1))

  module _ (choice : ℕ) where
    pub leaf_named : m + choice % m ≡ leaf_of d choice
    unfolding leaf_of
    leaf_named = ap (λ x. x + choice % x) e

  -- the quotient tells the level
  pub leaf_tested : (leaf : ℕ) → 1 ≤ d → eqb (leaf / m) 1 ≡ is_leaf_of d leaf
  unfolding is_leaf_of
  leaf_tested leaf some = go (ℕ_discrete (leaf / m) 1)
    where
      twice : 2 ^ d ≡ 2 * m
      twice = omega (arith, e, power_doubles d some)

      go : Dec (leaf / m ≡ 1) → eqb (leaf / m) 1 ≡ between (mark d) leaf (2 ^ d - 1)
      go (yes k) =
          let l : 1 * m ≤ leaf = (le-div_iff_mul-le some_leaf).0 (omega arith) in
          let u : leaf < 2 * m = (div-lt_iff_lt-mul some_leaf).0 (omega arith) in
          eq-eqb (leaf / m) 1 k ∙ sym (is_between (mark d) leaf (2 ^ d - 1) (omega (arith, e)) (omega (arith, twice)))
      go (no n) = ne_eqb (leaf / m) 1 n ∙ sym (other (dec_lt leaf m))
        where
          other : Dec (leaf < m) → between (mark d) leaf (2 ^ d - 1) ≡ false
          other (yes l) = below (mark d) leaf (2 ^ d - 1) (omega (arith, e))
          other (no l) =
              let some_times : 1 ≤ leaf / m = (le-div_iff_mul-le some_leaf).1 (omega arith) in
              let twice_at_least : 2 * m ≤ leaf = (le-div_iff_mul-le some_leaf).0 (omega arith) in
              above (mark d) leaf (2 ^ d - 1) (omega (arith, twice, some_leaf))

module _ (s : Shape) (t : Thread) where
  module _ (choice : ℕ) (q : Bool) (eq : q ≡ has_tried_deepest s t) where
    pub leaf_word_counts : q ≡ true → 1 ≤ t.depth → (leaf : ℕ) → leaf ≡ leaf_of t.depth t.search_state.leaf → leaf ≡ leaf_to_read s t choice
    unfolding leaf_to_read has_tried_deepest pick
    leaf_word_counts h some leaf e =
        let tested : is_leaf_of t.depth t.search_state.leaf ≡ true = and_right (eqb t.depth s.depth) _ (sym eq ∙ h) in
        rw (← eq, h) (e ∙ chosen_itself t.depth some t.search_state.leaf (tested_leaf t.depth some t.search_state.leaf tested))

    pub choice_counts : q ≡ false → (leaf : ℕ) → leaf ≡ leaf_of t.depth choice → leaf ≡ leaf_to_read s t choice
    unfolding leaf_to_read pick
    choice_counts h leaf e = rw (← eq, h) e

  module _ (leaf : ℕ) where
    pub leaf_stays : (t.depth ≡ s.depth → ⊥) → leaf ≡ leaf_after_failed_try s t leaf
    unfolding leaf_after_failed_try pick
    leaf_stays n = rw (ne_eqb t.depth s.depth n) refl

    module _ (some : 1 ≤ t.depth) (tested : is_leaf_of t.depth leaf ≡ true) where
      pub next_fits : t.depth ≤ 12 → leaf + 1 < 2 ^ 32
      next_fits few =
          omega (arith, (tested_leaf t.depth some leaf tested).most, pow_mono {i = t.depth} {j = 12} few)

      pub leaf_moves : t.depth ≡ s.depth → (next : ℕ) → next ≡ leaf_of t.depth (leaf + 1) → next ≡ leaf_after_failed_try s t leaf
      unfolding leaf_after_failed_try pick
      leaf_moves h next e =
          rw (eq-eqb t.depth s.depth h) (e ∙ next_chosen t.depth some leaf (tested_leaf t.depth some leaf tested))

module _ (s : Shape) (j : ℕ) (q : Bool) (e : q ≡ is_level s j) (n : not q ≡ false) where
  pub level_some : 1 ≤ j
  unfolding is_level
  level_some = between_least 1 j s.depth (sym e ∙ not-false q n)

  pub level_few : s.depth ≤ 12 → j ≤ 12
  unfolding is_level
  level_few h = omega (arith, between_most 1 j s.depth (sym e ∙ not-false q n))

pub read_tested : (s : Shape) (t : Thread) (choice : ℕ) (q : Bool) → q ≡ is_level s t.depth → not q ≡ false → (leaf : ℕ)
    → leaf ≡ leaf_to_read s t choice → is_leaf_of t.depth leaf ≡ true
read_tested s t choice q eq n leaf el =
    let some = level_some s t.depth q eq n in
    leaf_tests t.depth some leaf (subst (LeafOf t.depth) (sym el) (read_leaf_lem s t some choice))

module _ (t : Thread) (h : Bool) (eh : h ≡ has_middle t) where
  module _ (n : not h ≡ false) (k : ℕ) (ek : k ≡ middle_level t) where
    middle_between : between 1 k (level t.search_state.leaf) ≡ true
    unfolding has_middle
    middle_between =
        ap (λ x. between 1 x (level t.search_state.leaf)) ek
        ∙ and_right (ltb t.search_state.lo t.search_state.hi) _ (sym eh ∙ not-false h n)

    pub middle_most : k ≤ 32
    middle_most =
        omega (arith, between_most 1 k (level t.search_state.leaf) middle_between, level_most t.search_state.leaf)
