-- A shape that passes its test is in range, as inequalities between numbers, and back; the sizes that follow. Assumes nothing.
use Prim.Native.Nat.{ℕ, ◌-◌, ◌*◌, ◌%◌, ◌^◌, ◌≤◌, ◌<◌}
use native.Mathlib.Nat.{mod-eq_of_lt, one-mul}
use native.Mathlib.Omega.{arith}
use mathlib.Core.Path.{◌≡◌, refl, sym, ap, ◌∙◌}
use mathlib.Core.Bool.{Bool, true, false, not, ◌&&◌, true≢false}
use borrow.Author.Tests.{leb-true, le-leb, lt-leb, not-false}
use lib.Dec.{leb}
use lib.Pow.{pow_mono, pow_pos, pow-lt}
use Rattle.region.specs.Shape.{between, shape_fits, region_words, region_words_of_width}
use Rattle.region.specs.Inner.{InRange}
use Rattle.region.specs.declared.shape.Shape.{Shape}

-- Tests joined by &&.
pub and_left : (a b : Bool) → a && b ≡ true → a ≡ true
and_left true b e = refl
and_left false b e = e

pub and_right : (a b : Bool) → a && b ≡ true → b ≡ true
and_right true b e = e
and_right false b e = absurd (true≢false (sym e))

pub and_both : {a b : Bool} → a ≡ true → b ≡ true → a && b ≡ true
and_both {a} {b} p q = rw (p, q) refl

pub and_not_left : {a : Bool} (b : Bool) → a ≡ false → a && b ≡ false
and_not_left {a} b p = rw p refl

pub and_not_right : (a : Bool) {b : Bool} → b ≡ false → a && b ≡ false
and_not_right true p = p
and_not_right false p = refl

pub between_least : (lo x hi : ℕ) → between lo x hi ≡ true → lo ≤ x
unfolding between
between_least lo x hi e = leb-true lo x (and_left (leb lo x) (leb x hi) e)

pub between_most : (lo x hi : ℕ) → between lo x hi ≡ true → x ≤ hi
unfolding between
between_most lo x hi e = leb-true x hi (and_right (leb lo x) (leb x hi) e)

pub is_between : (lo x hi : ℕ) → lo ≤ x → x ≤ hi → between lo x hi ≡ true
unfolding between
is_between lo x hi p q = and_both (le-leb lo x p) (le-leb x hi q)

pub below : (lo x hi : ℕ) → x < lo → between lo x hi ≡ false
unfolding between
below lo x hi p = and_not_left (leb x hi) (lt-leb lo x p)

pub above : (lo x hi : ℕ) → hi < x → between lo x hi ≡ false
unfolding between
above lo x hi p = and_not_right (leb lo x) (lt-leb x hi p)

-- A shape in range, as inequalities between numbers, and the sizes that follow.
pub in_range : (s : Shape) → shape_fits s ≡ true → InRange s
unfolding shape_fits
in_range s e =
    let d = between 1 s.depth 12 in
    let c = between 1 s.cells (2 ^ (s.depth - 1)) in
    let t = between 1 s.threads 64 in
    let h = between 1 s.threshold 16 in
    let dct : d && c && t ≡ true = and_left (d && c && t) h e in
    let dc : d && c ≡ true = and_left (d && c) t dct in
    let ed : d ≡ true = and_left d c dc in
    let ec : c ≡ true = and_right d c dc in
    let et : t ≡ true = and_right (d && c) t dct in
    let eh : h ≡ true = and_right (d && c && t) h e in
    record {
      depth_least = between_least 1 s.depth 12 ed;
      depth_most = between_most 1 s.depth 12 ed;
      cells_least = between_least 1 s.cells (2 ^ (s.depth - 1)) ec;
      cells_most = between_most 1 s.cells (2 ^ (s.depth - 1)) ec;
      threads_least = between_least 1 s.threads 64 et;
      threads_most = between_most 1 s.threads 64 et;
      threshold_least = between_least 1 s.threshold 16 eh;
      threshold_most = between_most 1 s.threshold 16 eh;
    }

pub fits_in_range : (s : Shape) → InRange s → shape_fits s ≡ true
unfolding shape_fits
fits_in_range s r =
    and_both
    (and_both
    (and_both
    (is_between 1 s.depth 12 r.depth_least r.depth_most)
    (is_between 1 s.cells (2 ^ (s.depth - 1)) r.cells_least r.cells_most))
    (is_between 1 s.threads 64 r.threads_least r.threads_most))
    (is_between 1 s.threshold 16 r.threshold_least r.threshold_most)

pub record Sizes (s : Shape) : Type 0 where
  pub leaves_most : 2 ^ (s.depth - 1) ≤ 2048
  pub nodes_most : 2 ^ s.depth ≤ 4096
  pub nodes_least : 1 ≤ 2 ^ s.depth

pub sizes : (s : Shape) → s.depth ≤ 12 → Sizes s
sizes s h =
    record {
      leaves_most = pow_mono {i = s.depth - 1} {j = 11} (omega arith);
      nodes_most = pow_mono {i = s.depth} {j = 12} h;
      nodes_least = pow_pos s.depth;
    }

-- One shifted is a power.
pub shifted : (w d : ℕ) → d < w → (1 * 2 ^ d) % 2 ^ w ≡ 2 ^ d
shifted w d h = ap (λ n. n % 2 ^ w) (one-mul (2 ^ d)) ∙ mod-eq_of_lt (pow-lt h)

-- The largest region has 24,834 words.
pub words_most : (s : Shape) → InRange s → region_words s ≤ 24834
unfolding region_words_of_width
words_most s r = omega (arith, sizes s r.depth_most)

-- What the code knows of a shape that has passed the test.
module _ (s : Shape) (q : Bool) (eq : q ≡ shape_fits s) (gq : not q ≡ false) where
  pub shape_in_range : InRange s
  shape_in_range = in_range s (sym eq ∙ not-false q gq)

  pub few_words : (w : ℕ) → w ≡ region_words s → w ≤ 24834
  few_words w ew = omega (arith, words_most s shape_in_range)
