-- Records in range: what the test says, and the ways out of the functions that make it, over plain variables. Assumes nothing.
use Prim.Native.Nat.{ℕ, zero, suc, ◌/◌, ◌%◌, ◌≤◌, ◌<◌}
use native.Mathlib.Omega.{arith}
use mathlib.Core.Path.{◌≡◌, refl, sym, subst, ◌∙◌}
use mathlib.Core.Bool.{Bool, true, false, not, ◌&&◌, true≢false}
use mathlib.Core.List.{List}
use borrow.Author.Tests.{leb-true, eq-eqb, ne_eqb, not-true}
use lib.Dec.{eqb, leb}
use lib.ListN.{length, get_or, replicate}
use Rattle.region.specs.Pick.{pick}
use Rattle.region.specs.Record.{is_item, same_item, zero_item}
use Rattle.region.specs.Shape.{between}
use Rattle.region.proofs.Items.{same_item_lem}
use Rattle.region.proofs.Shapes.{and_left, and_right}
use Rattle.records.specs.Inner.{WellFormed}
use Rattle.records.specs.Recorded.{all_in_range, in_range, is_empty, recorded_at, well_formed}
use Rattle.records.specs.declared.form.Recorded.{Recorded}
use Rattle.records.proofs.Every.{each_of, of_each}

module _ (r : Recorded) where
  abbrev item_fits : Bool
  item_fits = pick (is_empty r) (same_item r.item zero_item) (is_item r.item)

  pub range_kind : in_range r ≡ true → between 1 r.kind 3 ≡ true
  unfolding in_range
  range_kind e =
      and_left (between 1 r.kind 3) (between 1 r.thread 64) (and_left (between 1 r.kind 3 && between 1 r.thread 64) item_fits e)

  pub range_thread : in_range r ≡ true → between 1 r.thread 64 ≡ true
  unfolding in_range
  range_thread e =
      and_right (between 1 r.kind 3) (between 1 r.thread 64) (and_left (between 1 r.kind 3 && between 1 r.thread 64) item_fits e)

  pub range_item : in_range r ≡ true → (r.kind ≡ 3 → ⊥) → is_item r.item ≡ true
  unfolding in_range pick
  range_item e n =
      rw (ne_eqb r.kind 3 n) at (and_right (between 1 r.kind 3 && between 1 r.thread 64) item_fits e)

  pub range_empty : in_range r ≡ true → r.kind ≡ 3 → r.item ≡ zero_item
  unfolding in_range pick
  range_empty e k =
      same_item_lem r.item zero_item
      (rw (eq-eqb r.kind 3 k) at (and_right (between 1 r.kind 3 && between 1 r.thread 64) item_fits e))

-- The loop: the first k are in range.
pub record Ranging (b : List ℕ) (n k : ℕ) : Type 0 where
  pub within : k ≤ n
  pub pass : (i : ℕ) → i < k → in_range (recorded_at b i) ≡ true

module _ {b : List ℕ} {n k : ℕ} (f : Ranging b n k) (h : k < n) (x : Recorded) (ex : x ≡ recorded_at b k) (q : Bool) (eq : q ≡ in_range x) where
  pub range_bad : not q ≡ true → false ≡ all_in_range b n
  unfolding all_in_range
  range_bad g = go (all_in_range b n) refl
    where
      go : (p : Bool) → all_in_range b n ≡ p → false ≡ p
      go true e =
          absurd (true≢false (sym (each_of n (λ k. in_range (recorded_at b k)) e k h)
          ∙ sym (subst (λ y. q ≡ in_range y) ex eq) ∙ not-true q g))
      go false e = refl

pub range_end : {b : List ℕ} {n k : ℕ} → Ranging b n k → n ≤ k → true ≡ all_in_range b n
unfolding all_in_range
range_end {b} {n} {k} f h = sym (of_each n (λ k. in_range (recorded_at b k)) (λ i l. f.pass i (omega (arith, l, h))))

-- The whole test.
module _ (b : List ℕ) where
  pub formed : {q : Bool} → q ≡ well_formed b → q ≡ true → WellFormed b (length b / 28)
  unfolding well_formed all_in_range
  formed {q} eq g =
      let e = sym eq ∙ g in
      let w = eqb (length b % 28) 0 in
      let m = leb (length b / 28) 1024 in
      let a = all_in_range b (length b / 28) in
      record {
        long = omega arith;
        few = leb-true (length b / 28) 1024 (and_right w m (and_left (w && m) a e));
        ranged = each_of (length b / 28) (λ k. in_range (recorded_at b k)) (and_right (w && m) a e);
      }

-- An array of zeros.
pub zero_at : (n k : ℕ) → ◌≡◌ {A = ℕ} (get_or (replicate n 0) k 0) 0
zero_at zero k = refl
zero_at (suc n) zero = refl
zero_at (suc n) (suc k) = zero_at n k
