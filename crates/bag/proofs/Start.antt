-- The invariant holds of a laid-out region with the empty ledger: every cell is free, every node empty, every thread idle.
-- Assumes nothing.
use Prim.Native.Nat.{ℕ, zero, suc, ◌+◌, ◌-◌, ◌*◌, ◌/◌, ◌%◌, ◌≤◌}
use native.Mathlib.Decide.{ℕ_discrete}
use native.Mathlib.Omega.{arith}
use mathlib.Core.Path.{◌≡◌, refl, sym, ap, subst, subst₂, ◌∙◌}
use mathlib.Core.Bool.{Bool, true, false}
use mathlib.Core.List.{List, [], ◌∷◌}
use borrow.Author.Tests.{ne_eqb}
use lib.Dec.{eqb}
use lib.ListN.{length, get_or}
use Rattle.region.specs.Refusal.{done}
use Rattle.region.specs.Frame.{frame_of, frame_of_width}
use Rattle.region.specs.Pick.{pick}
use Rattle.region.specs.Record.{same_item}
use Rattle.region.specs.Shape.{between, node_count}
use Rattle.region.specs.Shared.{Shared, shared_in, thread_in}
use Rattle.region.specs.Thread.{idle_thread}
use Rattle.region.specs.declared.record.Cell.{Cell}
use Rattle.region.specs.declared.record.Item.{Item}
use Rattle.region.specs.declared.shape.Shape.{Shape}
use Rattle.region.specs.declared.thread.Thread.{Thread}
use Rattle.region.proofs.Shapes.{between_least, between_most}
use Rattle.access.specs.Order.{top_item, val, value_of}
use Rattle.access.specs.Read.{read_node}
use Rattle.access.proofs.OrderLaws.{item_refl}
use Rattle.layout.specs.Layout.{layout_refusal, layout_bytes}
use Rattle.layout.proofs.Laws.{laid_shape}
use Rattle.layout.proofs.LayoutReads.{laid_cell, laid-depth, laid-free, laid_no_thread, laid_node, laid_thread, next_in_chain, next_past, next_free}
use Rattle.preserved.proofs.LaidOutIsReadable.{laid_good}
use Rattle.theory.specs.Ledger.{empty_ledger, none}
use Rattle.theory.proofs.Chains.{Chain, ends, link, among, items}
use Rattle.theory.proofs.Counts.{in_chain}
use Rattle.theory.proofs.Effects.{Mound}
use Rattle.theory.proofs.Facts.{At}
use Rattle.theory.proofs.Held.{Held, counted, counts}
use Rattle.theory.proofs.Holders.{head_free, heads, over_all}
use Rattle.theory.proofs.Sorted.{AtMost, Sorted, value_at}
use Rattle.theory.proofs.Steps.{owns}
use Rattle.theory.proofs.Sums.{sum_zero}
use Rattle.bag.proofs.Regions.{Region}

-- cells k, k + 1, .. , n of them, and the first of them
from : ℕ → ℕ → List ℕ
from k zero = []
from k (suc n) = k ∷ from (suc k) n

first : ℕ → ℕ → ℕ
first k zero = 0
first k (suc n) = k

length_from : (k n : ℕ) → length (from k n) ≡ n
unfolding from
length_from k zero = refl
length_from k (suc n) = ap suc (length_from (suc k) n)

-- behind cell k comes the next of them
next_from : (cells k n : ℕ) → 1 ≤ k → k + n ≡ cells → next_free cells k ≡ first (suc k) n
unfolding first
next_from cells k zero l e = next_past cells k (omega arith)
next_from cells k (suc n) l e = next_in_chain cells k l (omega arith) ∙ omega arith

module _ (cell : ℕ → Cell) (cells : ℕ) (next : (c : ℕ) → (cell c).next ≡ next_free cells c) where
  free_chain : (n k : ℕ) → 1 ≤ k → k + n ≡ cells + 1 → Chain cell (λ c. 0) (λ c. cells - c) 0 (first k n) (from k n)
  unfolding from first
  free_chain zero k l e = ends
  free_chain (suc n) k l e =
      link k {cs = from (suc k) n} l refl (omega (arith, length_from (suc k) n))
      (subst (λ c. Chain cell (λ c. 0) (λ c. cells - c) 0 c (from (suc k) n)) (sym (next k ∙ next_from cells k n l (omega arith)))
      (free_chain n (suc k) (omega arith) (omega arith)))

-- the free chain, and nothing anywhere else
listed : ℕ → ℕ → List ℕ
listed cells o = pick (eqb o 0) (from 1 cells) []

listed_free : (cells : ℕ) → listed cells 0 ≡ from 1 cells
unfolding listed pick
listed_free cells = refl

listed_none : (cells o : ℕ) → (o ≡ 0 → ⊥) → listed cells o ≡ []
unfolding listed pick
listed_none cells o n = rw (ne_eqb o 0 n) refl

module _ (s : Shape) (ps b : List ℕ) (e : layout_refusal s ps (length b) ≡ done) where
  abbrev laid : List ℕ
  laid = layout_bytes s ps b

  abbrev m : Shared
  m = shared_in (frame_of s) laid

  abbrev th : ℕ → Thread
  th = thread_in (frame_of s) laid

  range : 1 ≤ s.cells
  range = (laid_shape s ps b e).cells_least

  -- every thread is idle
  pub laid_idle : (t : ℕ) → (p : ℕ) × (thread_in (frame_of s) (layout_bytes s ps b) t ≡ idle_thread p)
  laid_idle t = go (between 1 t s.threads) refl
    where
      go : (q : Bool) → between 1 t s.threads ≡ q → (p : ℕ) × (th t ≡ idle_thread p)
      go true h = (get_or ps (t - 1) 0, laid_thread s ps b e t (between_least 1 t s.threads h) (between_most 1 t s.threads h))
      go false h = (0, laid_no_thread s ps b e t h)

  no_own : (t : ℕ) → (th t).own ≡ 0
  no_own t = ap (λ x. x.own) (laid_idle t).1

  no_head : (o : ℕ) → (o ≡ 0 → ⊥) → heads m.free m.node (owns th) o ≡ 0
  unfolding heads pick
  no_head o n = rw (ne_eqb o 0 n) (go (eqb (o % 2) 0))
    where
      go : (q : Bool) → pick q (m.node (o / 2)).first (th (o / 2)).own ≡ 0
      go true = ap (λ x. x.first) (laid_node s ps b e (o / 2))
      go false = no_own (o / 2)

  all_chains : (o : ℕ) → Chain m.cell (λ c. 0) (λ c. s.cells - c) o (heads m.free m.node (owns th) o) (listed s.cells o)
  unfolding first
  all_chains o = go (ℕ_discrete o 0)
    where
      start : (n : ℕ) → 1 ≤ n → first 1 n ≡ 1
      start zero l = absurd (omega arith)
      start (suc n) l = refl

      go : Dec (o ≡ 0) → Chain m.cell (λ c. 0) (λ c. s.cells - c) o (heads m.free m.node (owns th) o) (listed s.cells o)
      go (yes z) =
          subst (λ y. Chain m.cell (λ c. 0) (λ c. s.cells - c) y (heads m.free m.node (owns th) y)
          (listed s.cells y)) (sym z)
          (subst₂ (λ h l. Chain m.cell (λ c. 0) (λ c. s.cells - c) 0 h l)
          (start s.cells range ∙ sym (head_free m.free m.node (owns th) ∙ laid-free s ps b e)) (sym (listed_free s.cells))
          (free_chain m.cell s.cells (λ c. ap (λ x. x.next) (laid_cell s ps b e c)) s.cells 1 (omega arith) (omega arith)))
      go (no n) =
          subst₂ (λ h l. Chain m.cell (λ c. 0) (λ c. s.cells - c) o h l) (sym (no_head o n)) (sym (listed_none s.cells o n)) ends

  none_at : (n : ℕ) → 1 ≤ n → listed s.cells (2 * n) ≡ []
  none_at n p = listed_none s.cells (2 * n) (λ z. omega arith)

  held : Held s m (owns th) s.cells
  unfolding items over_all
  held =
      record {
        owner = λ c. 0;
        rank = λ c. s.cells - c;
        list = listed s.cells;
        chains = all_chains;
        sorted = λ n p. subst (λ l. Sorted (items m.cell l)) (sym (none_at n p)) tt;
        total =
            let a = sum_zero (λ n. length (listed s.cells (2 * n))) (node_count s) (λ k l u. ap length (none_at k l)) in
            let c = sum_zero (λ t. length (listed s.cells (2 * t + 1))) s.threads
            (λ k l u. ap length (listed_none s.cells (2 * k + 1) (λ z. omega arith))) in
            let f : length (listed s.cells 0) ≡ s.cells = ap length (listed_free s.cells) ∙ length_from 1 s.cells in
            omega (arith, a, c, f);
        few = omega arith;
      }

  no_value : (n : ℕ) → val m n ≡ top_item
  unfolding value_of read_node pick
  no_value n = ap (value_at m.cell) (ap (λ x. x.first) (laid_node s ps b e n))

  mound : Mound s m (owns th) s.cells
  mound =
      record {
        held = held;
        ordered = λ a x p h z. subst₂ (λ u w. AtMost u w) (sym (no_value a)) (sym (no_value x)) (item_refl top_item);
        deep = λ n h. (ap (λ x. x.first) (laid_node s ps b e n), ap (λ x. x.dirty) (laid_node s ps b e n));
        depth_least = omega (arith, laid-depth s ps b e);
        depth_most = omega (arith, laid-depth s ps b e, (laid_shape s ps b e).depth_least);
      }

  empty : (i : Item) → 0 ≡ counted s m i
  unfolding in_chain items among held
  empty i =
      sym
      (counts s m (owns th) held (same_item i)
      ∙ sum_zero (in_chain m.cell (listed s.cells) (same_item i)) (node_count s)
      (λ k l u. ap (λ l. among (same_item i) (items m.cell l)) (none_at k l)))

  pub laid_region : Region (frame_of s) s.cells laid empty_ledger
  unfolding frame_of_width
  laid_region =
      record {
        good = laid_good s ps b e;
        holds =
            record {
              mound = mound;
              at = λ t. subst (λ x. At s m x none x.place) (sym (laid_idle t).1) (refl, refl);
              bag = empty;
            };
      }
