-- The account of cells: walking each list, each hand and the free chain counts the cells of its chain; a thread at I1 to I8 holds one cell, and
-- any other those in hand; together they are all that are held. So no cell is free exactly when tree, begun puts and hands hold these. Where
-- they are C, all cells are accounted for. And some node is empty among more nodes than there are cells in the tree. Assumes nothing.
use Prim.Native.Nat.{ℕ, zero, suc, ◌+◌, ◌*◌, ◌≤◌, ◌<◌}
use native.Mathlib.Decide.{ℕ_discrete}
use native.Mathlib.Omega.{arith}
use mathlib.Core.Path.{◌≡◌, refl, sym, ap, ◌∙◌}
use mathlib.Core.List.{List, [], ◌∷◌}
use borrow.Author.Tests.{ne_eqb}
use lib.Dec.{eqb}
use lib.ListN.{length}
use Rattle.region.specs.Pick.{pick}
use Rattle.region.specs.Shape.{between, node_count}
use Rattle.region.specs.Shared.{Shared}
use Rattle.region.specs.declared.place.Place.{Place}
use Rattle.region.specs.declared.place.Place.TheVariants.{Idle, ReadDepth, ReadLeaf, ReadAncestor, GrowDepth, ReadTarget, InsertAtRoot, ReadParent, InsertBelow, ReadRoot, RemoveHead, MendReadNode, MendReadDepth, MendReadLeft, MendReadRight, MendSwap, MendClean, ListReadRoot, RemoveList, HandOut}
use Rattle.region.specs.declared.record.Cell.{Cell}
use Rattle.region.specs.declared.record.Item.{Item}
use Rattle.region.specs.declared.shape.Shape.{Shape}
use Rattle.region.specs.declared.thread.Thread.{Thread}
use Rattle.permission.specs.Withdraw.{is_put_place}
use Rattle.theory.specs.Account.{any_item, has_hand, in_hands, puts_among}
use Rattle.theory.specs.Ledger.{Ledger, Operation, listing, owing, taking}
use Rattle.theory.specs.Tree.{in_list, in_nodes, list_from, passing}
use Rattle.theory.proofs.Cells.{starts}
use Rattle.theory.proofs.Chains.{Chain, HasItems, among, items, length-items, only_items, walk_counts}
use Rattle.theory.proofs.Counts.{in_chain}
use Rattle.theory.proofs.Facts.{At, Purpose, Puts, Takes, for_answer, for_hands, for_list, for_take}
use Rattle.theory.proofs.Held.{Held, counts, few_held, free_chain, thread_chain}
use Rattle.theory.proofs.Holders.{free_holds, over_all, thread_holds}
use Rattle.theory.proofs.Steps.{Invariant, owns}
use Rattle.theory.proofs.Sums.{sum, sum_same}

-- every item counts
all_count : (cell : ℕ → Cell) (cs : List ℕ) → among any_item (items cell cs) ≡ length cs
unfolding among items pick
all_count cell [] = refl
all_count cell (c ∷ cs) = omega (arith, all_count cell cs)

-- a chain has as many cells as items
cells_of : {cell : ℕ → Cell} {own rank : ℕ → ℕ} {o c : ℕ} {cs : List ℕ} → Chain cell own rank o c cs → (is : List Item)
    → HasItems cell c is → length cs ≡ length is
cells_of {cell = cell} {cs = cs} k is h = sym (length-items cell cs) ∙ ap length (only_items k is h)

-- what a thread at place p holds, walked from its own cell: one cell at I1 to I8, those in hand, or none
module _ (s : Shape) (m : Shared) (t : Thread) (op : Operation) {own rank : ℕ → ℕ} {o : ℕ} {cs : List ℕ}
    (k : Chain m.cell own rank o t.own cs) (few : length cs ≤ s.cells) where
  walked : in_list m any_item s.cells t.own ≡ length cs
  walked = walk_counts m any_item s.cells k few ∙ all_count m.cell cs

  -- the cells that are counted of it
  abbrev Counted : Place → Type 0
  Counted p = length cs ≡ pick (is_put_place p) 1 0 + pick (has_hand p t.after) (in_list m any_item s.cells t.own) 0

  holds_one : Puts m t op → length cs ≡ 1
  holds_one h = cells_of k (t.item ∷ []) h.has

  holds_none : (at : Operation) → Takes m t at op → length cs ≡ 0
  holds_none at h = cells_of k [] h.has

  mends_counted : Purpose m t op → length cs ≡ 0 + pick (eqb t.after 3) (in_list m any_item s.cells t.own) 0
  unfolding pick
  mends_counted (for_take e h) = rw e (holds_none taking h)
  mends_counted (for_answer e h) = rw e (holds_none (owing t.result []) h)
  mends_counted (for_list e h) = rw e (holds_none listing h)
  mends_counted (for_hands e h) = rw e (omega (arith, walked))

  place_counted : (p : Place) → At s m t op p → Counted p
  unfolding is_put_place has_hand between pick
  place_counted Idle h = cells_of k [] h.1
  place_counted ReadDepth h = holds_one h
  place_counted ReadLeaf h = holds_one h.0
  place_counted ReadAncestor h = holds_one h.0
  place_counted GrowDepth h = holds_one h.0
  place_counted ReadTarget h = holds_one h.0
  place_counted InsertAtRoot h = holds_one h.0
  place_counted ReadParent h = holds_one h.0
  place_counted InsertBelow h = holds_one h.0
  place_counted ReadRoot h = holds_none taking h
  place_counted RemoveHead h = holds_none taking h.0
  place_counted (MendReadNode w) h = mends_counted h.0
  place_counted (MendReadDepth w) h = mends_counted h.0.0
  place_counted (MendReadLeft w) h = mends_counted h.0.0
  place_counted (MendReadRight w) h = mends_counted h.0.0
  place_counted (MendSwap w) h = mends_counted h.0.0
  place_counted (MendClean w) h = mends_counted h.0.0
  place_counted ListReadRoot h = holds_none listing h
  place_counted RemoveList h = holds_none listing h.0
  place_counted HandOut h = omega (arith, walked)

-- The counts as sums over chains.
module _ (s : Shape) (m : Shared) (th : ℕ → Thread) (l : Ledger) {all : ℕ} (inv : Invariant s m th l all) where
  abbrev h : Held s m (owns th) all
  h = inv.mound.held

  nodes_sum : in_nodes m any_item s.cells (node_count s) ≡ sum (λ n. length (h.list (2 * n))) (node_count s)
  unfolding in_chain
  nodes_sum =
      counts s m (owns th) h any_item
      ∙ sum_same (λ n. length (h.list (2 * n))) (in_chain m.cell h.list any_item) (node_count s)
      (λ k l u. all_count m.cell (h.list (2 * k)))

  cells_held : (t : ℕ) → 1 ≤ t → t ≤ s.threads
      → length (h.list (2 * t + 1))
      ≡ pick (is_put_place (th t).place) 1 0 + pick (has_hand (th t).place (th t).after) (in_list m any_item s.cells (th t).own) 0
  cells_held t lt ut =
      place_counted s m (th t) (l.operation t) (thread_chain s m (owns th) h t) (few_held s m (owns th) h (2 * t + 1) (thread_holds t lt ut))
      (th t).place (inv.at t)

  threads-sum : (n : ℕ) → n ≤ s.threads → puts_among th n + in_hands m th s.cells n ≡ sum (λ t. length (h.list (2 * t + 1))) n
  unfolding puts_among in_hands sum
  threads-sum zero few = refl
  threads-sum (suc n) few = omega (arith, threads-sum n (omega arith), cells_held (suc n) (omega arith) few)

  free_measured : in_list m any_item s.cells m.free ≡ length (h.list 0)
  free_measured =
      walk_counts m any_item s.cells (free_chain s m (owns th) h) (few_held s m (owns th) h 0 free_holds) ∙ all_count m.cell (h.list 0)

  -- tree, begun puts and hands
  abbrev pub taken : ℕ
  taken = in_nodes m any_item s.cells (node_count s) + puts_among th s.threads + in_hands m th s.cells s.threads

  pub all_cells : taken + in_list m any_item s.cells m.free ≡ all
  unfolding over_all
  all_cells = omega (arith, h.total, nodes_sum, threads-sum s.threads (omega arith), free_measured)

  -- no cell is free exactly when the others hold all
  pub full_without : m.free ≡ 0 → taken ≡ all
  full_without e =
      omega (arith, all_cells, free_measured, cells_of (free_chain s m (owns th) h) [] e)

  pub not_full_with : 1 ≤ m.free → taken ≡ all → ⊥
  not_full_with p e = omega (arith, all_cells, free_measured, ap length (starts (free_chain s m (owns th) h) p).is, e)

-- Where nodes a + 1 to a + k have fewer than k cells in all, one of them is empty.
pub list_some : (m : Shared) (l c : ℕ) → 1 ≤ l → 1 ≤ c → 1 ≤ in_list m any_item l c
unfolding in_list list_from passing pick
list_some m zero c few some = absurd (omega arith)
list_some m (suc l) c few some = rw (ne_eqb c 0 (λ e. omega arith)) (omega arith)

pub some_empty : (m : Shared) (l a k : ℕ) → 1 ≤ l → in_nodes m any_item l (k + a) < k
    → (n : ℕ) × (a < n) × (n ≤ k + a) × ((m.node n).first ≡ 0)
unfolding in_nodes
some_empty m l a zero least few = absurd (omega arith)
some_empty m l a (suc k) least few = go (ℕ_discrete (m.node (suc (k + a))).first 0) (some_empty m l a k least)
  where
    go : Dec ((m.node (suc (k + a))).first ≡ 0)
        → (in_nodes m any_item l (k + a) < k → (n : ℕ) × (a < n) × (n ≤ k + a) × ((m.node n).first ≡ 0))
        → (n : ℕ) × (a < n) × (n ≤ suc k + a) × ((m.node n).first ≡ 0)
    go (yes e) before = (suc (k + a), omega arith, omega arith, e)
    go (no e) before =
        let same : suc k + a ≡ suc (k + a) = omega arith in
        let x = before (omega (arith, few, ap (in_nodes m any_item l) same, list_some m l (m.node (suc (k + a))).first least (omega arith))) in
        (x.0, x.1, omega (arith, x.2), x.3)
