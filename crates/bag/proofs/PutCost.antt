-- A put alone at depth D is inserted within 2^D + 7 accesses. Its cell was free: so the tree has fewer cells than there are leaves of level D, and
-- one of these is empty, which is above every item. Assumes nothing.
use Prim.Native.Nat.{ℕ, ◌+◌, ◌-◌, ◌^◌, ◌≤◌, ◌<◌}
use native.Mathlib.Omega.{arith}
use mathlib.Core.Path.{◌≡◌, refl, sym, ap, subst, ◌∙◌}
use mathlib.Core.Bool.{false, true}
use mathlib.Core.List.{List}
use borrow.Author.Tests.{eq-eqb}
use lib.Pow.{pow_pos}
use Rattle.region.specs.Refusal.{done}
use Rattle.region.specs.Frame.{frame_of_width}
use Rattle.region.specs.Pick.{pick}
use Rattle.region.specs.Shape.{node_count}
use Rattle.region.specs.Shared.{Shared, shared_in, thread_in}
use Rattle.region.specs.Thread.{begun_put, with_permission}
use Rattle.region.specs.declared.answer.Answer.TheVariants.{Inserted}
use Rattle.region.specs.declared.frame.Frame.{Frame}
use Rattle.region.specs.declared.record.Item.{Item}
use Rattle.region.proofs.Levels.{power_doubles}
use Rattle.region.proofs.Picks.{upd_same}
use Rattle.access.specs.Order.{item_le, top_item, val, value_of}
use Rattle.access.specs.Read.{read_node}
use Rattle.access.proofs.OrderLaws.{item_below_top, item_total}
use Rattle.readable.specs.Readable.{frame_in, readable}
use Rattle.readable.proofs.Laws.{Good, good}
use Rattle.permission.specs.Grants.{may_put}
use Rattle.begin.specs.Begin.{accepted_put, put_bytes, put_refusal}
use Rattle.begin.proofs.Laws.{put_refusal_in_lem}
use Rattle.insert.proofs.Laws.{LeafOf}
use Rattle.preserved.proofs.Proved.{PutPassed, accepted_put_keeps, put_free, put_key, put_least, put_most, put_passed, put_tag}
use Rattle.theory.specs.Account.{any_item}
use Rattle.theory.specs.Tree.{in_nodes}
use Rattle.theory.proofs.Account.{list_some, some_empty}
use Rattle.bag.specs.Account.{AllCellsAccounted, free_cells, tree_cells}
use Rattle.bag.specs.Alone.{Alone, Between, EndsAt, steps_of}
use Rattle.bag.specs.PutCost.{PutsEnd}
use Rattle.bag.proofs.Alone.{Ends, StillSo, ends_alone}
use Rattle.bag.proofs.Begun.{begun, put_shared, put_threads}
use Rattle.bag.proofs.PutAlone.{end, inserting, put_ends}

-- an empty node is above every item that a put may have
above_all : (m : Shared) (n : ℕ) (i : Item) → (m.node n).first ≡ 0 → item_le top_item i ≡ false → item_le i (val m n) ≡ true
unfolding value_of read_node pick
above_all m n i e h = rw (eq-eqb (m.node n).first 0 e) (item_total top_item i h)

-- A put begun at depth D on bytes in range.
module _ (f : Frame) (b : List ℕ) (t : ℕ) (i : Item) (g : Good f b) (passed : PutPassed f b t i)
    (deepest : (shared_in f b).depth ≡ f.shape.depth) where
  abbrev D : ℕ
  D = f.shape.depth

  -- shared memory once it is begun
  abbrev m : Shared
  m = begun f b g t i passed

  t_least : 1 ≤ t
  t_least = put_least f b t i passed

  t_most : t ≤ f.shape.threads
  t_most = put_most f b t i passed

  begun_so : StillSo f t m (begun_put (thread_in f b t) i (shared_in f b).free) (accepted_put f b t i)
  unfolding begun_put with_permission shared_in
  begun_so =
      record {
        good = (accepted_put_keeps f b t i passed g).good;
        shared = put_shared f b g t i passed;
        permission = (thread_in f b t).permission;
        thread = ap (λ h. h t) (put_threads f b g t i passed) ∙ upd_same (thread_in f b) t _;
      }

  -- an empty leaf of level D
  module _ (leaf : ℕ) (at_depth : LeafOf D leaf) (empty : ((shared_in f b).node leaf).first ≡ 0) where
    inserted : (xs : List Between) → Alone may_put f (accepted_put f b t i) t xs (end f t t_least t_most g.range m deepest i)
        → Ends (inserting f t t_least t_most g.range m deepest i) 0 (steps_of f (accepted_put f b t i) t xs)
    unfolding begun_put shared_in
    inserted xs a =
        let u = begun_put (thread_in f b t) i (shared_in f b).free in
        ends_alone (inserting f t t_least t_most g.range m deepest i) 0 (2 ^ D + 7) m u (accepted_put f b t i) xs
        (put_ends f t t_least t_most g.range m deepest i leaf at_depth
        (above_all m leaf i empty (item_below_top i (omega (arith, put_key f b t i passed)) (put_tag f b t i passed)))
        u refl refl (omega (arith, put_free f b t i passed)))
        begun_so a (omega arith)

  -- there is one, where the free cell is none of the tree's
  free_leaf : in_nodes (shared_in f b) any_item f.shape.cells (node_count f.shape) < f.shape.cells
      → (leaf : ℕ) × LeafOf D leaf × (((shared_in f b).node leaf).first ≡ 0)
  free_leaf few =
      let half = 2 ^ (D - 1) in
      let twice = power_doubles D g.range.depth_least in
      let all : half + (half - 1) ≡ node_count f.shape = omega (arith, twice, pow_pos (D - 1)) in
      let x = some_empty (shared_in f b) f.shape.cells (half - 1) half g.range.cells_least
      (omega (arith, few, ap (in_nodes (shared_in f b) any_item f.shape.cells) all, g.range.cells_most)) in
      (x.0, record { least = omega (arith, x.1); most = omega (arith, x.2, twice, pow_pos (D - 1)) }, x.3)

-- on a region of one queue
begun_is : (b : List ℕ) (t : ℕ) (i : Item) → put_refusal b t i ≡ done → put_bytes b t i ≡ accepted_put (frame_in b) b t i
unfolding put_bytes pick
begun_is b t i e = rw (eq-eqb (put_refusal b t i) done e) refl

-- where a cell is free, the tree does not have all
not_all : (b : List ℕ) → AllCellsAccounted b → 1 ≤ (frame_in b).shape.cells → 1 ≤ (shared_in (frame_in b) b).free
    → in_nodes (shared_in (frame_in b) b) any_item (frame_in b).shape.cells (node_count (frame_in b).shape) < (frame_in b).shape.cells
unfolding tree_cells free_cells frame_of_width
not_all b all least free = let m = shared_in (frame_in b) b in omega (arith, all, list_some m (frame_in b).shape.cells m.free least free)

pub puts_end : (b : List ℕ) → readable b ≡ true → AllCellsAccounted b → PutsEnd b
unfolding frame_of_width shared_in
puts_end b r all t i xs a =
    let f = frame_in b in
    let g = good b r in
    let passed = put_passed f b t i (sym (put_refusal_in_lem b r t i) ∙ a.begun) in
    let same = begun_is b t i a.begun in
    let leaf = free_leaf f b t i g passed a.deepest (not_all b all g.range.cells_least (omega (arith, put_free f b t i passed))) in
    let h = inserted f b t i g passed a.deepest leaf.0 leaf.1 leaf.2 xs
    (subst (λ x. Alone may_put f x t xs (2 ^ f.shape.depth + 7)) same a.alone) in
    let few : 0 + h.count ≤ 2 ^ f.shape.depth + 7 = h.total in
    (h.count, omega arith, subst (λ x. EndsAt (λ y. y.answer ≡ Inserted) h.count (steps_of f x t xs)) (sym same) h.ends)
