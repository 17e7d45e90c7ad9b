-- A take alone on a laid-out region costs its figure, and so at most 5 × d accesses. The idle and refused turns of others leave it alone;
-- and the root's head stands in no other list, so that E2, which frees its cell, leaves every value from which the figure is computed.
-- Assumes nothing.
use Prim.Native.Nat.{ℕ, ◌+◌, ◌-◌, ◌≤◌, ◌<◌}
use native.Mathlib.Decide.{ℕ_discrete}
use native.Mathlib.Omega.{arith}
use mathlib.Core.Path.{◌≡◌, refl, sym, ap, subst, ◌∙◌}
use mathlib.Core.Bool.{Bool, true, false}
use mathlib.Core.List.{List, ◌∷◌}
use borrow.Author.Tests.{eq-eqb}
use Rattle.region.specs.Refusal.{done}
use Rattle.region.specs.Pick.{pick}
use Rattle.region.specs.Record.{empty_node}
use Rattle.region.specs.Shape.{between, node_count}
use Rattle.region.specs.Shared.{Shared, load_entry, node_in, shared_in, thread_in}
use Rattle.region.specs.Thread.{at_place, with_permission}
use Rattle.region.specs.declared.frame.Frame.{Frame}
use Rattle.region.specs.declared.place.Place.TheVariants.{ReadRoot}
use Rattle.region.proofs.Picks.{upd_same, upd_other}
use Rattle.region.proofs.Shapes.{between_least, between_most}
use Rattle.access.specs.Effect.{effect_shared}
use Rattle.access.specs.Order.{val, value_of}
use Rattle.access.specs.Read.{read_node, updated}
use Rattle.access.proofs.ReadLaws.{updated-first}
use Rattle.readable.specs.Readable.{frame_in, readable}
use Rattle.readable.proofs.Laws.{Good, good}
use Rattle.permission.specs.Grants.{may_take}
use Rattle.begin.specs.Begin.{accepted_take, one_item, take_bytes, take_refusal}
use Rattle.begin.proofs.Laws.{take_refusal_in_lem}
use Rattle.cost.specs.Cost.{levels_down, rest_level, take_cost, without_head}
use Rattle.cost.proofs.Laws.{cost_ceiling, cost_counted, cost_empty, cost_full, levels_same, rest_most}
use Rattle.preserved.proofs.Proved.{TakePassed, accepted_take_keeps, take_least, take_most, take_passed}
use Rattle.theory.specs.Tree.{list_from}
use Rattle.theory.proofs.Chains.{list_behind, next_apart}
use Rattle.theory.proofs.Effects.{Mound, PopAllowed, in_tree, pop_others, root_there}
use Rattle.theory.proofs.Held.{few_cells, node_chain}
use Rattle.bag.specs.Alone.{Alone, Between, EndsAt, Step, last, moved_then, steps_of}
use Rattle.bag.specs.TakeCost.{AllClean, LastAccess, TakesCost, TakesEnd, list_of, root_head}
use Rattle.bag.proofs.Alone.{Ends, Goal, StillSo, ends_alone}
use Rattle.bag.proofs.Begun.{take_shared, take_threads}
use Rattle.bag.proofs.TakeAlone.{empty_ends, finding_nothing, popped, resting, root_rests}

-- what holds of the last turn may be weakened
ends_so : {P Q : Step → Type 0} {n : ℕ} {xs : List Step} → ((x : Step) → P x → Q x) → EndsAt P n xs → EndsAt Q n xs
ends_so h (last {x = x} p) = last (h x p)
ends_so h (moved_then e more) = moved_then e (ends_so h more)

-- A take begun on bytes in range.
module _ (f : Frame) (b : List ℕ) (t : ℕ) (xs : List Between) (r : Good f b) (passed : TakePassed f b t) where
  t_least : 1 ≤ t
  t_least = take_least f b t passed

  t_most : t ≤ f.shape.threads
  t_most = take_most f b t passed

  abbrev begun : List ℕ
  begun = accepted_take f b t ReadRoot

  begun_so : StillSo f t (shared_in f b) (at_place (thread_in f b t) ReadRoot) begun
  unfolding at_place with_permission
  begun_so =
      record {
        good = (accepted_take_keeps f b t passed r ReadRoot one_item).good;
        shared = take_shared f b r t ReadRoot;
        permission = (thread_in f b t).permission;
        thread = ap (λ h. h t) (take_threads f b r t passed ReadRoot one_item) ∙ upd_same (thread_in f b) t (at_place (thread_in f b t) ReadRoot);
      }

  module _ (clean : AllClean f b) where
    past : (x : ℕ) → between 1 x (node_count f.shape) ≡ false → node_in f b x ≡ empty_node
    unfolding node_in load_entry pick
    past x n = rw n refl

    -- a number that no node has reads as a clean one
    clean_all : (x : ℕ) → (node_in f b x).dirty ≡ 0
    clean_all x = go (between 1 x (node_count f.shape)) refl
      where
        go : (q : Bool) → between 1 x (node_count f.shape) ≡ q → (node_in f b x).dirty ≡ 0
        go true h = clean x (between_least 1 x (node_count f.shape) h) (between_most 1 x (node_count f.shape) h)
        go false h = ap (λ n. n.dirty) (past x h)

    -- an empty root: 1 access
    take_empty : (node_in f b 1).first ≡ 0 → (n : ℕ) → 1 ≤ n → Alone may_take f begun t xs n
        → Ends (finding_nothing f t t_least t_most) 0 (steps_of f begun t xs)
    unfolding shared_in at_place
    take_empty none n long a =
        let u = at_place (thread_in f b t) ReadRoot in
        ends_alone (finding_nothing f t t_least t_most) 0 n (shared_in f b) u begun xs
        (empty_ends f t t_least t_most (shared_in f b) u refl none (clean_all 1)) begun_so a (omega arith)

    -- any other, with the cells in order
    module _ (own : ℕ → ℕ) {all : ℕ} (g : Mound f.shape (shared_in f b) own all)
        (full : ((shared_in f b).node 1).first ≡ 0 → ⊥) where
      abbrev m : Shared
      m = shared_in f b

      abbrev c : ℕ
      c = (m.node 1).first

      abbrev second : ℕ
      second = (m.cell c).next

      some : 1 ≤ c
      some = omega (arith, full)

      asks : PopAllowed m (updated (m.node 1) second 1) c
      unfolding shared_in
      asks = record { clean = clean_all 1; head = refl; cell = some; value = refl }

      -- E2 leaves the value of every other node, and the root that of its second cell
      values_kept : (x : ℕ) → 1 < x → val (popped m) x ≡ val m x
      unfolding popped without_head effect_shared
      values_kept x l = ap value_of (pop_others f.shape m own g (updated (m.node 1) second 1) c asks x (omega arith) (λ e. omega arith))

      root_kept : val (popped m) 1 ≡ val (without_head m) 1
      unfolding popped without_head read_node
      root_kept =
          let begins : ((without_head m).node 1).first ≡ second =
          ap (λ x. x.first) (upd_same m.node 1 (updated (m.node 1) second 1)) ∙ updated-first (m.node 1) second 1 in
          ap (λ x. value_of (record { node = (without_head m).node 1; head = x }))
          (upd_other m.cell c ((without_head m).node 1).first _
          (λ z. next_apart (node_chain f.shape m own g.held 1 (omega arith)) some (sym begins ∙ z)))

      goes : 1 + levels_down (val (popped m)) (val (popped m) 1) (m.depth - 1) 1 ≡ rest_level m
      unfolding rest_level
      goes =
          ap (λ x. 1 + x)
          (ap (λ v. levels_down (val (popped m)) v (m.depth - 1) 1) root_kept
          ∙ levels_same (val m) (val (popped m)) (val (without_head m) 1) (m.depth - 1) 1 (omega arith) values_kept)

      behind : list_of f b 1 ≡ root_head f b ∷ list_from (popped m).cell f.shape.cells second
      unfolding popped without_head shared_in
      behind =
          list_behind (popped m).cell f.shape.cells (node_chain f.shape m own g.held 1 (omega arith)) some
          (λ d n. upd_other m.cell c d _ n)
          (few_cells f.shape m own g.held 1 (omega arith) (in_tree f.shape m own g 1 (root_there f.shape m own g)))

      abbrev rests : Goal
      rests = resting f t t_least t_most b m.depth (rest_level m) (popped m).cell second behind

      take_rests : (n : ℕ) → rests.end ≤ 3 + n → Alone may_take f begun t xs n → Ends rests 3 (steps_of f begun t xs)
      unfolding at_place shared_in
      take_rests n long a =
          let u = at_place (thread_in f b t) ReadRoot in
          ends_alone rests 3 n m u begun xs
          (root_rests f t t_least t_most b m.depth (rest_level m) (popped m).cell second behind r.range g.depth_least
          g.depth_most m refl full clean_all refl refl refl goes u refl)
          begun_so a long

-- on a region of one queue
begun_is : (b : List ℕ) (t : ℕ) → take_refusal b t ≡ done → take_bytes b t ReadRoot ≡ accepted_take (frame_in b) b t ReadRoot
unfolding take_bytes pick
begun_is b t e = rw (eq-eqb (take_refusal b t) done e) refl

-- The figure, on a readable region whose cells are in order.
pub take_costs : (b : List ℕ) → readable b ≡ true → (own : ℕ → ℕ) {all : ℕ}
    → Mound (frame_in b).shape (shared_in (frame_in b) b) own all → TakesCost b
unfolding shared_in
take_costs b r own g t xs a =
    subst (λ x. EndsAt (LastAccess b t) (take_cost m) (steps_of f x t xs)) (sym same) (go (ℕ_discrete (node_in f b 1).first 0))
  where
    f : Frame
    f = frame_in b

    m : Shared
    m = shared_in f b

    begun : List ℕ
    begun = accepted_take f b t ReadRoot

    same : take_bytes b t ReadRoot ≡ begun
    same = begun_is b t a.begun

    passed : TakePassed f b t
    passed = take_passed f b t (sym (take_refusal_in_lem b r t) ∙ a.begun)

    alone : Alone may_take f begun t xs (take_cost m)
    alone = subst (λ x. Alone may_take f x t xs (take_cost m)) same a.alone

    go : Dec ((node_in f b 1).first ≡ 0) → EndsAt (LastAccess b t) (take_cost m) (steps_of f begun t xs)
    go (yes none) =
        let e = cost_empty m none in
        let h = take_empty f b t xs (good b r) passed a.clean none (take_cost m) (omega (arith, e)) alone in
        subst (λ n. EndsAt (LastAccess b t) n (steps_of f begun t xs)) (omega (arith, e, h.total))
        (ends_so (λ x h. record { empty = λ z. h; mended = λ full. absurd (full none) }) h.ends)
    go (no full) =
        let e = cost_full m full in
        let k = cost_counted m.depth (rest_level m) (rest_most m g.depth_least) in
        let h = take_rests f b t xs (good b r) passed a.clean own g full (take_cost m) (omega (arith, e, k)) alone in
        subst (λ n. EndsAt (LastAccess b t) n (steps_of f begun t xs)) (omega (arith, e, k, h.total))
        (ends_so (λ x l. record { empty = λ z. absurd (full z); mended = λ n. l }) h.ends)

-- The ceiling follows: the figure is at most 5 × d.
pub costs_end : (b : List ℕ) → 1 ≤ (shared_in (frame_in b) b).depth → TakesCost b → TakesEnd b
costs_end b some costs t xs a =
    let m = shared_in (frame_in b) b in
    let c = cost_ceiling m some in (
      take_cost m,
      c.0,
      c.1,
      costs t xs
          (record {
            begun = a.begun;
            clean = a.clean;
            alone =
                record {
                  quiet = a.alone.quiet;
                  permission = a.alone.permission;
                  unspent = a.alone.unspent;
                  enough = omega (arith, a.alone.enough);
                };
          }),
    )
