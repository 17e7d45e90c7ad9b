-- A take alone on clean nodes, place by place, from E1 to where the root's list without its head comes to rest: E1 and E2, M1 to M5 for
-- each level gone down, then M1 to M4 and M6, or M1, M2 and M6 at level d. So 5 × j + 2 accesses for a level j above d, 5 × d for level d.
-- Assumes nothing.
use Prim.Native.Nat.{ℕ, zero, suc, ◌+◌, ◌-◌, ◌*◌, ◌^◌, ◌≤◌, ◌<◌, min}
use native.Mathlib.Decide.{ℕ_discrete}
use native.Mathlib.Omega.{arith}
use mathlib.Core.Path.{◌≡◌, refl, sym, ap, subst, ◌∙◌}
use mathlib.Core.Bool.{Bool, true, false, ◌||◌}
use mathlib.Core.List.{List, ◌∷◌}
use borrow.Author.Tests.{eq-eqb, ne_eqb}
use lib.Dec.{eqb}
use lib.Pow.{pow_mono}
use Rattle.region.specs.Level.{digits, level}
use Rattle.region.specs.Pick.{pick, upd}
use Rattle.region.specs.Shape.{between, node_count}
use Rattle.region.specs.Inner.{InRange}
use Rattle.region.specs.Shared.{Shared, shared_in}
use Rattle.region.specs.Thread.{at_place, gone_idle, mending, with_after, with_copies, with_depth, with_first, with_node, with_permission, with_result, with_second, with_third}
use Rattle.region.specs.declared.answer.Answer.TheVariants.{Moved, Took, Empty}
use Rattle.region.specs.declared.frame.Frame.{Frame}
use Rattle.region.specs.declared.place.Place.{Place}
use Rattle.region.specs.declared.place.Place.TheVariants.{ReadRoot, RemoveHead, MendReadNode, MendReadDepth, MendReadLeft, MendReadRight, MendSwap, MendClean}
use Rattle.region.specs.declared.record.Cell.{Cell}
use Rattle.region.specs.declared.record.Item.{Item}
use Rattle.region.specs.declared.record.Node.{Node}
use Rattle.region.specs.declared.shape.Shape.{Shape}
use Rattle.region.specs.declared.thread.Thread.{Thread}
use Rattle.region.proofs.Levels.{level_holds, power_doubles}
use Rattle.region.proofs.Picks.{upd_same, upd_other}
use Rattle.region.proofs.Shapes.{is_between, sizes}
use Rattle.access.specs.Effect.{effect_shared, freed}
use Rattle.access.specs.Order.{val, value_of}
use Rattle.access.specs.Plan.{changes_nothing, moved, on_to, plan}
use Rattle.access.specs.Read.{is_dirty, is_node, is_spent, read_node, updated}
use Rattle.access.specs.declared.effect.Effect.TheVariants.{Nothing, Pop, Exchange, Clean}
use Rattle.access.proofs.ReadLaws.{updated-dirty, updated-first}
use Rattle.extract.specs.Extract.{after_root_read, read_root, after_removal, cas_root, remove_head}
use Rattle.moundify.specs.Moundify.{returning, mend_read_node, after_depth_read, mend_read_depth, mend_read_left, less_below, child_less, after_children_read, mend_read_right, exchange_at, node_and_child_same, exchange_with, clean_at, mend_clean, return_answer}
use Rattle.permission.specs.Grants.{may_take}
use Rattle.permission.specs.Withdraw.{is_take_place}
use Rattle.machine.specs.Turn.{decide, turn_answer, turn_bytes, turn_plan}
use Rattle.cost.specs.Cost.{lesser_child, levels_down, without_head}
use Rattle.cost.proofs.Laws.{goes_down, lesser_is_child, levels_same, rests_deepest, rests_there, swaps_as_placed, tests_as_placed}
use Rattle.preserved.proofs.TreeLevels.{level_child}
use Rattle.theory.specs.Tree.{list_from}
use Rattle.theory.proofs.Sorted.{value_at}
use Rattle.bag.specs.Alone.{Step}
use Rattle.bag.specs.History.{root_item}
use Rattle.bag.specs.TakeCost.{LeavesList, list_of, root_head}
use Rattle.bag.proofs.Alone.{EndsFrom, EndsNow, Goal, any_permission, at_mending, at_take, comes_to_end, goes_on, moves, same_copy}
use Rattle.bag.proofs.Carried.{turn_shared}

-- shared memory after E2, which frees the head's cell
unfoldable pub popped : Shared → Shared
popped m = freed (without_head m) (m.node 1).first

not_dirty : {n q : Node} → q ≡ n → n.dirty ≡ 0 → is_dirty q ≡ false
unfolding is_dirty
not_dirty {n} {q} e h = ap is_dirty e ∙ rw (eq-eqb n.dirty 0 h) refl

still_dirty : {n q : Node} → q ≡ n → n.dirty ≡ 1 → is_dirty q ≡ true
unfolding is_dirty
still_dirty {n} {q} e h = ap is_dirty e ∙ rw (ne_eqb n.dirty 0 (λ z. omega arith)) refl

-- node n, the only one that may be dirty, is made clean
clean_now : (f : ℕ → Node) (n : ℕ) (v : Node) → v.dirty ≡ 0 → ((x : ℕ) → (x ≡ n → ⊥) → (f x).dirty ≡ 0) → (x : ℕ) → (upd f n v x).dirty ≡ 0
clean_now f n v e h x = go (ℕ_discrete x n)
  where
    go : Dec (x ≡ n) → (upd f n v x).dirty ≡ 0
    go (yes k) = ap (λ y. (upd f n v y).dirty) k ∙ ap (λ y. y.dirty) (upd_same f n v) ∙ e
    go (no k) = ap (λ y. y.dirty) (upd_other f n x v k) ∙ h x k

-- the same, and node c changes too
clean_but : (f : ℕ → Node) (n c : ℕ) (v w : Node) → v.dirty ≡ 0 → ((x : ℕ) → (x ≡ n → ⊥) → (f x).dirty ≡ 0)
    → (x : ℕ) → (x ≡ c → ⊥) → (upd (upd f n v) c w x).dirty ≡ 0
clean_but f n c v w e h x nc = ap (λ y. y.dirty) (upd_other (upd f n v) c x w nc) ∙ clean_now f n v e h x

module _ (f : Frame) (t : ℕ) (t_least : 1 ≤ t) (t_most : t ≤ f.shape.threads) where
  abbrev s : Shape
  s = f.shape

  -- what a take is to end with, after `end` accesses exactly
  abbrev pub taking : ℕ → (Step → Type 0) → Goal
  taking end last =
      record {
        frame = f;
        thread = t;
        least = t_least;
        most = t_most;
        may = may_take;
        end = end;
        Total = λ n. n ≡ end;
        Last = last;
      }

  -- E1 at an empty root answers empty.
  abbrev pub finding_nothing : Goal
  finding_nothing = taking 1 (λ x. x.answer ≡ Empty)

  empty_now : (m : Shared) (u : Thread) → u.place ≡ ReadRoot → (m.node 1).first ≡ 0 → (m.node 1).dirty ≡ 0 → EndsNow finding_nothing 0 m u
  unfolding turn_answer between is_take_place read_root after_root_read plan pick read_node
  empty_now m u place none clean =
      comes_to_end finding_nothing 0 m u (omega arith) false (plan Nothing (gone_idle u) Empty)
      (λ may c. at_take s m u c place refl may ∙ rw (not_dirty {n = m.node 1} refl clean, eq-eqb (m.node 1).first 0 none) refl)
      refl
      (λ b c g em eu e. ap (λ x. x.answer) e)

  pub empty_ends : (m : Shared) (u : Thread) → u.place ≡ ReadRoot → (m.node 1).first ≡ 0 → (m.node 1).dirty ≡ 0
      → EndsFrom finding_nothing 0 m u
  unfolding with_permission
  empty_ends m u place none clean = any_permission finding_nothing 0 m u λ n. empty_now m (with_permission u n) place none clean

  -- A take begun on the region b₀. Its root's list without its head begins with the cell `first` of these cells, and is to come to rest at
  -- level j, d being the present depth.
  module _ (b₀ : List ℕ) (d j : ℕ) (cell : ℕ → Cell) (first : ℕ)
      (behind : list_of f b₀ 1 ≡ root_head f b₀ ∷ list_from cell f.shape.cells first) where
    -- Accesses made are counted from 3 at E1: so 4 at E2, 5 × l at M1 of a node of level l, and this when the list has come to rest.
    abbrev pub end : ℕ
    end = min (5 * j + 5) (5 * d + 3)

    -- the list comes to rest
    abbrev pub resting : Goal
    resting = taking end (LeavesList f b₀ t j)

    abbrev RestsFrom : ℕ → Shared → Thread → Type 0
    RestsFrom = EndsFrom resting

    abbrev RestsNow : ℕ → Shared → Thread → Type 0
    RestsNow = EndsNow resting

    -- Mending at level l: the thread's node has the list and is dirty, and no other is.
    record Mending (l : ℕ) (m : Shared) (u : Thread) (p : Place) : Type 0 where
      place : u.place ≡ p
      after : u.after ≡ 1
      result : u.result ≡ root_item f b₀
      some : 1 ≤ u.node
      few : u.node ≤ node_count s
      at_level : level u.node ≡ l
      above : l ≤ d
      depth : m.depth ≡ d
      dirty : (m.node u.node).dirty ≡ 1
      clean : (x : ℕ) → (x ≡ u.node → ⊥) → (m.node x).dirty ≡ 0
      cells : m.cell ≡ cell
      list : (m.node u.node).first ≡ first
      goes : l + levels_down (val m) (val m u.node) (d - l) u.node ≡ j

    -- it goes on in any record with the same node, after and result
    kept : {l : ℕ} {m : Shared} {u : Thread} {p : Place} → Mending l m u p → (v : Thread) (q : Place) → v.place ≡ q → v.after ≡ u.after
        → v.result ≡ u.result → v.node ≡ u.node → Mending l m v q
    kept {l = l} {m = m} h v q ep ea er en =
        record {
          place = ep;
          after = ea ∙ h.after;
          result = er ∙ h.result;
          some = omega (arith, en, h.some);
          few = omega (arith, en, h.few);
          at_level = ap level en ∙ h.at_level;
          above = h.above;
          depth = h.depth;
          dirty = ap (λ n. (m.node n).dirty) en ∙ h.dirty;
          clean = λ x n. h.clean x (λ e. n (e ∙ sym en));
          cells = h.cells;
          list = ap (λ n. (m.node n).first) en ∙ h.list;
          goes = ap (λ n. l + levels_down (val m) (val m n) (d - l) n) en ∙ h.goes;
        }

    kept_with : {l : ℕ} {m : Shared} {u : Thread} {p : Place} → Mending l m u p → (n : ℕ) → Mending l m (with_permission u n) p
    unfolding with_permission
    kept_with {u = u} {p = p} h n = kept h (with_permission u n) p h.place refl refl refl

    -- M6: the node becomes clean, and the take answers.
    cleaning_now : (l spent : ℕ) (m : Shared) (u : Thread) → Mending l m u (MendClean 0) → u.copies.first ≡ read_node m u.node → l ≡ j
        → spent + 1 ≡ end → RestsNow spent m u
    unfolding between mend_clean clean_at returning return_answer plan pick shared_in turn_answer effect_shared read_node
    cleaning_now l spent m u h copied there exact =
        let n = u.copies.first.node in
        let v = updated n n.first 0 in
        let same : n ≡ m.node u.node = ap (λ q. q.node) copied in
        comes_to_end resting spent m u (omega arith) (is_spent n) (returning (Clean u.node v) u 0)
        (λ may c. at_mending s m u c h.place refl ∙ rw (ne_eqb u.node 0 (λ z. omega (arith, h.some)), same_copy same) refl)
        exact
        (λ b c g em eu e.
        let answered : (turn_plan f b t c).answer ≡ Took u.result =
        ap (λ x. x.answer) e ∙ rw (eq-eqb u.after 1 h.after) refl
        in
        let after : shared_in f (turn_bytes f b t c) ≡ effect_shared m (Clean u.node v) =
        turn_shared f b t c g (ap changes_nothing answered) ∙ (λ i. effect_shared (em i) (e i).effect)
        in
        let begins : (upd m.node u.node v u.node).first ≡ first =
        ap (λ x. x.first) (upd_same m.node u.node v) ∙ updated-first n n.first 0 ∙ ap (λ x. x.first) same ∙ h.list
        in
        record {
          node = u.node;
          at_level = h.at_level ∙ there;
          place = ap (λ x. x.place) eu ∙ h.place;
          mends = ap (λ x. x.node) eu;
          dirty = ap (λ x. (x.node u.node).dirty) em ∙ h.dirty;
          others = λ x k. ap (λ y. (y.node x).dirty) em ∙ h.clean x k;
          clean = λ x p q. ap (λ y. (y.node x).dirty) after ∙ clean_now m.node u.node v (updated-dirty n n.first 0) h.clean x;
          list =
              behind
              ∙ ap (λ xs. root_head f b₀ ∷ xs)
              (sym (ap (λ y. list_from y.cell f.shape.cells (y.node u.node).first) after
              ∙ (λ i. list_from (h.cells i) f.shape.cells (begins i))));
          answer = answered ∙ ap Took h.result;
        })

    clean_rests : (l spent : ℕ) (m : Shared) (u : Thread) → Mending l m u (MendClean 0) → u.copies.first ≡ read_node m u.node → l ≡ j
        → spent + 1 ≡ end → RestsFrom spent m u
    unfolding with_permission
    clean_rests l spent m u h copied there exact =
        any_permission resting spent m u λ n. cleaning_now l spent m (with_permission u n) (kept_with h n) copied there exact

    module _ (r : InRange s) (deep : d ≤ s.depth) (l : ℕ) (least : 1 ≤ l)
        (child : (m : Shared) (u : Thread) → Mending (l + 1) m u (MendReadNode 0) → RestsFrom (5 * (l + 1)) m u) where
      -- M5: the list goes down to child c, whose copied node is k.
      module _ (m : Shared) (u : Thread) (h : Mending l m u (MendSwap 0)) (copied : u.copies.first ≡ read_node m u.node)
          (higher : l < d) where
        -- what the exchange leaves of the values: c has the list's, and what lies behind c is as it was
        module _ (c : ℕ) (v w : Node) (child_of : 2 * u.node ≤ c) (gets : w.first ≡ (m.node u.node).first) where
          below : Shared
          below = effect_shared m (Exchange u.node v c w)

          value_below : val below c ≡ val m u.node
          unfolding below effect_shared value_of read_node
          value_below =
              ap (value_at m.cell) (ap (λ x. x.first) (upd_same (upd m.node u.node v) c w) ∙ gets)

          values_behind : (x : ℕ) → c < x → val below x ≡ val m x
          unfolding below effect_shared read_node
          values_behind x b =
              ap (λ y. value_of (record { node = y; head = m.cell y.first }))
              (upd_other (upd m.node u.node v) c x w (λ e. omega arith)
              ∙ upd_other m.node u.node x v (λ e. omega (arith, h.some)))

          levels_below : levels_down (val below) (val below c) (d - (l + 1)) c ≡ levels_down (val m) (val m u.node) (d - (l + 1)) c
          levels_below =
              ap (λ x. levels_down (val below) x (d - (l + 1)) c) value_below
              ∙ levels_same (val m) (val below) (val m u.node) (d - (l + 1)) c (omega (arith, h.some)) values_behind

        exchange_now : (c : ℕ) (k : Node) → 2 * u.node ≤ c → c ≤ 2 * u.node + 1 → c ≤ node_count s → k ≡ m.node c
            → l + 1 + levels_down (val m) (val m u.node) (d - (l + 1)) c ≡ j
            → ((x : ℕ) → decide s m u x ≡ exchange_with s m u 0 c k) → RestsNow (5 * l + 4) m u
        unfolding exchange_with exchange_at node_and_child_same is_node effect_shared plan pick mending at_place with_node below read_node
        exchange_now c k lo hi there second on decides =
            let n = u.copies.first.node in
            let v = updated n k.first 0 in
            let w = updated k n.first 1 in
            let z = h.some in
            let same : n ≡ m.node u.node = ap (λ q. q.node) copied in
            let gets : w.first ≡ (m.node u.node).first = updated-first k n.first 1 ∙ ap (λ x. x.first) same in
            moves resting (5 * l + 4) m u (omega arith) (is_spent n || is_spent k) (plan (Exchange u.node v c w) (mending u c 0) Moved)
            (λ may x. decides x
            ∙ rw (ne_eqb u.node 0 (λ e. omega arith), is_between 1 c (node_count s) (omega arith) there, same_copy same, same_copy second) refl)
            refl
            (5 * (l + 1)) (omega arith)
            (child (effect_shared m (Exchange u.node v c w)) (mending u c 0)
            (record {
              place = refl;
              after = h.after;
              result = h.result;
              some = omega arith;
              few = there;
              at_level = level_child u.node c z lo hi (omega (arith, sizes s r.depth_most)) ∙ ap (λ y. y + 1) h.at_level;
              above = omega arith;
              depth = h.depth;
              dirty = ap (λ y. y.dirty) (upd_same (upd m.node u.node v) c w) ∙ updated-dirty k n.first 1;
              clean = clean_but m.node u.node c v w (updated-dirty n k.first 0) h.clean;
              cells = h.cells;
              list = ap (λ y. y.first) (upd_same (upd m.node u.node v) c w) ∙ gets ∙ h.list;
              goes = ap (λ y. l + 1 + y) (levels_below c v w lo gets) ∙ on;
            }))

        swap_now : 2 * u.node + 1 ≤ node_count s → u.copies.second ≡ read_node m (2 * u.node)
            → u.copies.third ≡ read_node m (2 * u.node + 1)
            → l + 1 + levels_down (val m) (val m u.node) (d - (l + 1)) (lesser_child (val m) u.node) ≡ j → RestsNow (5 * l + 4) m u
        unfolding between
        swap_now there second third on =
            let c = lesser_child (val m) u.node in
            let is = lesser_is_child (val m) u.node in
            exchange_now c (m.node c) is.0 is.1 (omega (arith, is)) refl on
            (λ x. at_mending s m u x h.place refl ∙ swaps_as_placed m u second third s 0)

      swap_rests : (m : Shared) (u : Thread) → Mending l m u (MendSwap 0) → u.copies.first ≡ read_node m u.node → l < d
          → 2 * u.node + 1 ≤ node_count s → u.copies.second ≡ read_node m (2 * u.node) → u.copies.third ≡ read_node m (2 * u.node + 1)
          → l + 1 + levels_down (val m) (val m u.node) (d - (l + 1)) (lesser_child (val m) u.node) ≡ j → RestsFrom (5 * l + 4) m u
      unfolding with_permission
      swap_rests m u h copied higher there second third on =
          any_permission resting (5 * l + 4) m u λ n. swap_now m (with_permission u n) (kept_with h n) copied higher there second third on

      -- below a level above d there are children
      children_there : (m : Shared) (u : Thread) (p : Place) → Mending l m u p → l < d → 2 * u.node + 1 ≤ node_count s
      children_there m u p h higher =
          let g = level_holds u.node h.some (omega (arith, h.few, sizes s r.depth_most)) in
          let e : l + 1 - 1 ≡ l = omega arith in
          let q : 2 ^ level u.node ≡ 2 ^ l = ap (λ j. 2 ^ j) h.at_level in
          omega (
            arith,
            g.most,
            q,
            ap (λ j. 2 ^ j) e,
            power_doubles (l + 1) (omega arith),
            pow_mono {i = l + 1} {j = s.depth} (omega arith),
          )

      -- M4, M3, M2 and M1
      right_now : (m : Shared) (u : Thread) → Mending l m u (MendReadRight 0) → u.copies.first ≡ read_node m u.node
          → u.copies.second ≡ read_node m (2 * u.node) → l < d → RestsNow (5 * l + 3) m u
      unfolding between mend_read_right after_children_read is_node on_to pick at_place with_third with_copies read_node
      right_now m u h copied second higher = go (child_less v) decides (sym less)
        where
          v : Thread
          v = with_third u (read_node m (2 * u.node + 1))

          there : 2 * u.node + 1 ≤ node_count s
          there = children_there m u (MendReadRight 0) h higher

          decides : (c : ℕ) → decide s m u c ≡ pick (child_less v) (on_to v (MendSwap 0)) (on_to v (MendClean 0))
          decides c =
              at_mending s m u c h.place refl
              ∙ rw (
                ne_eqb u.node 0 (λ e. omega (arith, h.some)),
                is_between 1 (2 * u.node + 1) (node_count s) (omega arith) there,
                not_dirty (ap (λ q. q.node) second) (h.clean (2 * u.node) (λ e. omega (arith, h.some))),
                not_dirty {n = m.node (2 * u.node + 1)} refl (h.clean (2 * u.node + 1) (λ e. omega arith)),
              ) refl

          less : child_less v ≡ less_below (val m u.node) (val m (2 * u.node)) (val m (2 * u.node + 1))
          less = tests_as_placed m v second refl copied

          value : Item
          value = val m u.node

          -- the levels from here, one by one
          one_down : levels_down (val m) value (d - l) u.node ≡ levels_down (val m) value (suc (d - (l + 1))) u.node
          one_down = ap (λ k. levels_down (val m) value k u.node) (omega arith)

          go : (q : Bool) → ((c : ℕ) → decide s m u c ≡ pick q (on_to v (MendSwap 0)) (on_to v (MendClean 0)))
              → less_below (val m u.node) (val m (2 * u.node)) (val m (2 * u.node + 1)) ≡ q → RestsNow (5 * l + 3) m u
          go true e t =
              let on = one_down ∙ goes_down (val m) value (d - (l + 1)) u.node t in
              goes_on resting (5 * l + 3) (5 * l + 4) (omega arith) m u (at_place v (MendSwap 0)) (omega (arith, on, h.goes)) (λ may. e)
              (swap_rests m (at_place v (MendSwap 0)) (kept h (at_place v (MendSwap 0)) (MendSwap 0) refl refl refl refl)
              copied higher there second refl (omega (arith, on, h.goes)))
          go false e t =
              let on = one_down ∙ rests_there (val m) value (d - (l + 1)) u.node t in
              goes_on resting (5 * l + 3) (5 * l + 4) (omega arith) m u (at_place v (MendClean 0)) (omega (arith, on, h.goes)) (λ may. e)
              (clean_rests l (5 * l + 4) m (at_place v (MendClean 0))
              (kept h (at_place v (MendClean 0)) (MendClean 0) refl refl refl refl)
              copied (omega (arith, on, h.goes)) (omega (arith, on, h.goes)))

      right_rests : (m : Shared) (u : Thread) → Mending l m u (MendReadRight 0) → u.copies.first ≡ read_node m u.node
          → u.copies.second ≡ read_node m (2 * u.node) → l < d → RestsFrom (5 * l + 3) m u
      unfolding with_permission
      right_rests m u h copied second higher =
          any_permission resting (5 * l + 3) m u λ n. right_now m (with_permission u n) (kept_with h n) copied second higher

      left_now : (m : Shared) (u : Thread) → Mending l m u (MendReadLeft 0) → u.copies.first ≡ read_node m u.node → l < d
          → RestsNow (5 * l + 2) m u
      unfolding between mend_read_left is_node on_to pick at_place with_second with_copies read_node
      left_now m u h copied higher =
          let v = at_place (with_second u (read_node m (2 * u.node))) (MendReadRight 0) in
          let there = children_there m u (MendReadLeft 0) h higher in
          goes_on resting (5 * l + 2) (5 * l + 3) (omega arith) m u v (omega (arith, h.goes))
          (λ may c. at_mending s m u c h.place refl
          ∙ rw (is_between 1 (2 * u.node) (node_count s) (omega (arith, h.some)) (omega arith)) refl)
          (right_rests m v (kept h v (MendReadRight 0) refl refl refl refl) copied refl higher)

      left_rests : (m : Shared) (u : Thread) → Mending l m u (MendReadLeft 0) → u.copies.first ≡ read_node m u.node → l < d
          → RestsFrom (5 * l + 2) m u
      unfolding with_permission
      left_rests m u h copied higher =
          any_permission resting (5 * l + 2) m u λ n. left_now m (with_permission u n) (kept_with h n) copied higher

      depth_now : (m : Shared) (u : Thread) → Mending l m u (MendReadDepth 0) → u.copies.first ≡ read_node m u.node
          → RestsNow (5 * l + 1) m u
      unfolding between mend_read_depth after_depth_read on_to pick at_place with_depth read_node
      depth_now m u h copied = go (ℕ_discrete l d)
        where
          v : Place → Thread
          v p = at_place (with_depth u m.depth) p

          known : (c : ℕ) → decide s m u c ≡ pick (eqb (level u.node) m.depth) (moved (v (MendClean 0)))
              (moved (v (MendReadLeft 0)))
          known c =
              at_mending s m u c h.place refl
              ∙ rw (still_dirty (ap (λ q. q.node) copied) h.dirty, ne_eqb u.node 0 (λ e. omega (arith, h.some))) refl

          go : Dec (l ≡ d) → RestsNow (5 * l + 1) m u
          go (yes e) =
              let none : levels_down (val m) (val m u.node) (d - l) u.node ≡ 0 =
              ap (λ k. levels_down (val m) (val m u.node) k u.node) (omega arith) ∙ rests_deepest (val m) (val m u.node) u.node
              in
              goes_on resting (5 * l + 1) (5 * l + 2) (omega arith) m u (v (MendClean 0)) (omega (arith, h.goes))
              (λ may c. known c ∙ rw (eq-eqb (level u.node) m.depth (h.at_level ∙ e ∙ sym h.depth)) refl)
              (clean_rests l (5 * l + 2) m (v (MendClean 0))
              (kept h (v (MendClean 0)) (MendClean 0) refl refl refl refl)
              copied (omega (arith, none, h.goes)) (omega (arith, none, h.goes)))
          go (no e) =
              goes_on resting (5 * l + 1) (5 * l + 2) (omega arith) m u (v (MendReadLeft 0)) (omega (arith, h.above, h.goes))
              (λ may c. known c ∙ rw (ne_eqb (level u.node) m.depth (λ z. e (sym h.at_level ∙ z ∙ h.depth))) refl)
              (left_rests m (v (MendReadLeft 0))
              (kept h (v (MendReadLeft 0)) (MendReadLeft 0) refl refl refl refl)
              copied (omega (arith, h.above)))

      depth_rests : (m : Shared) (u : Thread) → Mending l m u (MendReadDepth 0) → u.copies.first ≡ read_node m u.node
          → RestsFrom (5 * l + 1) m u
      unfolding with_permission
      depth_rests m u h copied = any_permission resting (5 * l + 1) m u λ n. depth_now m (with_permission u n) (kept_with h n) copied

      node_now : (m : Shared) (u : Thread) → Mending l m u (MendReadNode 0) → RestsNow (5 * l) m u
      unfolding between mend_read_node on_to pick at_place with_first with_copies read_node
      node_now m u h =
          let v = at_place (with_first u (read_node m u.node)) (MendReadDepth 0) in
          goes_on resting (5 * l) (5 * l + 1) refl m u v (omega (arith, h.above, h.goes))
          (λ may c. at_mending s m u c h.place refl ∙ rw (ne_eqb u.node 0 (λ e. omega (arith, h.some))) refl)
          (depth_rests m v (kept h v (MendReadDepth 0) refl refl refl refl) refl)

      node_rests : (m : Shared) (u : Thread) → Mending l m u (MendReadNode 0) → RestsFrom (5 * l) m u
      node_rests m u h = any_permission resting (5 * l) m u λ n. node_now m (with_permission u n) (kept_with h n)

    -- by the levels left below l
    mending_rests : InRange s → d ≤ s.depth → (k l : ℕ) → l + k ≡ d → 1 ≤ l → (m : Shared) (u : Thread) → Mending l m u (MendReadNode 0)
        → RestsFrom (5 * l) m u
    mending_rests r deep zero l e least = node_rests r deep l least (λ m u h. absurd (omega (arith, h.above)))
    mending_rests r deep (suc k) l e least = node_rests r deep l least (mending_rests r deep k (l + 1) (omega arith) (omega arith))

    -- E2 and E1, with the root not empty and every node clean
    module _ (r : InRange s) (some : 1 ≤ d) (deep : d ≤ s.depth) (m : Shared) (depth : m.depth ≡ d)
        (full : (m.node 1).first ≡ 0 → ⊥) (clean : (x : ℕ) → (m.node x).dirty ≡ 0)
        (taken : (m.cell (m.node 1).first).item ≡ root_item f b₀) (begins : (m.cell (m.node 1).first).next ≡ first)
        (cells : (popped m).cell ≡ cell) (goes : 1 + levels_down (val (popped m)) (val (popped m) 1) (d - 1) 1 ≡ j) where
      head_now : (u : Thread) → u.place ≡ RemoveHead → u.copies.first ≡ read_node m 1 → RestsNow 4 m u
      unfolding between is_take_place remove_head cas_root after_removal effect_shared plan pick mending at_place with_node with_after with_result level digits read_node popped without_head
      head_now u place copied =
          let q = u.copies.first in
          let v = updated q.node q.head.next 1 in
          let w = mending (with_after (with_result u q.head.item) 1) 1 0 in
          let root : (m.node 1).first ≡ q.node.first = ap (λ x. x.node.first) (sym copied) in
          moves resting 4 m u (omega (arith, goes)) (is_spent q.node) (plan (Pop v q.node.first) w Moved)
          (λ may c. at_take s m u c place refl may
          ∙ rw (same_copy (ap (λ x. x.node) copied), ne_eqb q.node.first 0 (λ z. full (root ∙ z))) refl)
          refl 5 refl
          (subst (λ x. RestsFrom 5 x w)
          (ap (λ x. effect_shared m (Pop (updated x.node x.head.next 1) x.node.first)) (sym copied))
          (mending_rests r deep (d - 1) 1 (omega arith) (omega arith) (popped m) w
          (record {
            place = refl;
            after = refl;
            result = ap (λ x. x.head.item) copied ∙ taken;
            some = omega arith;
            few = omega (arith, pow_mono {i = 1} {j = s.depth} r.depth_least);
            at_level = refl;
            above = some;
            depth = depth;
            dirty =
                ap (λ n. n.dirty) (upd_same m.node 1 (updated (m.node 1) (m.cell (m.node 1).first).next 1))
                ∙ updated-dirty (m.node 1) (m.cell (m.node 1).first).next 1;
            clean = λ x n.
                ap (λ y. y.dirty) (upd_other m.node 1 x (updated (m.node 1) (m.cell (m.node 1).first).next 1) n) ∙ clean x;
            cells = cells;
            list =
                ap (λ n. n.first) (upd_same m.node 1 (updated (m.node 1) (m.cell (m.node 1).first).next 1))
                ∙ updated-first (m.node 1) (m.cell (m.node 1).first).next 1 ∙ begins;
            goes = goes;
          })))

      root_now : (u : Thread) → u.place ≡ ReadRoot → RestsNow 3 m u
      unfolding between is_take_place with_permission read_root after_root_read on_to pick at_place with_first with_copies read_node
      root_now u place =
          let v = at_place (with_first u (read_node m 1)) RemoveHead in
          goes_on resting 3 4 refl m u v (omega (arith, goes))
          (λ may c. at_take s m u c place refl may ∙ rw (not_dirty {n = m.node 1} refl (clean 1), ne_eqb (m.node 1).first 0 full) refl)
          (any_permission resting 4 m v λ n. head_now (with_permission v n) refl refl)

      pub root_rests : (u : Thread) → u.place ≡ ReadRoot → RestsFrom 3 m u
      unfolding with_permission
      root_rests u place = any_permission resting 3 m u λ n. root_now (with_permission u n) place
