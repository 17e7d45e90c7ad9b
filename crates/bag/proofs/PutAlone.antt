-- A put alone at the greatest depth, place by place: I1 and I2 for each leaf that fails, at most one less than there are leaves; then I1 and I2
-- for one that does not, at most four I3, and I5 and I6, or I5, I7 and I8. So 2^D + 7 accesses at most. All that is asked of the tree is one
-- leaf of level D whose value is no less than the item. Assumes nothing.
use Prim.Native.Nat.{ℕ, zero, suc, ◌+◌, ◌-◌, ◌*◌, ◌/◌, ◌^◌, ◌≤◌, ◌<◌}
use native.Mathlib.Decide.{ℕ_discrete, dec_le, dec_lt}
use native.Mathlib.Nat.{pow-suc}
use native.Mathlib.Omega.{arith}
use mathlib.Core.Path.{◌≡◌, refl, sym, ap, subst, ◌∙◌}
use mathlib.Core.Bool.{Bool, true, false}
use borrow.Author.Tests.{eq-eqb, le-ltb, lt-ltb, ne_eqb}
use lib.Dec.{ltb}
use lib.Pow.{pow_mono, pow_pos}
use Rattle.region.specs.Inner.{InRange}
use Rattle.region.specs.Level.{ancestor, level}
use Rattle.region.specs.Pick.{pick}
use Rattle.region.specs.Shape.{between}
use Rattle.region.specs.Shared.{Shared}
use Rattle.region.specs.Thread.{at_place, gone_idle, with_copies, with_depth, with_first, with_node, with_permission, with_search, with_second}
use Rattle.region.specs.declared.answer.Answer.TheVariants.{Inserted}
use Rattle.region.specs.declared.frame.Frame.{Frame}
use Rattle.region.specs.declared.place.Place.{Place}
use Rattle.region.specs.declared.place.Place.TheVariants.{ReadDepth, ReadLeaf, ReadAncestor, GrowDepth, ReadTarget, InsertAtRoot, ReadParent, InsertBelow}
use Rattle.region.specs.declared.record.Item.{Item}
use Rattle.region.specs.declared.shape.Shape.{Shape}
use Rattle.region.specs.declared.thread.Thread.{Thread}
use Rattle.region.proofs.Levels.{ancestor_itself, level_unique, power_doubles}
use Rattle.region.proofs.Shapes.{is_between}
use Rattle.access.specs.Order.{item_le, item_lt, val}
use Rattle.access.specs.Plan.{moved, on_to, plan}
use Rattle.access.specs.Read.{is_level, is_spent, read_node, updated}
use Rattle.access.specs.declared.effect.Effect.TheVariants.{Push}
use Rattle.access.specs.declared.plan.Plan.{Plan}
use Rattle.access.proofs.OrderLaws.{item_total}
use Rattle.insert.specs.Insert.{after_ancestor_read, after_failed_try, after_leaf_read, failed_place, has_middle, has_tried_deepest, insert_at, insert_at_root, insert_below, leaf_after_failed_try, leaf_to_read, middle_level, next_leaf, next_tries, node_and_parent_same, read_ancestor, read_depth, read_leaf, read_parent, read_target, search_on, searching, target_place}
use Rattle.insert.proofs.Laws.{LeafOf, next_leaf_lem, read_leaf_lem, tried_leaf}
use Rattle.permission.specs.Grants.{may_put}
use Rattle.permission.specs.Withdraw.{is_put_place}
use Rattle.machine.specs.Turn.{turn_answer}
use Rattle.preserved.proofs.TreeLevels.{ancestor_least, ancestor_most, ancestor_parent}
use Rattle.bag.proofs.Alone.{EndsFrom, Goal, any_permission, at_put, comes_to_end, goes_by_choice, goes_on, same_copy}

module _ (f : Frame) (t : ℕ) (t_least : 1 ≤ t) (t_most : t ≤ f.shape.threads) (r : InRange f.shape) (m : Shared)
    (deepest : m.depth ≡ f.shape.depth) (v : Item) where
  abbrev s : Shape
  s = f.shape

  abbrev D : ℕ
  D = s.depth

  abbrev pub end : ℕ
  end = 2 ^ D + 7

  abbrev pub inserting : Goal
  inserting =
      record {
        frame = f;
        thread = t;
        least = t_least;
        most = t_most;
        may = may_put;
        end = end;
        Total = λ n. n ≤ end;
        Last = λ x. x.answer ≡ Inserted;
      }

  abbrev From : ℕ → Thread → Type 0
  From spent u = EndsFrom inserting spent m u

  -- the node's value is no less than the item
  abbrev Room : ℕ → Type 0
  Room n = item_le v (val m n) ≡ true

  abbrev NoRoom : ℕ → Type 0
  NoRoom n = item_le v (val m n) ≡ false

  -- the put at a place, with its item and a cell
  record Putting (u : Thread) (p : Place) : Type 0 where
    place : u.place ≡ p
    item : u.item ≡ v
    cell : 1 ≤ u.own

  -- I8 and I6: the node is as it was read.
  below_ends : (spent : ℕ) (u : Thread) → Putting u InsertBelow → 2 ≤ u.node → u.copies.first ≡ read_node m u.node
      → u.copies.second ≡ read_node m (u.node / 2) → spent + 1 ≤ end → From spent u
  unfolding between is_put_place turn_answer insert_below insert_at node_and_parent_same plan pick read_node with_permission
  below_ends spent u h inner first second few =
      any_permission inserting spent m u λ n.
      let w = with_permission u n in
      let q = u.copies.first.node in
      comes_to_end inserting spent m w (omega arith) (is_spent q) (plan (Push u.node (updated q u.own q.dirty) u.own q.first) (gone_idle w) Inserted)
      (λ may c. at_put s m w c h.place refl may
      ∙ rw (
        le-ltb u.node 2 inner,
        ne_eqb u.own 0 (λ z. omega (arith, h.cell)),
        same_copy (ap (λ x. x.node) first),
        same_copy (ap (λ x. x.node) second),
      ) refl)
      few
      (λ b c g em eu e. ap (λ x. x.answer) e)

  root_ends : (spent : ℕ) (u : Thread) → Putting u InsertAtRoot → u.copies.first ≡ read_node m 1 → spent + 1 ≤ end → From spent u
  unfolding between is_put_place turn_answer insert_at_root insert_at plan pick read_node with_permission
  root_ends spent u h first few =
      any_permission inserting spent m u λ n.
      let w = with_permission u n in
      let q = u.copies.first.node in
      comes_to_end inserting spent m w (omega arith) (is_spent q) (plan (Push 1 (updated q u.own q.dirty) u.own q.first) (gone_idle w) Inserted)
      (λ may c. at_put s m w c h.place refl may
      ∙ rw (ne_eqb u.own 0 (λ z. omega (arith, h.cell)), same_copy (ap (λ x. x.node) first)) refl)
      few
      (λ b c g em eu e. ap (λ x. x.answer) e)

  -- I7: the parent is less than the item.
  parent_ends : (spent : ℕ) (u : Thread) → Putting u ReadParent → 2 ≤ u.node → u.copies.first ≡ read_node m u.node
      → NoRoom (u.node / 2) → spent + 2 ≤ end → From spent u
  unfolding between is_put_place read_parent on_to pick item_lt read_node with_permission at_place with_second with_copies
  parent_ends spent u h inner first above few =
      any_permission inserting spent m u λ n.
      let w = with_permission u n in
      let x = at_place (with_second w (read_node m (u.node / 2))) InsertBelow in
      let le : item_le (val m (u.node / 2)) u.item ≡ true = ap (item_le (val m (u.node / 2))) h.item ∙ item_total v (val m (u.node / 2)) above in
      goes_on inserting spent (spent + 1) refl m w x (omega arith)
      (λ may c. at_put s m w c h.place refl may ∙ rw (le-ltb u.node 2 inner, le) refl)
      (below_ends (spent + 1) x (record { place = refl; item = h.item; cell = h.cell }) inner first refl (omega arith))

  -- I5
  target_ends : (spent : ℕ) (u : Thread) → Putting u ReadTarget → 1 ≤ u.node → Room u.node → (2 ≤ u.node → NoRoom (u.node / 2))
      → spent + 3 ≤ end → From spent u
  unfolding between is_put_place read_target target_place on_to pick item_lt read_node with_permission at_place with_first with_copies
  target_ends spent u h some room above few = go (ℕ_discrete u.node 1)
    where
      le : item_le u.item (val m u.node) ≡ true
      le = ap (λ x. item_le x (val m u.node)) h.item ∙ room

      at : ℕ → Place → Thread
      at n p = at_place (with_first (with_permission u n) (read_node m u.node)) p

      go : Dec (u.node ≡ 1) → From spent u
      go (yes e) =
          any_permission inserting spent m u λ n.
          goes_on inserting spent (spent + 1) refl m (with_permission u n) (at n InsertAtRoot) (omega arith)
          (λ may c. at_put s m (with_permission u n) c h.place refl may
          ∙ rw (ne_eqb u.node 0 (λ z. omega arith), le, eq-eqb u.node 1 e) refl)
          (root_ends (spent + 1) (at n InsertAtRoot) (record { place = refl; item = h.item; cell = h.cell }) (ap (read_node m) e) (omega arith))
      go (no e) =
          any_permission inserting spent m u λ n.
          goes_on inserting spent (spent + 1) refl m (with_permission u n) (at n ReadParent) (omega arith)
          (λ may c. at_put s m (with_permission u n) c h.place refl may
          ∙ rw (ne_eqb u.node 0 (λ z. omega arith), le, ne_eqb u.node 1 e) refl)
          (parent_ends (spent + 1) (at n ReadParent) (record { place = refl; item = h.item; cell = h.cell })
          (omega arith) refl (above (omega arith)) (omega arith))

  -- A plan that changes the record alone, to one from which the put ends.
  record GoesTo (spent : ℕ) (p : Plan) : Type 0 where
    thread : Thread
    goes : p ≡ moved thread
    on : From spent thread

  -- I3: the search on the way to a leaf. The ancestor at hi has room; the one above lo has none.
  module _ (leaf : ℕ) (at_depth : LeafOf D leaf) where
    few_nodes : leaf < 2 ^ 32
    few_nodes = omega (arith, at_depth.most, pow_mono {i = D} {j = 12} r.depth_most)

    leaf_level : level leaf ≡ D
    leaf_level = level_unique leaf D at_depth.least at_depth.most few_nodes

    -- the put's search between lo and hi
    record Searches (u : Thread) : Type 0 where
      item : u.item ≡ v
      cell : 1 ≤ u.own
      leaf_word : u.search_state.leaf ≡ leaf
      least : 1 ≤ u.search_state.lo
      up : u.search_state.lo ≤ u.search_state.hi
      most : u.search_state.hi ≤ D
      room : Room (ancestor leaf u.search_state.hi)
      above : 2 ≤ u.search_state.lo → NoRoom (ancestor leaf (u.search_state.lo - 1))

    -- it is done: on to I5
    found : (spent : ℕ) (u : Thread) → Searches u → u.search_state.hi ≤ u.search_state.lo → spent + 3 ≤ end → GoesTo spent (search_on u)
    unfolding search_on on_to pick with_node at_place
    found spent u x done few =
        record {
          thread = w;
          goes = rw (le-ltb lo hi done, is_between 1 hi (level u.search_state.leaf) some (omega (arith, ap level x.leaf_word, has))) refl;
          on =
              target_ends spent w (record { place = refl; item = x.item; cell = x.cell })
              (omega (arith, same, ancestor_least leaf hi few_nodes some has, pow_pos (hi - 1)))
              (ap (λ y. item_le v (val m y)) same ∙ x.room)
              (λ inner. ap (λ y. item_le v (val m y)) (parent inner) ∙ x.above (omega (arith, x.up, deep inner)))
              few;
        }
      where
        lo : ℕ
        lo = u.search_state.lo

        hi : ℕ
        hi = u.search_state.hi

        some : 1 ≤ hi
        some = omega (arith, x.least, x.up)

        has : hi ≤ level leaf
        has = omega (arith, leaf_level, x.most)

        w : Thread
        w = at_place (with_node u (ancestor u.search_state.leaf hi)) ReadTarget

        same : ancestor u.search_state.leaf hi ≡ ancestor leaf hi
        same = ap (λ y. ancestor y hi) x.leaf_word

        -- only the root has level 1
        deep : 2 ≤ ancestor u.search_state.leaf hi → 2 ≤ hi
        deep inner = go (dec_lt 1 hi)
          where
            go : Dec (1 < hi) → 2 ≤ hi
            go (yes h) = h
            go (no h) =
                let e : hi ≡ 1 = omega (arith, some) in
                absurd (omega (arith, same, ancestor_most leaf hi few_nodes some has, ap (λ j. 2 ^ j) e, inner))

        parent : 2 ≤ ancestor u.search_state.leaf hi → ancestor u.search_state.leaf hi / 2 ≡ ancestor leaf (lo - 1)
        parent inner =
            let e : hi ≡ lo - 1 + 1 = omega (arith, x.up, deep inner) in
            ap (λ y. y / 2) (same ∙ ap (ancestor leaf) e) ∙ ancestor_parent leaf (lo - 1) (omega (arith, has, e))

    -- I3, with the search known to go on once the levels are halved
    module _ (k : ℕ) (goes : (spent : ℕ) (u : Thread) → Searches u → u.search_state.hi < u.search_state.lo + 2 ^ k → spent + k + 3 ≤ end
        → GoesTo spent (search_on u)) where
      ancestor_ends : (spent : ℕ) (u : Thread) → u.place ≡ ReadAncestor → Searches u → u.search_state.lo < u.search_state.hi
          → u.search_state.hi < u.search_state.lo + 2 ^ suc k → spent + k + 4 ≤ end → From spent u
      unfolding between is_put_place read_ancestor after_ancestor_read has_middle middle_level pick with_permission with_first with_copies with_search
      ancestor_ends spent u place x more near few = go (item_le v (val m (ancestor leaf mid))) refl
        where
          lo : ℕ
          lo = u.search_state.lo

          hi : ℕ
          hi = u.search_state.hi

          mid : ℕ
          mid = (lo + hi) / 2

          -- the record with the levels between which the search goes on
          after : ℕ → ℕ → ℕ → Thread
          after n lo hi =
              with_first (with_search (with_permission u n) (searching u.search_state.leaf u.search_state.tries lo hi))
              (read_node m (ancestor u.search_state.leaf mid))

          has_middle_lem : between 1 mid (level u.search_state.leaf) ≡ true
          has_middle_lem =
              is_between 1 mid (level u.search_state.leaf) (omega (arith, x.least)) (omega (arith, ap level x.leaf_word, leaf_level, x.most))

          test : (q : Bool) → item_le v (val m (ancestor leaf mid)) ≡ q → item_le u.item (val m (ancestor u.search_state.leaf mid)) ≡ q
          test q e = (λ i. item_le (x.item i) (val m (ancestor (x.leaf_word i) mid))) ∙ e

          go : (q : Bool) → item_le v (val m (ancestor leaf mid)) ≡ q → From spent u
          go true e =
              any_permission inserting spent m u λ n.
              let g = goes (spent + 1) (after n lo mid)
              (record {
                item = x.item;
                cell = x.cell;
                leaf_word = x.leaf_word;
                least = x.least;
                up = omega arith;
                most = omega (arith, x.most);
                room = e;
                above = x.above;
              })
              (omega (arith, near, pow-suc 2 k)) (omega arith)
              in
              goes_on inserting spent (spent + 1) refl m (with_permission u n) g.thread (omega arith)
              (λ may c. at_put s m (with_permission u n) c place refl may ∙ rw (lt-ltb lo hi more, has_middle_lem, test true e) g.goes)
              g.on
          go false e =
              any_permission inserting spent m u λ n.
              let back : mid + 1 - 1 ≡ mid = omega arith in
              let g = goes (spent + 1) (after n (mid + 1) hi)
              (record {
                item = x.item;
                cell = x.cell;
                leaf_word = x.leaf_word;
                least = omega arith;
                up = omega arith;
                most = x.most;
                room = x.room;
                above = λ h. ap (λ j. item_le v (val m (ancestor leaf j))) back ∙ e;
              })
              (omega (arith, near, pow-suc 2 k)) (omega arith)
              in
              goes_on inserting spent (spent + 1) refl m (with_permission u n) g.thread (omega arith)
              (λ may c. at_put s m (with_permission u n) c place refl may ∙ rw (lt-ltb lo hi more, has_middle_lem, test false e) g.goes)
              g.on

      search_more : (spent : ℕ) (u : Thread) → Searches u → u.search_state.hi < u.search_state.lo + 2 ^ suc k → spent + k + 4 ≤ end
          → GoesTo spent (search_on u)
      unfolding search_on on_to pick at_place
      search_more spent u x near few = go (dec_lt u.search_state.lo u.search_state.hi)
        where
          go : Dec (u.search_state.lo < u.search_state.hi) → GoesTo spent (search_on u)
          go (yes h) =
              record {
                thread = at_place u ReadAncestor;
                goes = rw (lt-ltb u.search_state.lo u.search_state.hi h) refl;
                on =
                    ancestor_ends spent (at_place u ReadAncestor) refl
                    (record {
                      item = x.item;
                      cell = x.cell;
                      leaf_word = x.leaf_word;
                      least = x.least;
                      up = x.up;
                      most = x.most;
                      room = x.room;
                      above = x.above;
                    })
                    h near (omega arith);
              }
          go (no h) = found spent u x (omega arith) (omega arith)

    -- by the halvings left
    search_goes : (k spent : ℕ) (u : Thread) → Searches u → u.search_state.hi < u.search_state.lo + 2 ^ k → spent + k + 3 ≤ end
        → GoesTo spent (search_on u)
    search_goes zero spent u x near few = found spent u x (omega arith) (omega arith)
    search_goes (suc k) spent u x near few = search_more k (search_goes k) spent u x near (omega arith)

  -- The leaf fits, or one of the next k does.
  data Reaches : ℕ → ℕ → Type 0 where
    here : {k leaf : ℕ} → Room leaf → Reaches k leaf
    later : {k leaf : ℕ} → Reaches k (next_leaf D leaf) → Reaches (suc k) leaf

  -- I1: the leaf word stays
  after_depth : Thread → Thread
  after_depth u = at_place (with_search (with_depth u m.depth) (searching u.search_state.leaf 0 u.search_state.lo u.search_state.hi)) ReadLeaf

  depth_ends : (spent : ℕ) (u : Thread) → u.place ≡ ReadDepth → ((n : ℕ) → From (spent + 1) (after_depth (with_permission u n)))
      → spent + 1 ≤ end → From spent u
  unfolding between is_put_place read_depth on_to with_permission after_depth
  depth_ends spent u place after few =
      any_permission inserting spent m u λ n.
      goes_on inserting spent (spent + 1) refl m (with_permission u n) (after_depth (with_permission u n)) (omega arith)
      (λ may c. at_put s m (with_permission u n) c place refl may) (after n)

  goes_as : {spent : ℕ} {p q : Plan} → p ≡ q → GoesTo spent q → GoesTo spent p
  goes_as e g = record { thread = g.thread; goes = e ∙ g.goes; on = g.on }

  -- the put ends from I2 where the leaf that it reads, or one of the next k, has room
  abbrev EndsWithin : ℕ → Type 0
  EndsWithin k =
      (spent : ℕ) (u : Thread) → Putting u ReadLeaf → u.depth ≡ D → ((c : ℕ) → Reaches k (leaf_to_read s u c)) → spent + 2 * k + 8 ≤ end
      → From spent u

  -- I2 of a leaf, with the put at depth D.
  module _ (spent : ℕ) (u : Thread) (h : Putting u ReadLeaf) (deep : u.depth ≡ D) (leaf : ℕ) (at_depth : LeafOf D leaf) where
    -- it has room: the search begins
    leaf_fits : Room leaf → spent + 8 ≤ end → GoesTo (spent + 1) (after_leaf_read s u leaf (read_node m leaf))
    unfolding after_leaf_read pick with_first with_copies with_search
    leaf_fits room few =
        let w = with_first (with_search u (searching leaf u.search_state.tries 1 u.depth)) (read_node m leaf) in
        let itself : leaf ≡ ancestor leaf u.depth = ancestor_itself leaf u.depth D (sym (leaf_level leaf at_depth)) (omega arith) in
        goes_as (rw (ap (λ x. item_le x (val m leaf)) h.item ∙ room) refl)
        (search_goes leaf at_depth 4 (spent + 1) w
        (record {
          item = h.item;
          cell = h.cell;
          leaf_word = refl;
          least = omega arith;
          up = omega (arith, r.depth_least);
          most = omega arith;
          room = ap (λ n. item_le v (val m n)) (sym itself) ∙ room;
          above = λ z. absurd (omega arith);
        })
        (omega (arith, r.depth_most)) (omega arith))

    -- it has none: the next leaf is tried, at once or by way of I1
    module _ (k : ℕ) (reach : Reaches k (next_leaf D leaf)) (again : EndsWithin k) where
      reads_next : (w : Thread) → w.depth ≡ D → w.search_state.leaf ≡ next_leaf D leaf → (c : ℕ) → Reaches k (leaf_to_read s w c)
      reads_next w ed el c =
          let next : LeafOf D w.search_state.leaf = subst (LeafOf D) (sym el) (next_leaf_lem D r.depth_least leaf at_depth) in
          subst (Reaches k)
          (sym (tried_leaf s w (omega (arith, r.depth_least)) ed (subst (λ d. LeafOf d w.search_state.leaf) (sym ed) next) c ∙ el)) reach

      next_word : leaf_after_failed_try s u leaf ≡ next_leaf D leaf
      unfolding leaf_after_failed_try pick
      next_word = rw (eq-eqb u.depth D deep) (ap (λ d. next_leaf d leaf) deep)

      after : Place → Thread
      after p =
          at_place
          (with_first (with_search u (searching (leaf_after_failed_try s u leaf) (next_tries s u) u.search_state.lo u.search_state.hi)) (read_node m leaf))
          p

      next_tried : NoRoom leaf → spent + 2 * suc k + 8 ≤ end → GoesTo (spent + 1) (after_leaf_read s u leaf (read_node m leaf))
      unfolding after_leaf_read after_failed_try failed_place on_to pick with_first with_copies with_search with_depth with_permission at_place after after_depth
      next_tried none few = goes_as (rw (ap (λ x. item_le x (val m leaf)) h.item ∙ none) refl) (go (ltb (next_tries s u) s.threshold))
        where
          go : (q : Bool) → GoesTo (spent + 1) (moved (after (pick q ReadLeaf (pick (ltb u.depth D) GrowDepth ReadDepth))))
          go true =
              record {
                thread = after ReadLeaf;
                goes = refl;
                on =
                    again (spent + 1) (after ReadLeaf) (record { place = refl; item = h.item; cell = h.cell }) deep
                    (reads_next (after ReadLeaf) deep next_word) (omega arith);
              }
          go false =
              record {
                thread = after ReadDepth;
                goes = rw (le-ltb u.depth D (omega arith)) refl;
                on =
                    depth_ends (spent + 1) (after ReadDepth) refl
                    (λ n. let w = after_depth (with_permission (after ReadDepth) n) in
                    again (spent + 1 + 1) w (record { place = refl; item = h.item; cell = h.cell }) deepest
                    (reads_next w deepest next_word) (omega arith))
                    (omega arith);
              }

  -- what a try of a leaf comes to
  abbrev TriesWithin : ℕ → Type 0
  TriesWithin k =
      (spent : ℕ) (u : Thread) → Putting u ReadLeaf → u.depth ≡ D → (leaf : ℕ) → LeafOf D leaf → Reaches k leaf → spent + 2 * k + 8 ≤ end
      → GoesTo (spent + 1) (after_leaf_read s u leaf (read_node m leaf))

  last_try : TriesWithin 0
  last_try spent u h deep leaf at_depth (here room) few = leaf_fits spent u h deep leaf at_depth room (omega arith)

  one_try : (k : ℕ) → EndsWithin k → TriesWithin (suc k)
  one_try k again spent u h deep leaf at_depth (here room) few = leaf_fits spent u h deep leaf at_depth room (omega arith)
  one_try k again spent u h deep leaf at_depth (later reach) few = go (item_le v (val m leaf)) refl
    where
      go : (q : Bool) → item_le v (val m leaf) ≡ q → GoesTo (spent + 1) (after_leaf_read s u leaf (read_node m leaf))
      go true e = leaf_fits spent u h deep leaf at_depth e (omega arith)
      go false e = next_tried spent u h deep leaf at_depth k reach again e few

  deepest_leaf : (u : Thread) → u.depth ≡ D → (c : ℕ) → LeafOf D (leaf_to_read s u c)
  deepest_leaf u deep c = subst (λ d. LeafOf d (leaf_to_read s u c)) deep (read_leaf_lem s u (omega (arith, r.depth_least)) c)

  -- the turn at I2, whatever the choice
  tries_end : (k : ℕ) → TriesWithin k → EndsWithin k
  unfolding between is_put_place read_leaf is_level pick with_permission leaf_to_read has_tried_deepest
  tries_end k tries spent u h deep reach few =
      any_permission inserting spent m u λ n.
      let w = with_permission u n in
      let leaf : ℕ → ℕ = λ c. leaf_to_read s u c in
      let g : (c : ℕ) → GoesTo (spent + 1) (after_leaf_read s w (leaf c) (read_node m (leaf c))) =
      λ c. tries spent w (record { place = h.place; item = h.item; cell = h.cell }) deep (leaf c) (deepest_leaf u deep c) (reach c) few in
      goes_by_choice inserting spent (spent + 1) refl m w (λ c. (g c).thread) (omega arith)
      (λ may c. at_put s m w c h.place refl may
      ∙ rw (is_between 1 u.depth D (omega (arith, r.depth_least)) (omega arith)) (g c).goes)
      (λ c. (g c).on)

  leaf_ends : (k : ℕ) → EndsWithin k
  leaf_ends zero = tries_end zero last_try
  leaf_ends (suc k) = tries_end (suc k) (one_try k (leaf_ends k))

  -- Every leaf comes to one that has room, if there is one.
  module _ (free : ℕ) (at_depth : LeafOf D free) (room : Room free) where
    more : {k j leaf : ℕ} → k ≤ j → Reaches k leaf → Reaches j leaf
    more l (here h) = here h
    more {k = suc k} {j = suc j} l (later h) = later (more {k = k} {j = j} (omega arith) h)
    more {j = zero} l (later h) = absurd (omega arith)

    up_by_one : (leaf : ℕ) → leaf < 2 ^ D - 1 → next_leaf D leaf ≡ leaf + 1
    unfolding next_leaf pick
    up_by_one leaf h = rw (lt-ltb leaf (2 ^ D - 1) h) refl

    -- up to the free leaf
    up_to : (k leaf : ℕ) → leaf + k ≡ free → Reaches k leaf
    up_to zero leaf e = here {leaf = leaf} (ap (λ n. item_le v (val m n)) (omega arith) ∙ room)
    up_to (suc k) leaf e =
        later (subst (Reaches k) (sym (up_by_one leaf (omega (arith, at_depth.most)))) (up_to k (leaf + 1) (omega arith)))

    -- or past the last leaf, and up from the first
    abbrev first : ℕ
    first = 2 ^ (D - 1)

    round_to_first : (leaf : ℕ) → 2 ^ D - 1 ≤ leaf → next_leaf D leaf ≡ first
    unfolding next_leaf pick
    round_to_first leaf h = rw (le-ltb leaf (2 ^ D - 1) h) refl

    around : (k leaf : ℕ) → leaf + k ≡ 2 ^ D - 1 → Reaches (suc (k + (free - first))) leaf
    around zero leaf e =
        more {k = suc (free - first)} (omega arith)
        (later (subst (Reaches (free - first)) (sym (round_to_first leaf (omega arith))) (up_to (free - first) first (omega (arith, at_depth.least)))))
    around (suc k) leaf e =
        more {k = suc (suc (k + (free - first)))} (omega arith)
        (later (subst (Reaches (suc (k + (free - first)))) (sym (up_by_one leaf (omega arith))) (around k (leaf + 1) (omega arith))))

    reaches : (leaf : ℕ) → LeafOf D leaf → Reaches (first - 1) leaf
    reaches leaf h = go (dec_le leaf free)
      where
        go : Dec (leaf ≤ free) → Reaches (first - 1) leaf
        go (yes l) = more (omega (arith, h.least, at_depth.most, power_doubles D r.depth_least)) (up_to (free - leaf) leaf (omega arith))
        go (no l) =
            more (omega (arith, h.most, at_depth.least, power_doubles D r.depth_least, pow_pos (D - 1)))
            (around (2 ^ D - 1 - leaf) leaf (omega (arith, h.most)))

    -- from its beginning
    pub put_ends : (u : Thread) → u.place ≡ ReadDepth → u.item ≡ v → 1 ≤ u.own → From 0 u
    unfolding after_depth at_place with_search with_depth with_permission
    put_ends u place item cell =
        depth_ends 0 u place
        (λ n.
        let w = after_depth (with_permission u n) in
        leaf_ends (first - 1) 1 w (record { place = refl; item = item; cell = cell }) deepest
        (λ c. reaches (leaf_to_read s w c) (deepest_leaf w deepest c))
        (omega (arith, power_doubles D r.depth_least, pow_pos (D - 1))))
        (omega arith)
