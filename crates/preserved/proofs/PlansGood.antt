-- Every plan keeps what a readable region promises: its effect and its thread's record are in range. Assumes nothing.
use Prim.Native.Nat.{ℕ, ◌+◌, ◌-◌, ◌*◌, ◌/◌, ◌^◌, ◌≤◌, ◌<◌}
use native.Mathlib.Nat.{div-le_self}
use native.Mathlib.Omega.{arith}
use mathlib.Core.Path.{◌≡◌, refl, sym, subst}
use mathlib.Core.Bool.{Bool, true, false, not, ◌&&◌, ◌||◌, true≢false}
use borrow.Author.Tests.{ltb-true, ltb-false, eqb-false, not-true}
use lib.Dec.{ltb, eqb}
use lib.Pow.{pow_mono}
use Rattle.region.specs.declared.refusal.Refusal.TheVariants.{Unreadable, CounterSpent}
use Rattle.region.specs.Level.{ancestor, level}
use Rattle.region.specs.Pick.{pick}
use Rattle.region.specs.Record.{counter_size, greatest_tag}
use Rattle.region.specs.Shape.{between, node_count}
use Rattle.region.specs.Inner.{InRange}
use Rattle.region.specs.Shared.{Shared}
use Rattle.region.specs.Thread.{gone_idle, mending, at_place, with_item, with_own, with_depth, with_search, with_node, with_after, with_result, with_first, with_second, with_third}
use Rattle.region.specs.declared.answer.Answer.{Answer}
use Rattle.region.specs.declared.answer.Answer.TheVariants.{Moved, Withdrawn}
use Rattle.region.specs.declared.place.Place.{Place}
use Rattle.region.specs.declared.place.Place.TheVariants.{Idle as AtRest, ReadDepth, ReadLeaf, ReadAncestor, GrowDepth, ReadTarget, InsertAtRoot, ReadParent, InsertBelow, ReadRoot, RemoveHead, MendReadNode, MendReadDepth, MendReadLeft, MendReadRight, MendSwap, MendClean, ListReadRoot, RemoveList, HandOut}
use Rattle.region.specs.declared.record.Item.{Item}
use Rattle.region.specs.declared.record.Node.{Node}
use Rattle.region.specs.declared.record.NodeCopy.{NodeCopy}
use Rattle.region.specs.declared.refusal.Refusal.{Refusal}
use Rattle.region.specs.declared.shape.Shape.{Shape}
use Rattle.region.specs.declared.thread.Search.{Search}
use Rattle.region.specs.declared.thread.Thread.{Thread}
use Rattle.region.proofs.Picks.{pick_good}
use Rattle.region.proofs.Shapes.{and_left, and_right, between_least, between_most, sizes}
use Rattle.access.specs.Order.{item_le, item_lt, value_of}
use Rattle.access.specs.Plan.{plan, moved, on_to, refused}
use Rattle.access.specs.Read.{is_dirty, is_level, is_node, is_spent, read_node, same_node, updated}
use Rattle.access.specs.declared.effect.Effect.{Effect}
use Rattle.access.specs.declared.effect.Effect.TheVariants.{Nothing, Grow, Push, Pop, Exchange, Clean, Detach, Free}
use Rattle.access.specs.declared.plan.Plan.{Plan}
use Rattle.access.proofs.ReadLaws.{carry_fits, updated-dirty, updated-first, updated-high, updated-low}
use Rattle.insert.specs.Insert.{searching, read_depth, search_on, leaf_after_failed_try, leaf_to_read, next_tries, failed_place, after_failed_try, after_leaf_read, read_leaf, after_ancestor_read, middle_level, has_middle, read_ancestor, grow_depth, target_place, read_target, insert_at, insert_at_root, read_parent, insert_below}
use Rattle.insert.proofs.Laws.{LeafOf, left_leaf, read_leaf_lem}
use Rattle.extract.specs.Extract.{after_root_read, read_root, list_read_root, after_removal, after_list_removal, cas_root, remove_head, remove_list, handed_out, hand_out}
use Rattle.moundify.specs.Moundify.{returning, mend_read_node, after_depth_read, mend_read_depth, mend_read_left, marked, child_less, after_children_read, mend_read_right, exchange_at, node_and_child_same, exchange_with, mend_swap, clean_at, mend_clean, place_after, returned, return_answer}
use Rattle.permission.specs.Withdraw.{is_put_place, withdrawal}
use Rattle.readable.proofs.Stores.{NodeGood, CopyGood, FieldsGood, WaitsAbove, PlaceGood, ThreadGood, SharedGood, idle_good}
use Rattle.preserved.proofs.TreeLevels.{waits_at_child, waits_marked, waits_returned}

pub or_left : (a b : Bool) → a || b ≡ false → a ≡ false
or_left true b e = e
or_left false b e = refl

pub or_right : (a b : Bool) → a || b ≡ false → b ≡ false
or_right true b e = absurd (true≢false e)
or_right false b e = e

-- effects in range
abbrev pub NodeIn : Shape → ℕ → Type 0
NodeIn s n = (1 ≤ n) × (n ≤ node_count s)

abbrev pub CellIn : Shape → ℕ → Type 0
CellIn s c = (1 ≤ c) × (c ≤ s.cells)

abbrev pub EffectGood : ℕ → Shape → Effect → Type 0
EffectGood width s Nothing = Unit
EffectGood width s (Grow d) = (1 ≤ d) × (d ≤ s.depth)
EffectGood width s (Push n v c x) = NodeIn s n × CellIn s c × NodeGood width s.cells v × (x ≤ s.cells)
EffectGood width s (Pop v c) = CellIn s c × NodeGood width s.cells v
EffectGood width s (Exchange n v k w) = NodeIn s n × NodeIn s k × NodeGood width s.cells v × NodeGood width s.cells w
EffectGood width s (Clean n v) = NodeIn s n × NodeGood width s.cells v
EffectGood width s (Detach v) = NodeGood width s.cells v
EffectGood width s (Free c) = CellIn s c

-- a plan from records whose counters have so many words: it may count one up to a second word
pub record PlanGood (width : ℕ) (s : Shape) (p : Plan) : Type 0 where
  pub effect : EffectGood counter_size s p.effect
  pub thread : ThreadGood width s p.thread

-- what a place requires depends on tries and node alone
place_same : (s : Shape) (t u : Thread) (p : Place) → t.search_state.tries ≡ u.search_state.tries → t.node ≡ u.node → PlaceGood s t p
    → PlaceGood s u p
place_same s t u AtRest et en h = tt
place_same s t u ReadDepth et en h = tt
place_same s t u ReadLeaf et en h = omega arith
place_same s t u ReadAncestor et en h = tt
place_same s t u GrowDepth et en h = tt
place_same s t u ReadTarget et en h = tt
place_same s t u InsertAtRoot et en h = tt
place_same s t u ReadParent et en h = tt
place_same s t u InsertBelow et en h = tt
place_same s t u ReadRoot et en h = tt
place_same s t u RemoveHead et en h = tt
place_same s t u (MendReadNode w) et en h = subst (λ n. WaitsAbove n w) en h
place_same s t u (MendReadDepth w) et en h = subst (λ n. WaitsAbove n w) en h
place_same s t u (MendReadLeft w) et en h = subst (λ n. WaitsAbove n w) en h
place_same s t u (MendReadRight w) et en h = subst (λ n. WaitsAbove n w) en h
place_same s t u (MendSwap w) et en h = subst (λ n. WaitsAbove n w) en h
place_same s t u (MendClean w) et en h = subst (λ n. WaitsAbove n w) en h
place_same s t u ListReadRoot et en h = tt
place_same s t u RemoveList et en h = tt
place_same s t u HandOut et en h = tt

-- Setters keep the fields in range: each field is as it was, or what the setter was given.
module _ {width : ℕ} (s : Shape) (t : Thread) (g : FieldsGood width s t) where
  pub fields_at : (p : Place) → FieldsGood width s (at_place t p)
  unfolding at_place
  fields_at p = search

  pub fields_depth : (d : ℕ) → d ≤ s.depth → FieldsGood width s (with_depth t d)
  unfolding with_depth
  fields_depth d h = search

  pub fields_search : (x : Search) → x.leaf ≤ node_count s → x.tries ≤ s.threshold → x.lo ≤ s.depth → x.hi ≤ s.depth
      → FieldsGood width s (with_search t x)
  unfolding with_search
  fields_search x hl ht hlo hhi = search

  pub fields_node : (n : ℕ) → n ≤ node_count s → FieldsGood width s (with_node t n)
  unfolding with_node
  fields_node n h = search

  pub fields_after : (a : ℕ) → a ≤ 3 → FieldsGood width s (with_after t a)
  unfolding with_after
  fields_after a h = search

  pub fields_result : (i : Item) → i.key < 2 ^ 32 → i.tag ≤ greatest_tag → FieldsGood width s (with_result t i)
  unfolding with_result
  fields_result i hk ht = search

  pub fields_item : (i : Item) → i.key < 2 ^ 32 → i.tag ≤ greatest_tag → FieldsGood width s (with_item t i)
  unfolding with_item
  fields_item i hk ht = search

  pub fields_own : (c : ℕ) → c ≤ s.cells → FieldsGood width s (with_own t c)
  unfolding with_own
  fields_own c h = search

  pub fields_first : (q : NodeCopy) → CopyGood width s.cells q → FieldsGood width s (with_first t q)
  unfolding with_first
  fields_first q h = search

  pub fields_second : (q : NodeCopy) → CopyGood width s.cells q → FieldsGood width s (with_second t q)
  unfolding with_second
  fields_second q h = search

  pub fields_third : (q : NodeCopy) → CopyGood width s.cells q → FieldsGood width s (with_third t q)
  unfolding with_third
  fields_third q h = search

  -- on to a place, to mending, idle
  pub at_good : (p : Place) → PlaceGood s t p → ThreadGood width s (at_place t p)
  unfolding at_place
  at_good p h = record { fields = fields_at p; place = place_same s t (at_place t p) p refl refl h }

  pub on_to_good : (p : Place) → PlaceGood s t p → PlanGood width s (on_to t p)
  unfolding on_to
  on_to_good p h = record { effect = tt; thread = at_good p h }

  pub gone_good : ThreadGood width s (gone_idle t)
  unfolding gone_idle
  gone_good = idle_good s t.permission g.permission

pub mending_good : {width : ℕ} (s : Shape) (t : Thread) → FieldsGood width s t → (n w : ℕ) → n ≤ node_count s → WaitsAbove n w → ThreadGood width s (mending t n w)
unfolding mending with_node
mending_good s t g n w hn hw = at_good s (with_node t n) (fields_node s t g n hn) (MendReadNode w) hw

pub refused_good : {width : ℕ} (s : Shape) (t : Thread) → ThreadGood width s t → (n : Refusal) → PlanGood width s (refused t n)
unfolding refused
refused_good s t g n = record { effect = tt; thread = g }

pub plan_good : {width : ℕ} (s : Shape) (e : Effect) (t : Thread) (a : Answer) → EffectGood counter_size s e → ThreadGood width s t → PlanGood width s (plan e t a)
unfolding plan
plan_good s e t a he ht = record { effect = he; thread = ht }

pub moved_good : {width : ℕ} (s : Shape) (t : Thread) → ThreadGood width s t → PlanGood width s (moved t)
unfolding moved
moved_good s t h = record { effect = tt; thread = h }

-- The places.
module _ {width : ℕ} (s : Shape) (r : InRange s) (m : Shared) (sm : SharedGood width s m) where
  pub read_good : (n : ℕ) → CopyGood width s.cells (read_node m n)
  unfolding read_node
  read_good n = record { node = sm.node n; head = sm.cell (m.node n).first }

  pub some_nodes : 1 ≤ node_count s
  some_nodes = omega (arith, pow_mono {i = 1} {j = s.depth} r.depth_least)

  pub updated_good : (n : Node) (first dirty : ℕ) → NodeGood width s.cells n → is_spent n ≡ false → first ≤ s.cells → dirty ≤ 1
      → NodeGood counter_size s.cells (updated n first dirty)
  updated_good n first dirty g e hf hd =
      let low : n.low < 2 ^ 32 = omega (arith, g.low) in
      let high : (updated n first dirty).high ≤ 4294967295 = omega (arith, updated-high n first dirty, carry_fits n e low (omega (arith, g.high))) in
      record {
        first = omega (arith, updated-first n first dirty, hf);
        dirty = omega (arith, updated-dirty n first dirty, hd);
        low = omega (arith, updated-low n first dirty);
        high = high;
        narrow = high;
      }

  module _ (t : Thread) (gt : ThreadGood width s t) where
    g : FieldsGood width s t
    g = gt.fields

    -- I1
    pub read_depth_good : PlanGood width s (read_depth m t)
    unfolding read_depth with_search
    read_depth_good =
        let d = fields_depth s t g m.depth sm.depth_most in
        on_to_good s _
        (fields_search s (with_depth t m.depth) d (searching t.search_state.leaf 0 t.search_state.lo t.search_state.hi)
        g.leaf (omega arith) g.lo g.hi)
        ReadLeaf
        (omega (arith, r.threshold_least))

    -- the search goes on from a record in range: place, tries and node stay as they were
    ancestor_few : (n j : ℕ) → n ≤ node_count s → ancestor n j ≤ node_count s
    unfolding ancestor
    ancestor_few n j h = omega (arith, h, div-le_self n (2 ^ (level n - j)))

    searched_good : (leaf lo hi : ℕ) → leaf ≤ node_count s → lo ≤ s.depth → hi ≤ s.depth → (q : NodeCopy) → CopyGood width s.cells q
        → ThreadGood width s (with_first (with_search t (searching leaf t.search_state.tries lo hi)) q)
    unfolding with_first with_search
    searched_good leaf lo hi hl hlo hhi q hq =
        let x = searching leaf t.search_state.tries lo hi in
        let u = with_first (with_search t x) q in
        record {
          fields = fields_first s (with_search t x) (fields_search s t g x hl g.tries hlo hhi) q hq;
          place = place_same s t u t.place refl refl gt.place;
        }

    pub search_on_good : (u : Thread) → ThreadGood width s u → PlanGood width s (search_on u)
    unfolding search_on
    search_on_good u gu =
        let f = gu.fields in
        pick_good (PlanGood width s) (ltb u.search_state.lo u.search_state.hi) (λ h. on_to_good s u f ReadAncestor tt)
        (λ h. pick_good (PlanGood width s) (between 1 u.search_state.hi (level u.search_state.leaf))
        (λ k. on_to_good s _ (fields_node s u f _ (ancestor_few u.search_state.leaf u.search_state.hi f.leaf)) ReadTarget tt)
        (λ k. refused_good s u gu Unreadable))

    -- I2
    module _ (at_level : is_level s t.depth ≡ true) (leaf : ℕ) (h : LeafOf t.depth leaf) (q : NodeCopy) (hq : CopyGood width s.cells q) where
      some_depth : 1 ≤ t.depth
      unfolding is_level
      some_depth = between_least 1 t.depth s.depth at_level

      leaf_few : (leaf : ℕ) → LeafOf t.depth leaf → leaf ≤ node_count s
      leaf_few leaf h = omega (arith, h.most, pow_mono {i = t.depth} {j = s.depth} g.depth)

      after_failed_try_good : PlanGood width s (after_failed_try s t leaf q)
      unfolding after_failed_try failed_place next_tries with_first with_search
      after_failed_try_good =
          let next = leaf_after_failed_try s t leaf in
          let x = searching next (next_tries s t) t.search_state.lo t.search_state.hi in
          let u = with_first (with_search t x) q in
          on_to_good s u
          (fields_first s (with_search t x)
          (fields_search s t g x (leaf_few next (left_leaf s t some_depth leaf h)) (omega arith) g.lo g.hi) q hq)
          (failed_place s t)
          (pick_good (PlaceGood s u) (ltb (next_tries s t) s.threshold) (λ h. ltb-true (next_tries s t) s.threshold h)
          (λ h. pick_good (PlaceGood s u) (ltb t.depth s.depth) (λ k. tt) (λ k. tt)))

      after_leaf_read_good : PlanGood width s (after_leaf_read s t leaf q)
      unfolding after_leaf_read
      after_leaf_read_good =
          pick_good (PlanGood width s) (item_le t.item (value_of q))
          (λ e. search_on_good _ (searched_good leaf 1 t.depth (leaf_few leaf h) r.depth_least g.depth q hq))
          (λ e. after_failed_try_good)

    pub read_leaf_good : (c : ℕ) → PlanGood width s (read_leaf s m t c)
    unfolding read_leaf is_level
    read_leaf_good c =
        let leaf = leaf_to_read s t c in
        pick_good (PlanGood width s) (is_level s t.depth)
        (λ h. after_leaf_read_good h leaf (read_leaf_lem s t (between_least 1 t.depth s.depth h) c) _ (read_good leaf))
        (λ h. refused_good s t gt Unreadable)

    -- I3: the middle lies below hi
    middle_few : has_middle t ≡ true → middle_level t + 1 ≤ s.depth
    unfolding has_middle middle_level
    middle_few h =
        let below = ltb-true t.search_state.lo t.search_state.hi (and_left (ltb t.search_state.lo t.search_state.hi) _ h) in
        omega (arith, below, g.hi)

    pub after_ancestor_read_good : (j : ℕ) → j + 1 ≤ s.depth → (q : NodeCopy) → CopyGood width s.cells q → PlanGood width s (after_ancestor_read t j q)
    unfolding after_ancestor_read
    after_ancestor_read_good j hj q hq =
        search_on_good _
        (pick_good (λ z. ThreadGood width s (with_first (with_search t z) q)) (item_le t.item (value_of q))
        (λ h. searched_good t.search_state.leaf t.search_state.lo j g.leaf g.lo (omega arith) q hq)
        (λ h. searched_good t.search_state.leaf (j + 1) t.search_state.hi g.leaf hj g.hi q hq))

    pub read_ancestor_good : PlanGood width s (read_ancestor m t)
    unfolding read_ancestor
    read_ancestor_good =
        pick_good (PlanGood width s) (has_middle t) (λ h. after_ancestor_read_good (middle_level t) (middle_few h) _ (read_good _))
        (λ h. refused_good s t gt Unreadable)

    -- I4
    pub grow_depth_good : PlanGood width s (grow_depth s m t)
    unfolding grow_depth is_level
    grow_depth_good =
        pick_good (PlanGood width s) (is_level s t.depth && is_level s (t.depth + 1))
        (λ h. let k = and_right (is_level s t.depth) (is_level s (t.depth + 1)) h in
        pick_good (PlanGood width s) (eqb m.depth t.depth)
        (λ e. plan_good s (Grow (t.depth + 1)) _ Moved
        (between_least 1 (t.depth + 1) s.depth k, between_most 1 (t.depth + 1) s.depth k)
        (at_good s t g ReadDepth tt))
        (λ e. on_to_good s t g ReadDepth tt))
        (λ h. refused_good s t gt Unreadable)

    -- I5 and I7
    pub read_target_good : PlanGood width s (read_target m t)
    unfolding read_target target_place
    read_target_good =
        let q = read_node m t.node in
        pick_good (PlanGood width s) (eqb t.node 0) (λ h. refused_good s t gt Unreadable)
        (λ h. on_to_good s (with_first t q) (fields_first s t g q (read_good t.node)) (target_place t q)
        (pick_good (PlaceGood s (with_first t q)) (item_lt (value_of q) t.item) (λ k. tt)
        (λ k. pick_good (PlaceGood s (with_first t q)) (eqb t.node 1) (λ e. tt) (λ e. tt))))

    pub read_parent_good : PlanGood width s (read_parent m t)
    unfolding read_parent
    read_parent_good =
        let q = read_node m (t.node / 2) in
        let p = pick (item_lt t.item (value_of q)) ReadDepth InsertBelow in
        pick_good (PlanGood width s) (ltb t.node 2) (λ h. refused_good s t gt Unreadable)
        (λ h. on_to_good s (with_second t q) (fields_second s t g q (read_good (t.node / 2))) p
        (pick_good (PlaceGood s (with_second t q)) (item_lt t.item (value_of q)) (λ k. tt) (λ k. tt)))

    -- I6 and I8
    pub insert_at_good : (n : ℕ) → NodeIn s n → CellIn s t.own → (holds : Bool) → PlanGood width s (insert_at t n holds)
    unfolding insert_at
    insert_at_good n hn hc holds =
        let q = t.copies.first.node in
        pick_good (PlanGood width s) holds
        (λ h. pick_good (PlanGood width s) (is_spent q) (λ k. refused_good s t gt CounterSpent)
        (λ k. plan_good s (Push n (updated q t.own q.dirty) t.own q.first) (gone_idle t) _
        (hn, hc, updated_good q t.own q.dirty g.first.node k g.own g.first.node.dirty, g.first.node.first)
        (gone_good s t g)))
        (λ h. on_to_good s t g ReadDepth tt)

    own_cell : (t.own ≡ 0 → ⊥) → CellIn s t.own
    own_cell n = (omega arith, g.own)

    pub insert_at_root_good : PlanGood width s (insert_at_root m t)
    unfolding insert_at_root
    insert_at_root_good =
        pick_good (PlanGood width s) (eqb t.own 0) (λ h. refused_good s t gt Unreadable)
        (λ h. insert_at_good 1 (omega arith, some_nodes) (own_cell (eqb-false t.own 0 h)) _)

    pub insert_below_good : PlanGood width s (insert_below m t)
    unfolding insert_below
    insert_below_good =
        pick_good (PlanGood width s) (ltb t.node 2 || eqb t.own 0) (λ h. refused_good s t gt Unreadable)
        (λ h. insert_at_good t.node
        (omega (arith, ltb-false t.node 2 (or_left (ltb t.node 2) (eqb t.own 0) h)), g.node)
        (own_cell (eqb-false t.own 0 (or_right (ltb t.node 2) (eqb t.own 0) h)))
        _)

    -- E1 and 17
    pub after_root_read_good : (q : NodeCopy) → CopyGood width s.cells q → (after : ℕ) → after ≤ 3 → (next : Place)
        → PlaceGood s (with_first t q) next → PlanGood width s (after_root_read t q after next)
    unfolding after_root_read
    after_root_read_good q hq after ha next hn =
        let f = fields_first s t g q hq in
        pick_good (PlanGood width s) (is_dirty q.node)
        (λ h. moved_good s _ (mending_good s _ (fields_after s (with_first t q) f after ha) 1 0 some_nodes (omega arith)))
        (λ h. pick_good (PlanGood width s) (eqb q.node.first 0)
        (λ k. plan_good s Nothing (gone_idle t) _ tt (gone_good s t g))
        (λ k. on_to_good s (with_first t q) f next hn))

    pub read_root_good : PlanGood width s (read_root m t)
    unfolding read_root
    read_root_good = after_root_read_good (read_node m 1) (read_good 1) 0 (omega arith) RemoveHead tt

    pub list_read_root_good : PlanGood width s (list_read_root m t)
    unfolding list_read_root
    list_read_root_good = after_root_read_good (read_node m 1) (read_good 1) 2 (omega arith) RemoveList tt

    -- E2 and 18
    pub cas_root_good : (back : Place) → PlaceGood s t back → (removed : Plan)
        → ((t.copies.first.node.first ≡ 0 → ⊥) → is_spent t.copies.first.node ≡ false → PlanGood width s removed)
        → PlanGood width s (cas_root m t back removed)
    unfolding cas_root
    cas_root_good back hb removed hr =
        let q = t.copies.first in
        pick_good (PlanGood width s) (same_node (m.node 1) q.node)
        (λ k. pick_good (PlanGood width s) (eqb q.node.first 0) (λ h. refused_good s t gt Unreadable)
        (λ h. pick_good (PlanGood width s) (is_spent q.node) (λ e. refused_good s t gt CounterSpent)
        (λ e. hr (eqb-false q.node.first 0 h) e)))
        (λ k. on_to_good s t g back hb)

    pub remove_head_good : PlanGood width s (remove_head m t)
    unfolding remove_head after_removal
    remove_head_good =
        let q = t.copies.first in
        let f = fields_result s t g q.head.item g.first.head.key g.first.head.tag in
        cas_root_good ReadRoot tt _ λ ne e.
        plan_good s (Pop (updated q.node q.head.next 1) q.node.first) _ Moved
        ((omega arith, g.first.node.first), updated_good q.node q.head.next 1 g.first.node e g.first.head.next (omega arith))
        (mending_good s _ (fields_after s _ f 1 (omega arith)) 1 0 some_nodes (omega arith))

    pub remove_list_good : PlanGood width s (remove_list m t)
    unfolding remove_list after_list_removal
    remove_list_good =
        let q = t.copies.first in
        let f = fields_own s t g q.node.first g.first.node.first in
        cas_root_good ListReadRoot tt _ λ ne e.
        plan_good s (Detach (updated q.node 0 1)) _ Moved
        (updated_good q.node 0 1 g.first.node e (omega arith) (omega arith))
        (mending_good s _ (fields_after s _ f 3 (omega arith)) 1 0 some_nodes (omega arith))

    -- 19
    pub hand_out_good : PlanGood width s (hand_out m t)
    unfolding hand_out handed_out
    hand_out_good =
        let c = m.cell t.own in
        let f = fields_own s t g c.next (sm.cell t.own).next in
        pick_good (PlanGood width s) (eqb t.own 0) (λ h. refused_good s t gt Unreadable)
        (λ h. plan_good s (Free t.own) _ _ (own_cell (eqb-false t.own 0 h))
        (pick_good (ThreadGood width s) (eqb c.next 0) (λ k. gone_good s t g) (λ k. at_good s (with_own t c.next) f HandOut tt)))

    -- the withdrawal at a put's and a take's places
    pub withdrawal_good : PlanGood width s (withdrawal t)
    unfolding withdrawal
    withdrawal_good =
        pick_good (PlanGood width s) (is_put_place t.place)
        (λ p. pick_good (PlanGood width s) (eqb t.own 0) (λ h. refused_good s t gt Unreadable)
        (λ h. plan_good s (Free t.own) _ Withdrawn (own_cell (eqb-false t.own 0 h)) (gone_good s t g)))
        (λ p. plan_good s Nothing _ Withdrawn tt (gone_good s t g))

    -- Mending, with the waiting levels w above the node's.
    module _ (w : ℕ) (hw : WaitsAbove t.node w) where
      few_nodes : node_count s < 2 ^ 32
      few_nodes = omega (arith, sizes s r.depth_most)

      after_good : (u : Thread) (a : ℕ) → PlaceGood s u (place_after a)
      unfolding place_after
      after_good u a = pick_good (PlaceGood s u) (eqb a 2) (λ h. tt) (λ h. pick_good (PlaceGood s u) (eqb a 3) (λ k. tt) (λ k. tt))

      pub returned_good : (u : Thread) → FieldsGood width s u → u.node ≡ t.node → ThreadGood width s (returned u w)
      unfolding returned
      returned_good u gu en =
          pick_good (ThreadGood width s) (eqb w 0)
          (λ h. pick_good (ThreadGood width s) (eqb u.after 1) (λ k. gone_good s u gu)
          (λ k. at_good s u gu (place_after u.after) (after_good u u.after)))
          (λ h. mending_good s u gu _ _ (ancestor_few u.node (level w) gu.node)
          (waits_returned u.node w (omega (arith, gu.node, few_nodes)) (eqb-false w 0 h) (subst (λ n. WaitsAbove n w) (sym en) hw)))

      pub returning_good : (e : Effect) → EffectGood counter_size s e → (u : Thread) → FieldsGood width s u → u.node ≡ t.node
          → PlanGood width s (returning e u w)
      unfolding returning
      returning_good e he u gu en = plan_good s e (returned u w) (return_answer u w) he (returned_good u gu en)

      -- M1
      pub mend_read_node_good : PlanGood width s (mend_read_node m t w)
      unfolding mend_read_node with_first
      mend_read_node_good =
          let q = read_node m t.node in
          pick_good (PlanGood width s) (eqb t.node 0) (λ h. refused_good s t gt Unreadable)
          (λ h. on_to_good s (with_first t q) (fields_first s t g q (read_good t.node)) (MendReadDepth w) hw)

      -- M2
      pub mend_read_depth_good : PlanGood width s (mend_read_depth m t w)
      unfolding mend_read_depth after_depth_read with_depth
      mend_read_depth_good =
          let u = with_depth t m.depth in
          let f = fields_depth s t g m.depth sm.depth_most in
          pick_good (PlanGood width s) (is_dirty t.copies.first.node)
          (λ k. pick_good (PlanGood width s) (eqb t.node 0) (λ h. refused_good s t gt Unreadable)
          (λ h. pick_good (PlanGood width s) (eqb (level t.node) m.depth) (λ e. on_to_good s u f (MendClean w) hw)
          (λ e. on_to_good s u f (MendReadLeft w) hw)))
          (λ k. returning_good Nothing tt u f refl)

      -- M3
      pub mend_read_left_good : PlanGood width s (mend_read_left s m t w)
      unfolding mend_read_left with_second
      mend_read_left_good =
          let q = read_node m (2 * t.node) in
          pick_good (PlanGood width s) (is_node s (2 * t.node))
          (λ h. on_to_good s (with_second t q) (fields_second s t g q (read_good (2 * t.node))) (MendReadRight w) hw)
          (λ h. refused_good s t gt Unreadable)

      -- M4
      pub after_children_read_good : (u : Thread) → FieldsGood width s u → u.node ≡ t.node → 1 ≤ t.node → 2 * t.node + 1 ≤ node_count s
          → PlanGood width s (after_children_read u w)
      unfolding after_children_read
      after_children_read_good u gu en p l =
          let n = u.node in
          let hu : WaitsAbove n w = subst (λ k. WaitsAbove k w) (sym en) hw in
          let pn : 1 ≤ n = omega arith in
          pick_good (PlanGood width s) (is_dirty u.copies.second.node)
          (λ h. moved_good s _ (mending_good s u gu (2 * n) (marked w (level n)) (omega arith)
          (waits_marked n (2 * n) w pn (omega arith) (omega arith) (omega (arith, few_nodes)) hu)))
          (λ h. pick_good (PlanGood width s) (is_dirty u.copies.third.node)
          (λ k. moved_good s _ (mending_good s u gu (2 * n + 1) (marked w (level n)) (omega arith)
          (waits_marked n (2 * n + 1) w pn (omega arith) (omega arith) (omega (arith, few_nodes)) hu)))
          (λ k. pick_good (PlanGood width s) (child_less u) (λ e. on_to_good s u gu (MendSwap w) hu) (λ e. on_to_good s u gu (MendClean w) hu)))

      pub mend_read_right_good : PlanGood width s (mend_read_right s m t w)
      unfolding mend_read_right is_node with_third
      mend_read_right_good =
          let c = 2 * t.node + 1 in
          let q = read_node m c in
          pick_good (PlanGood width s) (not (eqb t.node 0) && is_node s c)
          (λ h. let ne = eqb-false t.node 0 (not-true (eqb t.node 0) (and_left (not (eqb t.node 0)) (is_node s c) h)) in
          after_children_read_good (with_third t q) (fields_third s t g q (read_good c)) refl (omega arith)
          (between_most 1 c (node_count s) (and_right (not (eqb t.node 0)) (is_node s c) h)))
          (λ h. refused_good s t gt Unreadable)

      -- M5
      pub exchange_with_good : (c : ℕ) (k : Node) → 2 * t.node ≤ c → c ≤ 2 * t.node + 1 → NodeGood width s.cells k
          → PlanGood width s (exchange_with s m t w c k)
      unfolding exchange_with exchange_at is_node
      exchange_with_good c k lo hi hk =
          let n = t.copies.first.node in
          pick_good (PlanGood width s) (not (eqb t.node 0) && is_node s c)
          (λ h. let ne = eqb-false t.node 0 (not-true (eqb t.node 0) (and_left (not (eqb t.node 0)) (is_node s c) h)) in
          let cl = between_least 1 c (node_count s) (and_right (not (eqb t.node 0)) (is_node s c) h) in
          let cu = between_most 1 c (node_count s) (and_right (not (eqb t.node 0)) (is_node s c) h) in
          pick_good (PlanGood width s) (node_and_child_same m t c k)
          (λ y. pick_good (PlanGood width s) (is_spent n || is_spent k) (λ e. refused_good s t gt CounterSpent)
          (λ e. plan_good s (Exchange t.node (updated n k.first 0) c (updated k n.first 1)) (mending t c w) Moved (
            (omega arith, g.node),
            (cl, cu),
            updated_good n k.first 0 g.first.node (or_left (is_spent n) (is_spent k) e) hk.first
                (omega arith),
            updated_good k n.first 1 hk (or_right (is_spent n) (is_spent k) e) g.first.node.first
                (omega arith),
          )
          (mending_good s t g c w cu (waits_at_child t.node c w (omega arith) lo hi (omega (arith, cu, few_nodes)) hw))))
          (λ y. on_to_good s t g (MendReadNode w) hw))
          (λ h. refused_good s t gt Unreadable)

      pub mend_swap_good : PlanGood width s (mend_swap s m t w)
      unfolding mend_swap
      mend_swap_good =
          pick_good (PlanGood width s) (item_le (value_of t.copies.second) (value_of t.copies.third))
          (λ h. exchange_with_good (2 * t.node) t.copies.second.node (omega arith) (omega arith) g.second.node)
          (λ h. exchange_with_good (2 * t.node + 1) t.copies.third.node (omega arith) (omega arith) g.third.node)

      -- M6
      pub mend_clean_good : PlanGood width s (mend_clean m t w)
      unfolding mend_clean clean_at
      mend_clean_good =
          let n = t.copies.first.node in
          pick_good (PlanGood width s) (eqb t.node 0) (λ h. refused_good s t gt Unreadable)
          (λ h. let ne = eqb-false t.node 0 h in
          pick_good (PlanGood width s) (same_node (m.node t.node) n)
          (λ k. pick_good (PlanGood width s) (is_spent n) (λ e. refused_good s t gt CounterSpent)
          (λ e. returning_good (Clean t.node (updated n n.first 0))
          ((omega arith, g.node), updated_good n n.first 0 g.first.node e g.first.node.first (omega arith))
          t g refl))
          (λ k. on_to_good s t g (MendReadNode w) hw))
