-- Every plan of a thread at its place: its effect is one that the mound allows, what it tells fits the thread's operation, and
-- the facts of its next place hold; or the turn is refused 11 for a counter that is spent, and never 7. Assumes nothing.
use Prim.Native.Nat.{ℕ, suc, ◌+◌, ◌-◌, ◌*◌, ◌/◌, ◌^◌, ◌≤◌, ◌<◌}
use native.Mathlib.Nat.{div-le_self, le-div_iff_mul-le, pow-suc}
use native.Mathlib.Omega.{arith}
use mathlib.Core.Path.{◌≡◌, refl, sym, ap, subst, ◌∙◌}
use mathlib.Core.Bool.{Bool, true, false, not, ◌&&◌, ◌||◌, true≢false}
use mathlib.Core.List.{List, [], ◌∷◌}
use mathlib.Core.Logic.{◌⊎◌, inl, inr}
use borrow.Author.Tests.{ltb-true, eqb-true, eqb-false, ne_eqb, lt-ltb, le-ltb}
use lib.Dec.{ltb, eqb}
use lib.Pow.{pow_mono, pow_pos}
use Rattle.region.specs.Record.{counter_of}
use Rattle.region.specs.declared.refusal.Refusal.TheVariants.{CounterSpent, Unreadable}
use Rattle.region.specs.Level.{ancestor, level, mark}
use Rattle.region.specs.Pick.{pick}
use Rattle.region.specs.Shape.{between, node_count}
use Rattle.region.specs.Inner.{InRange}
use Rattle.region.specs.Shared.{Shared}
use Rattle.region.specs.Thread.{gone_idle, mending, at_place, with_own, with_depth, with_search, with_node, with_after, with_result, with_copies, with_first, with_second, with_third}
use Rattle.region.specs.declared.answer.Answer.{Answer}
use Rattle.region.specs.declared.answer.Answer.TheVariants.{Moved, Idle as AnswersIdle, Inserted, Took, Empty, Refused, Withdrawn}
use Rattle.region.specs.declared.place.Place.{Place}
use Rattle.region.specs.declared.place.Place.TheVariants.{Idle, ReadDepth, ReadLeaf, ReadAncestor, GrowDepth, ReadTarget, InsertAtRoot, ReadParent, InsertBelow, ReadRoot, RemoveHead, MendReadNode, MendReadDepth, MendReadLeft, MendReadRight, MendSwap, MendClean, ListReadRoot, RemoveList, HandOut}
use Rattle.region.specs.declared.record.Item.{Item}
use Rattle.region.specs.declared.record.Node.{Node}
use Rattle.region.specs.declared.record.NodeCopy.{NodeCopy}
use Rattle.region.specs.declared.shape.Shape.{Shape}
use Rattle.region.specs.declared.thread.Thread.{Thread}
use Rattle.region.proofs.Levels.{level_at_least, level_at_most, level_holds, level_some, power_doubles}
use Rattle.region.proofs.Picks.{pick_good}
use Rattle.region.proofs.Shapes.{and_left, and_right, and_both, is_between, sizes}
use Rattle.access.specs.Order.{item_le, item_lt, top_item, val, value_of}
use Rattle.access.specs.Plan.{changes_nothing, moved, on_to, plan, refused}
use Rattle.access.specs.Read.{is_dirty, is_level, is_node, is_spent, read_node, same_node, updated}
use Rattle.access.specs.declared.effect.Effect.{Effect}
use Rattle.access.specs.declared.effect.Effect.TheVariants.{Nothing, Grow, Push, Pop, Exchange, Clean, Detach, Free}
use Rattle.access.specs.declared.plan.Plan.{Plan}
use Rattle.access.proofs.OrderLaws.{item_not_less, item_refl, item_total, item_trans}
use Rattle.access.proofs.ReadLaws.{is_clean, is_dirty_lem, same_node_lem}
use Rattle.insert.specs.Insert.{searching, read_depth, search_on, leaf_after_failed_try, leaf_to_read, next_tries, failed_place, after_failed_try, after_leaf_read, read_leaf, after_ancestor_read, middle_level, has_middle, read_ancestor, grow_depth, target_place, read_target, insert_at, insert_at_root, read_parent, node_and_parent_same, insert_below}
use Rattle.insert.proofs.Laws.{LeafOf, node_same, parent_same, read_leaf_lem}
use Rattle.extract.specs.Extract.{after_list_removal, after_removal, after_root_read, cas_root, hand_out, handed_out, list_read_root, read_root, remove_head, remove_list}
use Rattle.moundify.specs.Moundify.{returning, mend_read_node, after_depth_read, mend_read_depth, mend_read_left, marked, less_below, child_less, after_children_read, mend_read_right, exchange_at, node_and_child_same, exchange_with, mend_swap, clean_at, mend_clean, place_after, returned, return_answer}
use Rattle.permission.specs.Grants.{may_put, may_take}
use Rattle.permission.specs.Withdraw.{is_put_place, is_take_place, is_unreadable, lacks_permission, permitted, withdrawal}
use Rattle.machine.specs.Turn.{decide, decide_at}
use Rattle.theory.specs.Ledger.{Operation, Undecided, UndecidedTake, a_put, a_take, none, one_item, owing, putting, listing, still_owing, taking, whole_list}
use Rattle.theory.proofs.Chains.{HasItems, some_items}
use Rattle.theory.proofs.Effects.{Mound, PushAllowed, PopAllowed, ExchangeAllowed, CleanAllowed, DetachAllowed, FreeAllowed, in_tree}
use Rattle.theory.proofs.Facts.{At, AnyValue, Child, ChildRead, Dirty, Hands, InTree, Inner, LevelRead, Mended, Mends, Parent, Purpose, Puts, RootRead, Searching, Sound, Swappable, Takes, Target, for_answer, for_hands, for_list, for_take, sound_read}
use Rattle.theory.proofs.Held.{node_chain, val_top}
use Rattle.theory.proofs.Order.{Above, below_children}
use Rattle.theory.proofs.Sorted.{AtMost, value_at}

-- what an effect of thread t requires of the mound
abbrev pub Allowed : Shape → Shared → (ℕ → ℕ) → ℕ → Effect → Type 0
Allowed s m own t Nothing = Unit
Allowed s m own t (Grow d) = (d ≡ m.depth + 1) × (d ≤ s.depth)
Allowed s m own t (Push n v c x) = PushAllowed m own t n v c x
Allowed s m own t (Pop v c) = PopAllowed m v c
Allowed s m own t (Exchange n v k w) = (j : ℕ) × ExchangeAllowed m n v k w j
Allowed s m own t (Clean n v) = CleanAllowed m n v
Allowed s m own t (Detach v) = DetachAllowed m own t v
Allowed s m own t (Free c) = FreeAllowed own t c

-- the thread's operation before and after a turn with this effect and this answer
pub data OperationAfter (m : Shared) (op op' : Operation) : Effect → Answer → Type 0 where
  reads : op' ≡ op → OperationAfter m op op' Nothing Moved
  grows : {d : ℕ} → op' ≡ op → OperationAfter m op op' (Grow d) Moved
  swaps : {n k : ℕ} {v w : Node} → op' ≡ op → OperationAfter m op op' (Exchange n v k w) Moved
  cleans : {n : ℕ} {v : Node} → op' ≡ op → OperationAfter m op op' (Clean n v) Moved
  inserts : {n c x : ℕ} {v : Node} (i : Item) → op ≡ putting i → (m.cell c).item ≡ i → op' ≡ none
      → OperationAfter m op op' (Push n v c x) Inserted
  removes : {v : Node} {c : ℕ} → op ≡ taking → op' ≡ owing (m.cell c).item [] → OperationAfter m op op' (Pop v c) Moved
  detaches : {v : Node} (i : Item) (is : List Item) → op ≡ listing → HasItems m.cell (m.node 1).first (i ∷ is) → op' ≡ owing i is
      → OperationAfter m op op' (Detach v) Moved
  empties : {o : Operation} → op ≡ o → UndecidedTake o → op' ≡ none → (m.node 1).dirty ≡ 0 → (m.node 1).first ≡ 0
      → OperationAfter m op op' Nothing Empty
  answers : {i : Item} → op ≡ owing i [] → op' ≡ none → OperationAfter m op op' Nothing (Took i)
  cleans_answers : {n : ℕ} {v : Node} {i : Item} → op ≡ owing i [] → op' ≡ none → OperationAfter m op op' (Clean n v) (Took i)
  hands_out : {c : ℕ} {i : Item} (is : List Item) → op ≡ owing i is → op' ≡ still_owing is → OperationAfter m op op' (Free c) (Took i)
  frees_withdrawn : {c : ℕ} {o : Operation} → op ≡ o → Undecided o → op' ≡ none → OperationAfter m op op' (Free c) Withdrawn
  leaves_withdrawn : {o : Operation} → op ≡ o → Undecided o → op' ≡ none → OperationAfter m op op' Nothing Withdrawn

-- a turn with such an effect and answer is carried out
pub operation_moves : {m : Shared} {op op' : Operation} {e : Effect} {a : Answer} → OperationAfter m op op' e a → changes_nothing a ≡ false
operation_moves (reads k) = refl
operation_moves (grows k) = refl
operation_moves (swaps k) = refl
operation_moves (cleans k) = refl
operation_moves (inserts i x y z) = refl
operation_moves (removes x y) = refl
operation_moves (detaches i is x y z) = refl
operation_moves (empties x y z w u) = refl
operation_moves (answers x y) = refl
operation_moves (cleans_answers x y) = refl
operation_moves (hands_out is x y) = refl
operation_moves (frees_withdrawn x y z) = refl
operation_moves (leaves_withdrawn x y z) = refl

-- the own cell afterwards: a push or a freeing takes it and leaves the one behind it, a detaching gives the root's first, nothing else changes it
abbrev pub OwnAfter : Shared → Effect → ℕ → ℕ → Type 0
OwnAfter m Nothing o o' = o' ≡ o
OwnAfter m (Grow d) o o' = o' ≡ o
OwnAfter m (Push n v c x) o o' = o' ≡ (m.cell c).next
OwnAfter m (Pop v c) o o' = o' ≡ o
OwnAfter m (Exchange n v k w) o o' = o' ≡ o
OwnAfter m (Clean n v) o o' = o' ≡ o
OwnAfter m (Detach v) o o' = o' ≡ (m.node 1).first
OwnAfter m (Free c) o o' = o' ≡ (m.cell c).next

pub data Planned (s : Shape) (m : Shared) (own : ℕ → ℕ) (t : ℕ) (o : ℕ) (op : Operation) (p : Plan) : Type 0 where
  rests : p.effect ≡ Nothing → p.answer ≡ AnswersIdle → Planned s m own t o op p
  refuses : p.effect ≡ Nothing → p.answer ≡ Refused CounterSpent → Planned s m own t o op p
  moves : (op' : Operation) → Allowed s m own t p.effect → OperationAfter m op op' p.effect p.answer
      → OwnAfter m p.effect o p.thread.own → At s m p.thread op' p.thread.place → Planned s m own t o op p

-- Where nodes lie: ancestors and children.
ancestor_some : (n j : ℕ) → 1 ≤ n → n < 2 ^ 32 → 1 ≤ j → 1 ≤ ancestor n j
unfolding ancestor
ancestor_some n j p few l =
    let a = level_holds n p few in
    let b = pow_mono {i = level n - j} {j = level n - 1} (omega arith) in
    (le-div_iff_mul-le (pow_pos (level n - j))).1 (omega (arith, a.least, b))

ancestor_most : (n j : ℕ) → ancestor n j ≤ n
unfolding ancestor
ancestor_most n j = div-le_self n (2 ^ (level n - j))

-- a node above the present depth's level has its children in the tree; at that level they lie deeper
children_inside : (n d : ℕ) → 1 ≤ n → n < 2 ^ 32 → n < 2 ^ d → (level n ≡ d → ⊥) → 2 * n + 1 < 2 ^ d
children_inside n d p few h ne =
    let a = level_at_most n d p few h in
    let b = pow_mono {i = suc (level n)} {j = d} (omega arith) in
    omega (arith, (level_holds n p few).most, b, pow-suc 2 (level n))

children_deeper : (n d : ℕ) → 1 ≤ n → n < 2 ^ 32 → level n ≡ d → 2 ^ d ≤ 2 * n
children_deeper n d p few e =
    let a = level_holds n p few in
    let b = power_doubles (level n) a.some in
    let c = ap (λ j. 2 ^ j) e in
    omega (arith, a.least, b, c)

-- A thread t at its place, with the record th, on the mound m.
module _ (s : Shape) (r : InRange s) (m : Shared) (own : ℕ → ℕ) {all : ℕ} (g : Mound s m own all) (t : ℕ) (th : Thread) (mine : own t ≡ th.own)
    (op : Operation) where
  abbrev Fits : Plan → Type 0
  Fits = Planned s m own t th.own op

  few_nodes : (n : ℕ) → n < 2 ^ m.depth → n < 2 ^ 32
  few_nodes n h = omega (arith, in_tree s m own g n h, sizes s r.depth_most)

  at_place_lem : (u : Thread) (o : Operation) (x : Place) → At s m u o x → At s m (at_place u x) o x
  unfolding at_place
  at_place_lem u o Idle h = h
  at_place_lem u o ReadDepth h = h
  at_place_lem u o ReadLeaf h = h
  at_place_lem u o ReadAncestor h = h
  at_place_lem u o GrowDepth h = h
  at_place_lem u o ReadTarget h = h
  at_place_lem u o InsertAtRoot h = h
  at_place_lem u o ReadParent h = h
  at_place_lem u o InsertBelow h = h
  at_place_lem u o ReadRoot h = h
  at_place_lem u o RemoveHead h = h
  at_place_lem u o (MendReadNode w) h = h
  at_place_lem u o (MendReadDepth w) h = h
  at_place_lem u o (MendReadLeft w) h = h
  at_place_lem u o (MendReadRight w) h = h
  at_place_lem u o (MendSwap w) h = h
  at_place_lem u o (MendClean w) h = h
  at_place_lem u o ListReadRoot h = h
  at_place_lem u o RemoveList h = h
  at_place_lem u o HandOut h = h

  -- plans of each kind
  goes_on : (u : Thread) (x : Place) → u.own ≡ th.own → At s m u op x → Fits (on_to u x)
  unfolding on_to moved plan at_place
  goes_on u x e h = moves op tt (reads refl) e (at_place_lem u op x h)

  is_refused : (u : Thread) → Fits (refused u CounterSpent)
  unfolding refused plan
  is_refused u = refuses refl refl

  mends_on : (u : Thread) (n w : ℕ) → u.own ≡ th.own → Purpose m u op → InTree m n
      → Fits (moved (mending u n w))
  unfolding moved plan mending at_place with_node
  mends_on u n w e h k = moves op tt (reads refl) e (h, k)

  -- a sound copy that the comparison finds is what a READ finds
  found : (n : ℕ) (q : NodeCopy) → Sound m n q → same_node (m.node n) q.node ≡ true → read_node m n ≡ q
  found n q h e = h.same (ap counter_of (same_node_lem (m.node n) q.node e))

  found_node : (n : ℕ) (q : NodeCopy) → read_node m n ≡ q → m.node n ≡ q.node
  unfolding read_node
  found_node n q e = ap (λ x. x.node) e

  found_head : (n : ℕ) (q : NodeCopy) → read_node m n ≡ q → m.cell q.node.first ≡ q.head
  unfolding read_node
  found_head n q e = ap (λ x. m.cell x.node.first) (sym e) ∙ ap (λ x. x.head) e

  -- I1
  depth_planned : Puts m th op → Fits (read_depth m th)
  unfolding read_depth with_search with_depth
  depth_planned h = goes_on _ ReadLeaf refl (h, (g.depth_least, omega arith))

  -- the search goes on, or its end names the node
  search_planned : (u : Thread) → u.own ≡ th.own → Puts m u op → 1 ≤ u.search_state.lo → u.search_state.lo ≤ u.search_state.hi
      → u.search_state.hi ≤ level u.search_state.leaf → InTree m u.search_state.leaf → Fits (search_on u)
  unfolding search_on with_node
  search_planned u e h l o v k =
      pick_good Fits (ltb u.search_state.lo u.search_state.hi)
      (λ q. goes_on u ReadAncestor e (h, record { lo = l; below = ltb-true u.search_state.lo u.search_state.hi q; hi = v; leaf = k }))
      (λ q. pick_good Fits (between 1 u.search_state.hi (level u.search_state.leaf))
      (λ y. goes_on (with_node u (ancestor u.search_state.leaf u.search_state.hi)) ReadTarget e (
        h,
        (
          ancestor_some u.search_state.leaf u.search_state.hi k.0 (few_nodes u.search_state.leaf k.1) (omega arith),
          omega (arith, ancestor_most u.search_state.leaf u.search_state.hi, k.1),
        ),
      ))
      (λ y. absurd (true≢false (sym (is_between 1 u.search_state.hi (level u.search_state.leaf) (omega arith) v) ∙ y))))

  -- I2
  module _ (h : Puts m th op) (l : LevelRead m th.depth) where
    is_level_lem : is_level s th.depth ≡ true
    unfolding is_level
    is_level_lem = is_between 1 th.depth s.depth l.0 (omega (arith, l.1, g.depth_most))

    module _ (choice : ℕ) where
      abbrev leaf : ℕ
      leaf = leaf_to_read s th choice

      at_depth : LeafOf th.depth leaf
      at_depth = read_leaf_lem s th l.0 choice

      leaf_in_tree : InTree m leaf
      leaf_in_tree = (
        omega (arith, at_depth.least, pow_pos (th.depth - 1)),
        omega (arith, at_depth.most, pow_mono {i = th.depth} {j = m.depth} l.1),
      )

      leaf_level : th.depth ≤ level leaf
      leaf_level = level_at_least leaf th.depth leaf_in_tree.0 (few_nodes leaf leaf_in_tree.1) at_depth.least

      leaf_planned : Fits (read_leaf s m th choice)
      unfolding read_leaf after_leaf_read after_failed_try failed_place with_first with_copies with_search
      leaf_planned =
          let q = read_node m leaf in
          pick_good Fits (is_level s th.depth)
          (λ a. pick_good Fits (item_le th.item (value_of q))
          (λ b. search_planned (with_first (with_search th (searching leaf th.search_state.tries 1 th.depth)) q) refl h
          (omega arith) l.0 leaf_level leaf_in_tree)
          (λ b. let u = with_first (with_search th (searching (leaf_after_failed_try s th leaf) (next_tries s th) th.search_state.lo th.search_state.hi)) q in
          goes_on u (failed_place s th) refl
          (pick_good (At s m u op) (ltb (next_tries s th) s.threshold) (λ k. (h, l))
          (λ k. pick_good (At s m u op) (ltb th.depth s.depth) (λ d. (h, l, ltb-true th.depth s.depth d)) (λ d. h)))))
          (λ a. absurd (true≢false (sym is_level_lem ∙ a)))

    -- I4
    grow_planned : th.depth < s.depth → Fits (grow_depth s m th)
    unfolding grow_depth is_level plan at_place
    grow_planned d =
        pick_good Fits (is_level s th.depth && is_level s (th.depth + 1))
        (λ a. pick_good Fits (eqb m.depth th.depth)
        (λ e. moves op (ap (λ k. k + 1) (sym (eqb-true m.depth th.depth e)), omega arith) (grows refl) refl h)
        (λ e. goes_on th ReadDepth refl h))
        (λ a. absurd (true≢false (sym (and_both is_level_lem (is_between 1 (th.depth + 1) s.depth (omega arith) (omega arith))) ∙ a)))

  -- I3
  module _ (h : Puts m th op) (x : Searching m th.search_state) where
    has_middle_lem : has_middle th ≡ true
    unfolding has_middle middle_level
    has_middle_lem =
        and_both (lt-ltb th.search_state.lo th.search_state.hi x.below)
        (is_between 1 (middle_level th) (level th.search_state.leaf) (omega (arith, x.lo, x.below)) (omega (arith, x.below, x.hi)))

    ancestor_planned : Fits (read_ancestor m th)
    unfolding read_ancestor after_ancestor_read middle_level with_first with_copies with_search
    ancestor_planned =
        pick_good Fits (has_middle th)
        (λ e. let q = read_node m (ancestor th.search_state.leaf (middle_level th)) in
        let leaf = th.search_state.leaf in
        let tries = th.search_state.tries in
        pick_good (λ z. Fits (search_on (with_first (with_search th z) q))) (item_le th.item (value_of q))
        (λ a. search_planned (with_first (with_search th (searching leaf tries th.search_state.lo (middle_level th))) q) refl h x.lo
        (omega (arith, x.below)) (omega (arith, x.below, x.hi)) x.leaf)
        (λ a. search_planned (with_first (with_search th (searching leaf tries (middle_level th + 1) th.search_state.hi)) q) refl h
        (omega arith)
        (omega (arith, x.below)) x.hi x.leaf))
        (λ e. absurd (true≢false (sym has_middle_lem ∙ e)))

  -- I5
  target_planned : Puts m th op → InTree m th.node → Fits (read_target m th)
  unfolding read_target target_place with_first with_copies
  target_planned h k =
      let n = th.node in
      let q = read_node m n in
      let u = with_first th q in
      pick_good Fits (eqb n 0) (λ e. absurd (let z = eqb-true n 0 e in omega (arith, k.0)))
      (λ e. goes_on u (target_place th q) refl
      (pick_good (At s m u op) (item_lt (value_of q) th.item) (λ a. h)
      (λ a. let least = item_not_less (value_of q) th.item a in
      pick_good (At s m u op) (eqb n 1)
      (λ b. (h, record { sound = subst (λ y. Sound m y q) (eqb-true n 1 b) (sound_read m n); least = least }))
      (λ b. let z = eqb-false n 1 b in (h, k, omega (arith, k.0), record { sound = sound_read m n; least = least })))))

  -- I6 and I8
  module _ (h : Puts m th op) (n : ℕ) (k : InTree m n) (a : Target m n th.item th.copies.first) (holds : Bool)
      (same : holds ≡ true → same_node (m.node n) th.copies.first.node ≡ true)
      (under : holds ≡ true → 2 ≤ n → AtMost (val m (n / 2)) th.item) where
    insert_planned : Fits (insert_at th n holds)
    unfolding insert_at plan gone_idle
    insert_planned =
        let q = th.copies.first in
        pick_good Fits holds
        (λ e. pick_good Fits (is_spent q.node) (λ z. is_refused th)
        (λ z. let f = found n q a.sound (same e) in
        let fn = found_node n q f in
        moves none
        (record {
          some = k.0;
          few = k.1;
          mine = mine;
          cell = h.has.0;
          proper = subst (λ i. item_le top_item i ≡ false) (sym h.has.1) h.proper;
          least = subst (λ i. AtMost i (val m n)) (sym h.has.1) (subst (AtMost th.item) (sym (ap value_of f)) a.least);
          parent = λ l. subst (AtMost (val m (n / 2))) (sym h.has.1) (under e l);
          value = ap (λ x. updated x th.own x.dirty) (sym fn);
          onto = ap (λ x. x.first) (sym fn);
        })
        (inserts th.item h.operation h.has.1 refl) (sym h.has.2) (refl, refl)))
        (λ e. goes_on th ReadDepth refl h)

  root_in_tree : InTree m 1
  root_in_tree = (omega arith, omega (arith, pow_mono {i = 1} {j = m.depth} g.depth_least))

  at_root_planned : Puts m th op → Target m 1 th.item th.copies.first → Fits (insert_at_root m th)
  unfolding insert_at_root
  at_root_planned h a =
      pick_good Fits (eqb th.own 0) (λ e. absurd (let z = eqb-true th.own 0 e in omega (arith, z, h.has.0)))
      (λ e. insert_planned h 1 root_in_tree a (same_node (m.node 1) th.copies.first.node) (λ x. x) (λ x l. absurd (omega arith)))

  -- I7
  parent_planned : Puts m th op → InTree m th.node → 2 ≤ th.node → Target m th.node th.item th.copies.first
      → Fits (read_parent m th)
  unfolding read_parent with_second with_copies
  parent_planned h k l a =
      let q = read_node m (th.node / 2) in
      let u = with_second th q in
      pick_good Fits (ltb th.node 2) (λ e. absurd (let z = ltb-true th.node 2 e in omega arith))
      (λ e. goes_on u _ refl
      (pick_good (At s m u op) (item_lt th.item (value_of q)) (λ b. h)
      (λ b. (h, k, l, a, record { sound = sound_read m (th.node / 2); most = item_not_less th.item (value_of q) b }))))

  below_planned : Puts m th op → InTree m th.node → 2 ≤ th.node → Target m th.node th.item th.copies.first
      → Parent m th.node th.item th.copies.second → Fits (insert_below m th)
  unfolding insert_below
  below_planned h k l a b =
      pick_good Fits (ltb th.node 2 || eqb th.own 0)
      (λ e. absurd (true≢false (sym e
      ∙ neither (ltb th.node 2) (eqb th.own 0) (le-ltb th.node 2 l) (ne_eqb th.own 0 (λ z. omega (arith, z, h.has.0))))))
      (λ e. insert_planned h th.node k a (node_and_parent_same m th) (node_same m th)
      (λ z w. subst (λ i. AtMost i th.item)
      (sym (ap value_of (found (th.node / 2) th.copies.second b.sound (parent_same m th z)))) b.most))
    where
      neither : (p q : Bool) → p ≡ false → q ≡ false → p || q ≡ false
      neither true q e z = e
      neither false q e z = z

  -- E1 and 17: o is the operation, whose mending comes back here
  root_read_planned : (o : Operation) → UndecidedTake o → (after : ℕ) (next : Place) → Takes m th o op
      → Purpose m (with_after (with_first th (read_node m 1)) after) op
      → (RootRead m (read_node m 1) → At s m (with_first th (read_node m 1)) op next) → Fits (after_root_read th (read_node m 1) after next)
  unfolding after_root_read with_first with_copies with_after plan gone_idle read_node
  root_read_planned o un after next h back there =
      let q = read_node m 1 in
      pick_good Fits (is_dirty q.node)
      (λ e. mends_on (with_after (with_first th q) after) 1 0 refl back root_in_tree)
      (λ e. pick_good Fits (eqb q.node.first 0)
      (λ z. moves none tt (empties h.operation un refl (is_clean q.node e) (eqb-true q.node.first 0 z)) (sym h.has)
      (refl, refl))
      (λ z. let ne = eqb-false q.node.first 0 z in
      goes_on (with_first th q) next refl (there (record { sound = sound_read m 1; clean = is_clean q.node e; some = omega arith }))))

  root_planned : Takes m th taking op → Fits (read_root m th)
  unfolding read_root with_first with_copies with_after
  root_planned h = root_read_planned taking one_item 0 RemoveHead h (for_take refl h) (λ a. (h, a))

  list_root_planned : Takes m th listing op → Fits (list_read_root m th)
  unfolding list_read_root with_first with_copies with_after
  list_root_planned h = root_read_planned listing whole_list 2 RemoveList h (for_list refl h) (λ a. (h, a))

  -- E2 and 18: the copy is found, or the thread goes back
  root_cas_planned : (back : Place) (removed : Plan) → RootRead m th.copies.first → At s m th op back
      → (read_node m 1 ≡ th.copies.first → Fits removed) → Fits (cas_root m th back removed)
  unfolding cas_root
  root_cas_planned back removed a h there =
      let q = th.copies.first in
      pick_good Fits (same_node (m.node 1) q.node)
      (λ y. pick_good Fits (eqb q.node.first 0) (λ e. absurd (let z = eqb-true q.node.first 0 e in omega (arith, z, a.some)))
      (λ e. pick_good Fits (is_spent q.node) (λ z. is_refused th) (λ z. there (found 1 q a.sound y))))
      (λ y. goes_on th back refl h)

  head_planned : Takes m th taking op → RootRead m th.copies.first → Fits (remove_head m th)
  unfolding remove_head after_removal plan mending at_place with_node with_after with_result
  head_planned h a =
      let q = th.copies.first in
      root_cas_planned ReadRoot _ a h
      (λ f. let fn = found_node 1 q f in
      let fh = found_head 1 q f in
      moves (owing q.head.item [])
      (record {
        clean = ap (λ x. x.dirty) fn ∙ a.clean;
        head = ap (λ x. x.first) fn;
        cell = a.some;
        value = ap (λ x. updated x q.head.next 1) (sym fn) ∙ ap (λ c. updated (m.node 1) c.next 1) (sym fh);
      })
      (removes h.operation (ap (λ c. owing c.item []) (sym fh))) refl
      (for_answer refl (record { operation = refl; has = h.has }), root_in_tree))

  -- the root's list, which the thread will have in hand
  list_planned : Takes m th listing op → RootRead m th.copies.first → Fits (remove_list m th)
  unfolding remove_list after_list_removal plan mending at_place with_node with_after with_own
  list_planned h a =
      let q = th.copies.first in
      root_cas_planned ListReadRoot _ a h
      (λ f. let fn = found_node 1 q f in
      let first : (m.node 1).first ≡ q.node.first = ap (λ x. x.first) fn in
      let some : 1 ≤ (m.node 1).first = omega (arith, first, a.some) in
      let l = some_items (node_chain s m own g.held 1 (omega arith)) some in
      moves (owing l.first l.rest)
      (record {
        clean = ap (λ x. x.dirty) fn ∙ a.clean;
        some = some;
        hands = mine ∙ h.has;
        value = ap (λ x. updated x 0 1) (sym fn);
      })
      (detaches l.first l.rest h.operation l.has refl) (sym first) (
        for_hands refl
            (record {
              first = l.first;
              rest = l.rest;
              operation = refl;
              has = subst (λ c. HasItems m.cell c (l.first ∷ l.rest)) first l.has;
            }),
        root_in_tree,
      ))

  -- 19: an item of several, or the last
  hand_planned : Hands m th op → Fits (hand_out m th)
  unfolding hand_out handed_out plan gone_idle at_place with_own
  hand_planned h =
      let c = th.own in
      pick_good Fits (eqb c 0) (λ e. absurd (let z = eqb-true c 0 e in omega (arith, z, h.has.0)))
      (λ e. pick_good (λ v. Fits (record { effect = Free c; thread = v; answer = Took (m.cell c).item })) (eqb (m.cell c).next 0)
      (λ z. last h.rest h.has.2 h.operation (eqb-true (m.cell c).next 0 z))
      (λ z. further h.rest h.has.2 h.operation (eqb-false (m.cell c).next 0 z)))
    where
      allowed : FreeAllowed own t th.own
      allowed = record { mine = mine; cell = h.has.0 }

      owes : (is : List Item) → op ≡ owing h.first is → op ≡ owing (m.cell th.own).item is
      owes is e = e ∙ ap (λ i. owing i is) (sym h.has.1)

      last : (is : List Item) → HasItems m.cell (m.cell th.own).next is → op ≡ owing h.first is → (m.cell th.own).next ≡ 0
          → Fits (record { effect = Free th.own; thread = gone_idle th; answer = Took (m.cell th.own).item })
      last [] k e z = moves none allowed (hands_out [] (owes [] e) refl) (sym z) (refl, refl)
      last (i ∷ is) k e z = absurd (omega (arith, k.0, z))

      further : (is : List Item) → HasItems m.cell (m.cell th.own).next is → op ≡ owing h.first is → ((m.cell th.own).next ≡ 0 → ⊥)
          → Fits
          (record { effect = Free th.own; thread = at_place (with_own th (m.cell th.own).next) HandOut; answer = Took (m.cell th.own).item })
      further [] k e n = absurd (n k)
      further (i ∷ is) k e n =
          moves (owing i is) allowed (hands_out (i ∷ is) (owes (i ∷ is) e) refl) refl
          (record { first = i; rest = is; operation = refl; has = k })

  -- Mending, with the waiting levels w.
  module _ (w : ℕ) where
    -- a return, after no effect or a cleaning
    return_planned : (e : Effect) (u : Thread) → u.own ≡ th.own → Mends m u op → Allowed s m own t e
        → ((o : ℕ) → o ≡ th.own → OwnAfter m e th.own o) → ((o : Operation) → o ≡ op → OperationAfter m op o e Moved)
        → ((i : Item) → op ≡ owing i [] → OperationAfter m op none e (Took i)) → Fits (returning e u w)
    unfolding returning returned return_answer place_after plan mending at_place with_node gone_idle pick
    return_planned e u eo h al ow quiet tell = go (eqb w 0) refl h.0
      where
        few : u.node < 2 ^ 32
        few = few_nodes u.node h.1.1

        returns_by : Bool → Bool → Place → Plan
        returns_by q a p =
            plan e (pick q (pick a (gone_idle u) (at_place u p)) (mending u (ancestor u.node (level w)) (w - mark (level w))))
            (pick (q && a) (Took u.result) Moved)

        on : (p : Place) → At s m u op p → Fits (plan e (at_place u p) Moved)
        on p k = moves op al (quiet op refl) (ow u.own eo) (at_place_lem u op p k)

        go : (q : Bool) → eqb w 0 ≡ q → Purpose m u op → Fits (returns_by q (eqb u.after 1) (place_after u.after))
        go false eq k =
            let nw = eqb-false w 0 eq in
            moves op al (quiet op refl) (ow u.own eo) (
              h.0,
              (
                ancestor_some u.node (level w) h.1.0 few (level_some w (omega arith)),
                omega (arith, ancestor_most u.node (level w), h.1.1),
              ),
            )
        go true eq (for_take ea k) = subst (λ a. Fits (returns_by true (eqb a 1) (place_after a))) (sym ea) (on ReadRoot k)
        go true eq (for_answer ea k) =
            subst (λ a. Fits (returns_by true (eqb a 1) (place_after a))) (sym ea)
            (moves none al (tell u.result k.operation) (ow 0 (sym (sym eo ∙ k.has))) (refl, refl))
        go true eq (for_list ea k) = subst (λ a. Fits (returns_by true (eqb a 1) (place_after a))) (sym ea) (on ListReadRoot k)
        go true eq (for_hands ea k) = subst (λ a. Fits (returns_by true (eqb a 1) (place_after a))) (sym ea) (on HandOut k)

    -- M1
    node_planned : Mends m th op → Fits (mend_read_node m th w)
    unfolding mend_read_node with_first with_copies
    node_planned h =
        pick_good Fits (eqb th.node 0) (λ e. absurd (let z = eqb-true th.node 0 e in omega (arith, z, h.1.0)))
        (λ e. goes_on (with_first th (read_node m th.node)) (MendReadDepth w) refl (h, sound_read m th.node))

    -- M2: where n's level is the depth, its children lie deeper, so they are empty and clean
    deep_child : (c : ℕ) → 2 ^ m.depth ≤ c → 1 ≤ th.node → Child m th.node th.copies.first c AnyValue
    unfolding value_of read_node pick
    deep_child c d p e =
        let z = g.deep c d in (
          z.1,
          λ v k l.
              subst (AtMost v) (sym (ap (value_at m.cell) z.0))
              (item_trans v (val m th.node) top_item l (val_top s m own g.held th.node p)),
        )

    mend_depth_planned : Mends m th op → Sound m th.node th.copies.first → Fits (mend_read_depth m th w)
    unfolding mend_read_depth after_depth_read with_depth
    mend_depth_planned h a =
        let n = th.node in
        let q = th.copies.first in
        let u = with_depth th m.depth in
        let few = few_nodes n h.1.1 in
        pick_good Fits (is_dirty q.node)
        (λ d. pick_good Fits (eqb n 0) (λ e. absurd (let z = eqb-true n 0 e in omega (arith, z, h.1.0)))
        (λ e. let di : Dirty m n q = record { sound = a; dirty = is_dirty_lem q.node d } in
        pick_good Fits (eqb (level n) m.depth)
        (λ y. let deep = children_deeper n m.depth h.1.0 few (eqb-true (level n) m.depth y) in
        goes_on u (MendClean w) refl (
          h,
          di,
          record { left = deep_child (2 * n) deep h.1.0; right = deep_child (2 * n + 1) (omega (arith, deep)) h.1.0 },
        ))
        (λ y. goes_on u (MendReadLeft w) refl
        (h, (di, children_inside n m.depth h.1.0 few h.1.1 (eqb-false (level n) m.depth y))))))
        (λ d. return_planned Nothing u refl h tt (λ o z. z) (λ o z. reads z) (λ i z. answers z refl))

    -- M3
    child_in_tree : (c : ℕ) → 1 ≤ c → c ≤ 2 * th.node + 1 → Inner m th.node th.copies.first → is_node s c ≡ true
    unfolding is_node
    child_in_tree c p l a = is_between 1 c (node_count s) p (in_tree s m own g c (omega (arith, a.1)))

    fresh_child : (n : ℕ) (q : NodeCopy) (c : ℕ) → ChildRead m n q c (read_node m c)
    unfolding read_node
    fresh_child n q c = record { sound = sound_read m c; child = λ z e. (z, λ v k l. k) }

    left_planned : Mends m th op → Inner m th.node th.copies.first → Fits (mend_read_left s m th w)
    unfolding mend_read_left with_second with_copies
    left_planned h a =
        let n = th.node in
        pick_good Fits (is_node s (2 * n))
        (λ e. goes_on (with_second th (read_node m (2 * n))) (MendReadRight w) refl (h, a, fresh_child n th.copies.first (2 * n)))
        (λ e. absurd (true≢false (sym (child_in_tree (2 * n) (omega (arith, h.1.0)) (omega arith) a) ∙ e)))

    -- M4
    module _ (u : Thread) (eo : u.own ≡ th.own) (h : Mends m u op) (a : Inner m u.node u.copies.first)
        (left : ChildRead m u.node u.copies.first (2 * u.node) u.copies.second)
        (right : ChildRead m u.node u.copies.first (2 * u.node + 1) u.copies.third) where
      abbrev x₁ : Item
      x₁ = value_of u.copies.first

      abbrev x₂ : Item
      x₂ = value_of u.copies.second

      abbrev x₃ : Item
      x₃ = value_of u.copies.third

      -- the test by its three comparisons
      swaps_by : (p q r : Bool) → (p && not q) || (not p && not r) ≡ true → ((p ≡ true → q ≡ false) × (p ≡ false → r ≡ false))
      swaps_by true true r e = absurd (true≢false (sym e))
      swaps_by true false r e = (λ z. refl, λ z. absurd (true≢false z))
      swaps_by false q true e = absurd (true≢false (sym e))
      swaps_by false q false e = (λ z. absurd (true≢false (sym z)), λ z. refl)

      stays_by : (p q r : Bool) → (p && not q) || (not p && not r) ≡ false → ((p ≡ true → q ≡ true) × (p ≡ false → r ≡ true))
      stays_by true true r e = (λ z. refl, λ z. absurd (true≢false z))
      stays_by true false r e = absurd (true≢false e)
      stays_by false q true e = (λ z. absurd (true≢false (sym z)), λ z. refl)
      stays_by false q false e = absurd (true≢false e)

      swappable : u.copies.second.node.dirty ≡ 0 → u.copies.third.node.dirty ≡ 0 → child_less u ≡ true
          → Swappable m u.node u.copies
      unfolding child_less less_below item_lt
      swappable cl cr e =
          let b = swaps_by (item_le x₂ x₃) (item_le x₁ x₂) (item_le x₁ x₃) e in
          record {
            left = left;
            right = right;
            clean_left = cl;
            clean_right = cr;
            less_left = λ z. item_total x₁ x₂ (b.0 z);
            less_right = λ z. item_total x₁ x₃ (b.1 z);
          }

      -- neither child is less
      no_less : child_less u ≡ false → AtMost x₁ x₂ × AtMost x₁ x₃
      unfolding child_less less_below item_lt
      no_less e = go (item_le x₂ x₃) refl
        where
          b : (item_le x₂ x₃ ≡ true → item_le x₁ x₂ ≡ true) × (item_le x₂ x₃ ≡ false → item_le x₁ x₃ ≡ true)
          b = stays_by (item_le x₂ x₃) (item_le x₁ x₂) (item_le x₁ x₃) e

          go : (p : Bool) → item_le x₂ x₃ ≡ p → AtMost x₁ x₂ × AtMost x₁ x₃
          go true z = (b.0 z, item_trans x₁ x₂ x₃ (b.0 z) z)
          go false z = (item_trans x₁ x₃ x₂ (b.1 z) (item_total x₂ x₃ z), b.1 z)

      mended_by : (c : ℕ) (k : NodeCopy) → ChildRead m u.node u.copies.first c k → k.node.dirty ≡ 0 → AtMost x₁ (value_of k)
          → Child m u.node u.copies.first c AnyValue
      mended_by c k cr z l e =
          let now = cr.child z e in
          let same : val m u.node ≡ x₁ = ap value_of (a.0.sound.same e) in
          (now.0, λ v any lv. now.1 v (item_trans v x₁ (value_of k) (subst (AtMost v) same lv) l) lv)

      children_planned : Fits (after_children_read u w)
      unfolding after_children_read
      children_planned =
          let n = u.node in
          pick_good Fits (is_dirty u.copies.second.node)
          (λ d. mends_on u (2 * n) (marked w (level n)) eo h.0 (omega (arith, h.1.0), omega (arith, a.1)))
          (λ d. pick_good Fits (is_dirty u.copies.third.node)
          (λ f. mends_on u (2 * n + 1) (marked w (level n)) eo h.0 (omega arith, a.1))
          (λ f. let cl = is_clean u.copies.second.node d in
          let cr = is_clean u.copies.third.node f in
          pick_good Fits (child_less u)
          (λ e. goes_on u (MendSwap w) eo (h, a, swappable cl cr e))
          (λ e. let b = no_less e in
          goes_on u (MendClean w) eo (
            h,
            a.0,
            record {
              left = mended_by (2 * n) u.copies.second left cl b.0;
              right = mended_by (2 * n + 1) u.copies.third right cr b.1;
            },
          ))))

    some_child : (c : ℕ) → 1 ≤ th.node → 1 ≤ c → c ≤ 2 * th.node + 1 → Inner m th.node th.copies.first
        → not (eqb th.node 0) && is_node s c ≡ true
    some_child c p l u a = and_both (ap not (ne_eqb th.node 0 (λ z. omega arith))) (child_in_tree c l u a)

    right_planned : Mends m th op → Inner m th.node th.copies.first
        → ChildRead m th.node th.copies.first (2 * th.node) th.copies.second → Fits (mend_read_right s m th w)
    unfolding mend_read_right with_third with_copies
    right_planned h a left =
        let n = th.node in
        let q = read_node m (2 * n + 1) in
        pick_good Fits (not (eqb n 0) && is_node s (2 * n + 1))
        (λ e. children_planned (with_third th q) refl h a left (fresh_child n th.copies.first (2 * n + 1)))
        (λ e. absurd (true≢false (sym (some_child (2 * n + 1) h.1.0 (omega arith) (omega arith) a) ∙ e)))

    -- M5
    module _ (h : Mends m th op) (a : Inner m th.node th.copies.first) (c j : ℕ) (q k : NodeCopy) (lo : 2 * th.node ≤ c)
        (hi : c ≤ 2 * th.node + 1) (pj : 1 ≤ j) (kids : (x : ℕ) → Above th.node x → (th.node ≡ x) ⊎ (Above c x ⊎ Above j x))
        (here : ChildRead m th.node th.copies.first c q) (there : ChildRead m th.node th.copies.first j k)
        (clean : q.node.dirty ≡ 0) (clean_other : k.node.dirty ≡ 0) (lesser : AtMost (value_of q) (value_of th.copies.first))
        (least : AtMost (value_of q) (value_of k)) where
      exchange_planned : Fits (exchange_with s m th w c q.node)
      unfolding exchange_with exchange_at node_and_child_same plan mending at_place with_node
      exchange_planned =
          let n = th.node in
          let p = th.copies.first in
          let x = same_node (m.node n) p.node in
          let y = same_node (m.node c) q.node in
          pick_good Fits (not (eqb n 0) && is_node s c)
          (λ e. pick_good Fits (x && y)
          (λ z. pick_good Fits (is_spent p.node || is_spent q.node) (λ f. is_refused th)
          (λ f. let fp = found n p a.0.sound (and_left x y z) in
          let fq = found c q here.sound (and_right x y z) in
          let np = found_node n p fp in
          let nq = found_node c q fq in
          let vp : val m n ≡ value_of p = ap value_of fp in
          let vq : val m c ≡ value_of q = ap value_of fq in
          let sib = there.child clean_other (ap counter_of np) in
          let ln : AtMost (val m c) (val m n) = subst (AtMost (val m c)) (sym vp) (subst (λ i. AtMost i (value_of p)) (sym vq) lesser) in
          moves op (
            j,
            record {
              some = h.1.0;
              few = omega (arith, hi, a.1);
              child = omega (arith, lo, hi);
              kids = kids;
              sibling = pj;
              dirty = subst (λ v. 1 ≤ v.dirty) (sym np) a.0.dirty;
              clean = ap (λ v. v.dirty) nq ∙ clean;
              clean_sibling = sib.0;
              less = ln;
              least = sib.1 (val m c) (subst (λ i. AtMost i (value_of k)) (sym vq) least) ln;
              value = ap (λ v. updated v q.node.first 0) (sym np) ∙ ap (λ v. updated (m.node n) v.first 0) (sym nq);
              value_child = ap (λ v. updated v p.node.first 1) (sym nq) ∙ ap (λ v. updated (m.node c) v.first 1) (sym np);
            },
          )
          (swaps refl) refl (h.0, (omega (arith, lo, h.1.0), omega (arith, hi, a.1)))))
          (λ z. goes_on th (MendReadNode w) refl h))
          (λ e. absurd (true≢false (sym (some_child c h.1.0 (omega (arith, lo, h.1.0)) hi a) ∙ e)))

    swap_planned : Mends m th op → Inner m th.node th.copies.first → Swappable m th.node th.copies → Fits (mend_swap s m th w)
    unfolding mend_swap
    swap_planned h a b =
        let n = th.node in
        let l = th.copies.second in
        let k = th.copies.third in
        pick_good Fits (item_le (value_of l) (value_of k))
        (λ e. exchange_planned h a (2 * n) (2 * n + 1) l k (omega arith) (omega arith) (omega arith)
        (λ x z. below_children n x z) b.left b.right b.clean_left b.clean_right (b.less_left e) e)
        (λ e. exchange_planned h a (2 * n + 1) (2 * n) k l (omega arith) (omega arith) (omega (arith, h.1.0))
        (λ x z. swapped (below_children n x z)) b.right b.left b.clean_right b.clean_left (b.less_right e)
        (item_total (value_of l) (value_of k) e))
      where
        swapped : {x y z : Type 0} → x ⊎ (y ⊎ z) → x ⊎ (z ⊎ y)
        swapped (inl p) = inl p
        swapped (inr (inl p)) = inr (inr p)
        swapped (inr (inr p)) = inr (inl p)

    -- M6
    clean_planned : Mends m th op → Dirty m th.node th.copies.first → Mended m th.node th.copies.first
        → Fits (mend_clean m th w)
    unfolding mend_clean clean_at
    clean_planned h a b =
        let n = th.node in
        let q = th.copies.first in
        pick_good Fits (eqb n 0) (λ e. absurd (let z = eqb-true n 0 e in omega (arith, z, h.1.0)))
        (λ e. pick_good Fits (same_node (m.node n) q.node)
        (λ y. pick_good Fits (is_spent q.node) (λ z. is_refused th)
        (λ z. let f = found n q a.sound y in
        let fn = found_node n q f in
        let l = b.left (ap counter_of fn) in
        let r' = b.right (ap counter_of fn) in
        return_planned (Clean n (updated q.node q.node.first 0)) th refl h
        (record {
          some = h.1.0;
          few = h.1.1;
          dirty = subst (λ v. 1 ≤ v.dirty) (sym fn) a.dirty;
          clean_left = l.0;
          clean_right = r'.0;
          least_left = l.1 (val m n) tt (item_refl (val m n));
          least_right = r'.1 (val m n) tt (item_refl (val m n));
          value = ap (λ v. updated v v.first 0) (sym fn);
        })
        (λ o x. x) (λ o x. cleans x) (λ i x. cleans_answers x refl)))
        (λ y. goes_on th (MendReadNode w) refl h))

  -- every place
  place_planned : (choice : ℕ) (p : Place) → At s m th op p → Fits (decide_at s m th choice p)
  unfolding plan
  place_planned choice Idle h = rests refl refl
  place_planned choice ReadDepth h = depth_planned h
  place_planned choice ReadLeaf h = leaf_planned h.0 h.1 choice
  place_planned choice ReadAncestor h = ancestor_planned h.0 h.1
  place_planned choice GrowDepth h = grow_planned h.0 h.1 h.2
  place_planned choice ReadTarget h = target_planned h.0 h.1
  place_planned choice InsertAtRoot h = at_root_planned h.0 h.1
  place_planned choice ReadParent h = parent_planned h.0 h.1 h.2 h.3
  place_planned choice InsertBelow h = below_planned h.0 h.1 h.2 h.3 h.4
  place_planned choice ReadRoot h = root_planned h
  place_planned choice RemoveHead h = head_planned h.0 h.1
  place_planned choice (MendReadNode v) h = node_planned v h
  place_planned choice (MendReadDepth v) h = mend_depth_planned v h.0 h.1
  place_planned choice (MendReadLeft v) h = left_planned v h.0 h.1
  place_planned choice (MendReadRight v) h = right_planned v h.0 h.1 h.2
  place_planned choice (MendSwap v) h = swap_planned v h.0 h.1 h.2
  place_planned choice (MendClean v) h = clean_planned v h.0 h.1 h.2
  place_planned choice ListReadRoot h = list_root_planned h
  place_planned choice RemoveList h = list_planned h.0 h.1
  place_planned choice HandOut h = hand_planned h

  -- a thread at a put's places has a put under way, at a take's a take that has not decided
  abbrev Stands : Bool → Bool → Type 0
  Stands true q = Puts m th op
  Stands false true = (o : Operation) × UndecidedTake o × Takes m th o op
  Stands false false = Unit

  stands : (p : Place) → At s m th op p → Stands (is_put_place p) (is_take_place p)
  unfolding is_put_place is_take_place between
  stands Idle h = tt
  stands ReadDepth h = h
  stands ReadLeaf h = h.0
  stands ReadAncestor h = h.0
  stands GrowDepth h = h.0
  stands ReadTarget h = h.0
  stands InsertAtRoot h = h.0
  stands ReadParent h = h.0
  stands InsertBelow h = h.0
  stands ReadRoot h = (taking, one_item, h)
  stands RemoveHead h = (taking, one_item, h.0)
  stands (MendReadNode w) h = tt
  stands (MendReadDepth w) h = tt
  stands (MendReadLeft w) h = tt
  stands (MendReadRight w) h = tt
  stands (MendSwap w) h = tt
  stands (MendClean w) h = tt
  stands ListReadRoot h = (listing, whole_list, h)
  stands RemoveList h = (listing, whole_list, h.0)
  stands HandOut h = tt

  -- so its withdrawal ends an operation that has not decided, and a put's cell is its own
  withdrawal_planned : At s m th op th.place → lacks_permission th ≡ true → Fits (withdrawal th)
  unfolding withdrawal lacks_permission plan gone_idle pick
  withdrawal_planned h = go (is_put_place th.place) (is_take_place th.place) (stands th.place h)
    where
      go : (p q : Bool) → Stands p q → (p && not (may_put th)) || (q && not (may_take th)) ≡ true
          → Fits
          (pick p (pick (eqb th.own 0) (refused th Unreadable) (plan (Free th.own) (gone_idle th) Withdrawn)) (plan Nothing (gone_idle th) Withdrawn))
      go true q k e =
          pick_good Fits (eqb th.own 0) (λ z. absurd (let none = eqb-true th.own 0 z in omega (arith, k.has.0)))
          (λ z. moves none (record { mine = mine; cell = k.has.0 }) (frees_withdrawn k.operation a_put refl) (sym k.has.2) (refl, refl))
      go false true k e = moves none tt (leaves_withdrawn k.2.operation (a_take k.1) refl) (sym k.2.has) (refl, refl)
      go false false k e = absurd (true≢false (sym e))

  pub planned : At s m th op th.place → (choice : ℕ) → Fits (decide s m th choice)
  unfolding decide permitted
  planned h choice =
      let p = decide_at s m th choice th.place in
      pick_good Fits (lacks_permission th && not (is_unreadable p.answer))
      (λ e. withdrawal_planned h (and_left (lacks_permission th) (not (is_unreadable p.answer)) e))
      (λ e. place_planned choice th.place h)
