-- What holds of a thread at each place, beside its operation in the ledger, and that it stays so when another thread moves (`Rely`) and leaves
-- what this one holds. Assumes nothing.
use Prim.Native.Nat.{ℕ, ◌+◌, ◌*◌, ◌/◌, ◌^◌, ◌≤◌, ◌<◌}
use native.Mathlib.Omega.{arith}
use mathlib.Core.Path.{◌≡◌, refl, sym, ap, subst, ◌∙◌}
use mathlib.Core.Bool.{true, false, true≢false}
use mathlib.Core.List.{List, [], ◌∷◌}
use lib.Dec.{eqb}
use lib.Pow.{pow_mono}
use Rattle.region.specs.Record.{counter_of}
use Rattle.region.specs.Level.{level}
use Rattle.region.specs.Place.{place_number}
use Rattle.region.specs.Shared.{Shared}
use Rattle.region.specs.Thread.{with_permission}
use Rattle.region.specs.declared.place.Place.{Place}
use Rattle.region.specs.declared.place.Place.TheVariants.{Idle, ReadDepth, ReadLeaf, ReadAncestor, GrowDepth, ReadTarget, InsertAtRoot, ReadParent, InsertBelow, ReadRoot, RemoveHead, MendReadNode, MendReadDepth, MendReadLeft, MendReadRight, MendSwap, MendClean, ListReadRoot, RemoveList, HandOut}
use Rattle.region.specs.declared.record.Item.{Item}
use Rattle.region.specs.declared.record.NodeCopy.{NodeCopy}
use Rattle.region.specs.declared.shape.Shape.{Shape}
use Rattle.region.specs.declared.thread.Copies.{Copies}
use Rattle.region.specs.declared.thread.Search.{Search}
use Rattle.region.specs.declared.thread.Thread.{Thread}
use Rattle.access.specs.Order.{item_le, val, value_of}
use Rattle.access.specs.Read.{read_node}
use Rattle.theory.specs.Ledger.{Operation, Undecided, UndecidedTake, a_put, a_take, listing, none, one_item, owing, putting, taking, whole_list}
use Rattle.theory.proofs.Chains.{HasItems, ItemsStay}
use Rattle.theory.proofs.Effects.{Rely}
use Rattle.theory.proofs.Sorted.{AtMost, Proper}

-- a copy q of node n: counters never fall, and an equal counter means an unchanged node
pub record Sound (m : Shared) (n : ℕ) (q : NodeCopy) : Type 0 where
  pub counter : counter_of q.node ≤ counter_of (m.node n)
  pub same : counter_of (m.node n) ≡ counter_of q.node → read_node m n ≡ q

-- While node n is as in its copy q, child c is clean, and every value below n's and of this kind is below c's.
abbrev pub Child : Shared → ℕ → NodeCopy → ℕ → (Item → Type 0) → Type 0
Child m n q c kind =
    counter_of (m.node n) ≡ counter_of q.node
    → ((m.node c).dirty ≡ 0) × ((v : Item) → kind v → AtMost v (val m n) → AtMost v (val m c))

abbrev pub AnyValue : Item → Type 0
AnyValue v = Unit

abbrev pub UpTo : NodeCopy → Item → Type 0
UpTo k v = AtMost v (value_of k)

-- The facts name the fields that they speak of, so that a step that leaves these leaves the fact.

-- a put of item i that has not decided: the chain from its own cell has that item
pub record Putting (m : Shared) (own : ℕ) (i : Item) (op : Operation) : Type 0 where
  pub operation : op ≡ putting i
  pub has : HasItems m.cell own (i ∷ [])
  pub proper : Proper i

-- a take that is at this point and holds no cell
pub record Taking (m : Shared) (own : ℕ) (at op : Operation) : Type 0 where
  pub operation : op ≡ at
  pub has : HasItems m.cell own []

-- a take of a list that has decided: the chain from its own cell has the items that it still owes
pub record Handing (m : Shared) (own : ℕ) (op : Operation) : Type 0 where
  pub first : Item
  pub rest : List Item
  pub operation : op ≡ owing first rest
  pub has : HasItems m.cell own (first ∷ rest)

-- the operation of a thread that mends: by after
pub data MendsFor (m : Shared) (own : ℕ) (result : Item) (op : Operation) (after : ℕ) : Type 0 where
  for_take : after ≡ 0 → Taking m own taking op → MendsFor m own result op after
  for_answer : after ≡ 1 → Taking m own (owing result []) op → MendsFor m own result op after
  for_list : after ≡ 2 → Taking m own listing op → MendsFor m own result op after
  for_hands : after ≡ 3 → Handing m own op → MendsFor m own result op after

-- node n exists and is no deeper than the present depth
abbrev pub InTree : Shared → ℕ → Type 0
InTree m n = (1 ≤ n) × (n < 2 ^ m.depth)

-- a level that was read
abbrev pub LevelRead : Shared → ℕ → Type 0
LevelRead m d = (1 ≤ d) × (d ≤ m.depth)

-- the search above a leaf of the tree
pub record Searching (m : Shared) (x : Search) : Type 0 where
  pub lo : 1 ≤ x.lo
  pub below : x.lo < x.hi
  pub hi : x.hi ≤ level x.leaf
  pub leaf : InTree m x.leaf

-- node n, which a put of i aims at, read as no less than i
pub record Target (m : Shared) (n : ℕ) (i : Item) (q : NodeCopy) : Type 0 where
  pub sound : Sound m n q
  pub least : AtMost i (value_of q)

-- its parent, read as no greater
pub record Parent (m : Shared) (n : ℕ) (i : Item) (q : NodeCopy) : Type 0 where
  pub sound : Sound m (n / 2) q
  pub most : AtMost (value_of q) i

-- the root, read as clean and not empty
pub record RootRead (m : Shared) (q : NodeCopy) : Type 0 where
  pub sound : Sound m 1 q
  pub clean : q.node.dirty ≡ 0
  pub some : 1 ≤ q.node.first

-- the node that is mended, read as dirty; `Inner`: its children are in the tree
pub record Dirty (m : Shared) (n : ℕ) (q : NodeCopy) : Type 0 where
  pub sound : Sound m n q
  pub dirty : 1 ≤ q.node.dirty

abbrev pub Inner : Shared → ℕ → NodeCopy → Type 0
Inner m n q = Dirty m n q × (2 * n + 1 < 2 ^ m.depth)

-- copy k of child c of node n, and what holds where it was read clean
pub record ChildRead (m : Shared) (n : ℕ) (q : NodeCopy) (c : ℕ) (k : NodeCopy) : Type 0 where
  pub sound : Sound m c k
  pub child : k.node.dirty ≡ 0 → Child m n q c (UpTo k)

-- both children read clean, the lesser of them less than the node
pub record Swappable (m : Shared) (n : ℕ) (c : Copies) : Type 0 where
  pub left : ChildRead m n c.first (2 * n) c.second
  pub right : ChildRead m n c.first (2 * n + 1) c.third
  pub clean_left : c.second.node.dirty ≡ 0
  pub clean_right : c.third.node.dirty ≡ 0
  pub less_left : item_le (value_of c.second) (value_of c.third) ≡ true → AtMost (value_of c.second) (value_of c.first)
  pub less_right : item_le (value_of c.second) (value_of c.third) ≡ false → AtMost (value_of c.third) (value_of c.first)

-- while the node is as in its copy, its children are clean and no less
pub record Mended (m : Shared) (n : ℕ) (q : NodeCopy) : Type 0 where
  pub left : Child m n q (2 * n) AnyValue
  pub right : Child m n q (2 * n + 1) AnyValue

abbrev pub Puts : Shared → Thread → Operation → Type 0
Puts m t op = Putting m t.own t.item op

abbrev pub Takes : Shared → Thread → Operation → Operation → Type 0
Takes m t at op = Taking m t.own at op

abbrev pub Hands : Shared → Thread → Operation → Type 0
Hands m t op = Handing m t.own op

abbrev pub Purpose : Shared → Thread → Operation → Type 0
Purpose m t op = MendsFor m t.own t.result op t.after

abbrev pub Mends : Shared → Thread → Operation → Type 0
Mends m t op = Purpose m t op × InTree m t.node

-- what holds at each place
abbrev pub At : Shape → Shared → Thread → Operation → Place → Type 0
At s m t op Idle = (op ≡ none) × HasItems m.cell t.own []
At s m t op ReadDepth = Puts m t op
At s m t op ReadLeaf = Puts m t op × LevelRead m t.depth
At s m t op ReadAncestor = Puts m t op × Searching m t.search_state
At s m t op GrowDepth = Puts m t op × LevelRead m t.depth × (t.depth < s.depth)
At s m t op ReadTarget = Puts m t op × InTree m t.node
At s m t op InsertAtRoot = Puts m t op × Target m 1 t.item t.copies.first
At s m t op ReadParent = Puts m t op × InTree m t.node × (2 ≤ t.node) × Target m t.node t.item t.copies.first
At s m t op InsertBelow =
    Puts m t op × InTree m t.node × (2 ≤ t.node) × Target m t.node t.item t.copies.first
    × Parent m t.node t.item t.copies.second
At s m t op ReadRoot = Takes m t taking op
At s m t op RemoveHead = Takes m t taking op × RootRead m t.copies.first
At s m t op (MendReadNode w) = Mends m t op
At s m t op (MendReadDepth w) = Mends m t op × Sound m t.node t.copies.first
At s m t op (MendReadLeft w) = Mends m t op × Inner m t.node t.copies.first
At s m t op (MendReadRight w) =
    Mends m t op × Inner m t.node t.copies.first × ChildRead m t.node t.copies.first (2 * t.node) t.copies.second
At s m t op (MendSwap w) = Mends m t op × Inner m t.node t.copies.first × Swappable m t.node t.copies
At s m t op (MendClean w) = Mends m t op × Dirty m t.node t.copies.first × Mended m t.node t.copies.first
At s m t op ListReadRoot = Takes m t listing op
At s m t op RemoveList = Takes m t listing op × RootRead m t.copies.first
At s m t op HandOut = Hands m t op

-- no fact looks at the permission
pub any_permission : (s : Shape) (m : Shared) (t : Thread) (op : Operation) (n : ℕ) (p : Place) → At s m t op p → At s m (with_permission t n) op p
unfolding with_permission
any_permission s m t op n Idle h = h
any_permission s m t op n ReadDepth h = h
any_permission s m t op n ReadLeaf h = h
any_permission s m t op n ReadAncestor h = h
any_permission s m t op n GrowDepth h = h
any_permission s m t op n ReadTarget h = h
any_permission s m t op n InsertAtRoot h = h
any_permission s m t op n ReadParent h = h
any_permission s m t op n InsertBelow h = h
any_permission s m t op n ReadRoot h = h
any_permission s m t op n RemoveHead h = h
any_permission s m t op n (MendReadNode w) h = h
any_permission s m t op n (MendReadDepth w) h = h
any_permission s m t op n (MendReadLeft w) h = h
any_permission s m t op n (MendReadRight w) h = h
any_permission s m t op n (MendSwap w) h = h
any_permission s m t op n (MendClean w) h = h
any_permission s m t op n ListReadRoot h = h
any_permission s m t op n RemoveList h = h
any_permission s m t op n HandOut h = h

-- A thread is idle exactly where it has no operation.
abbrev pub stage : Operation → ℕ
stage none = 0
stage (putting i) = 1
stage taking = 2
stage listing = 3
stage (owing i is) = 4

-- one that has not decided
pub take_stage : (o : Operation) → UndecidedTake o → (1 ≤ stage o) × (stage o ≤ 3)
take_stage o one_item = (omega arith, omega arith)
take_stage o whole_list = (omega arith, omega arith)

pub undecided_stage : (o : Operation) → Undecided o → (1 ≤ stage o) × (stage o ≤ 3)
undecided_stage o a_put = (omega arith, omega arith)
undecided_stage o (a_take h) = take_stage o h

module _ (s : Shape) (m : Shared) (t : Thread) (op : Operation) where
  puts_busy : Puts m t op → stage op ≡ 0 → ⊥
  puts_busy h e = let k = ap stage h.operation in omega arith

  takes_busy : (at : Operation) → 1 ≤ stage at → Takes m t at op → stage op ≡ 0 → ⊥
  takes_busy at l h e = let k = ap stage h.operation in omega arith

  hands_busy : Hands m t op → stage op ≡ 0 → ⊥
  hands_busy h e = let k = ap stage h.operation in omega arith

  mends_busy : Purpose m t op → stage op ≡ 0 → ⊥
  mends_busy (for_take a h) = takes_busy taking (omega arith) h
  mends_busy (for_answer a h) = takes_busy (owing t.result []) (omega arith) h
  mends_busy (for_list a h) = takes_busy listing (omega arith) h
  mends_busy (for_hands a h) = hands_busy h

  pub none_when_idle : (p : Place) → At s m t op p → eqb (place_number p) 0 ≡ true → op ≡ none
  none_when_idle Idle h e = h.0
  none_when_idle ReadDepth h e = absurd (true≢false (sym e))
  none_when_idle ReadLeaf h e = absurd (true≢false (sym e))
  none_when_idle ReadAncestor h e = absurd (true≢false (sym e))
  none_when_idle GrowDepth h e = absurd (true≢false (sym e))
  none_when_idle ReadTarget h e = absurd (true≢false (sym e))
  none_when_idle InsertAtRoot h e = absurd (true≢false (sym e))
  none_when_idle ReadParent h e = absurd (true≢false (sym e))
  none_when_idle InsertBelow h e = absurd (true≢false (sym e))
  none_when_idle ReadRoot h e = absurd (true≢false (sym e))
  none_when_idle RemoveHead h e = absurd (true≢false (sym e))
  none_when_idle (MendReadNode w) h e = absurd (true≢false (sym e))
  none_when_idle (MendReadDepth w) h e = absurd (true≢false (sym e))
  none_when_idle (MendReadLeft w) h e = absurd (true≢false (sym e))
  none_when_idle (MendReadRight w) h e = absurd (true≢false (sym e))
  none_when_idle (MendSwap w) h e = absurd (true≢false (sym e))
  none_when_idle (MendClean w) h e = absurd (true≢false (sym e))
  none_when_idle ListReadRoot h e = absurd (true≢false (sym e))
  none_when_idle RemoveList h e = absurd (true≢false (sym e))
  none_when_idle HandOut h e = absurd (true≢false (sym e))

  pub idle_without : (p : Place) → At s m t op p → stage op ≡ 0 → eqb (place_number p) 0 ≡ true
  idle_without Idle h e = refl
  idle_without ReadDepth h e = absurd (puts_busy h e)
  idle_without ReadLeaf h e = absurd (puts_busy h.0 e)
  idle_without ReadAncestor h e = absurd (puts_busy h.0 e)
  idle_without GrowDepth h e = absurd (puts_busy h.0 e)
  idle_without ReadTarget h e = absurd (puts_busy h.0 e)
  idle_without InsertAtRoot h e = absurd (puts_busy h.0 e)
  idle_without ReadParent h e = absurd (puts_busy h.0 e)
  idle_without InsertBelow h e = absurd (puts_busy h.0 e)
  idle_without ReadRoot h e = absurd (takes_busy taking (omega arith) h e)
  idle_without RemoveHead h e = absurd (takes_busy taking (omega arith) h.0 e)
  idle_without (MendReadNode w) h e = absurd (mends_busy h.0 e)
  idle_without (MendReadDepth w) h e = absurd (mends_busy h.0.0 e)
  idle_without (MendReadLeft w) h e = absurd (mends_busy h.0.0 e)
  idle_without (MendReadRight w) h e = absurd (mends_busy h.0.0 e)
  idle_without (MendSwap w) h e = absurd (mends_busy h.0.0 e)
  idle_without (MendClean w) h e = absurd (mends_busy h.0.0 e)
  idle_without ListReadRoot h e = absurd (takes_busy listing (omega arith) h e)
  idle_without RemoveList h e = absurd (takes_busy listing (omega arith) h.0 e)
  idle_without HandOut h e = absurd (hands_busy h e)

pub sound_read : (m : Shared) (n : ℕ) → Sound m n (read_node m n)
unfolding read_node
sound_read m n = record { counter = omega arith; same = λ e. refl }

-- Each fact stays.
module _ (m m' : Shared) (r : Rely m m') where
  deeper : (n : ℕ) → n < 2 ^ m.depth → n < 2 ^ m'.depth
  deeper n h = omega (arith, h, pow_mono {i = m.depth} {j = m'.depth} r.depth)

  -- a node that now is as in its sound copy has not changed
  stood : (n : ℕ) (q : NodeCopy) → 1 ≤ n → Sound m n q → counter_of (m'.node n) ≡ counter_of q.node → counter_of (m.node n) ≡ counter_of q.node
  stood n q p h e = omega (arith, r.counters n p, h.counter, e)

  stands : (n : ℕ) (q : NodeCopy) → 1 ≤ n → Sound m n q → counter_of (m'.node n) ≡ counter_of q.node
      → counter_of (m'.node n) ≡ counter_of (m.node n)
  stands n q p h e = omega (arith, r.counters n p, h.counter, e)

  sound_stays : (n : ℕ) (q : NodeCopy) → 1 ≤ n → Sound m n q → Sound m' n q
  sound_stays n q p h =
      record {
        counter = omega (arith, r.counters n p, h.counter);
        same = λ e. r.unchanged n p (stands n q p h e) ∙ h.same (stood n q p h e);
      }

  child_stays : (n : ℕ) (q : NodeCopy) (c : ℕ) (kind : Item → Type 0) → 1 ≤ n → c / 2 ≡ n → Sound m n q → Child m n q c kind
      → Child m' n q c kind
  child_stays n q c kind p ec h k e =
      let old = k (stood n q p h e) in
      let parent : counter_of (m'.node (c / 2)) ≡ counter_of (m.node (c / 2)) =
      ap (λ y. counter_of (m'.node y)) ec ∙ stands n q p h e ∙ ap (λ y. counter_of (m.node y)) (sym ec) in
      let now = r.child c (omega arith) parent old.0 in
      let same : val m' n ≡ val m n = ap value_of (r.unchanged n p (stands n q p h e)) in (
        now.0,
        λ v g l.
            let l' : AtMost v (val m n) = subst (AtMost v) same l in
            now.1 v (old.1 v g l') (subst (λ y. AtMost v (val m y)) (sym ec) l'),
      )

  in_tree_stays : (n : ℕ) → InTree m n → InTree m' n
  in_tree_stays n h = (h.0, deeper n h.1)

  level_stays : (d : ℕ) → LevelRead m d → LevelRead m' d
  level_stays d h = (h.0, omega (arith, h.1, r.depth))

  target_stays : (n : ℕ) (i : Item) (q : NodeCopy) → 1 ≤ n → Target m n i q → Target m' n i q
  target_stays n i q p h = record { sound = sound_stays n q p h.sound; least = h.least }

  dirty_stays : (n : ℕ) (q : NodeCopy) → 1 ≤ n → Dirty m n q → Dirty m' n q
  dirty_stays n q p h = record { sound = sound_stays n q p h.sound; dirty = h.dirty }

  inner_stays : (n : ℕ) (q : NodeCopy) → 1 ≤ n → Inner m n q → Inner m' n q
  inner_stays n q p h = (dirty_stays n q p h.0, deeper (2 * n + 1) h.1)

  child_read_stays : (n : ℕ) (q : NodeCopy) (c : ℕ) (k : NodeCopy) → 1 ≤ n → c / 2 ≡ n → Sound m n q → ChildRead m n q c k
      → ChildRead m' n q c k
  child_read_stays n q c k p ec h g =
      record { sound = sound_stays c k (omega arith) g.sound; child = λ z. child_stays n q c (UpTo k) p ec h (g.child z) }

  swappable_stays : (n : ℕ) (c : Copies) → 1 ≤ n → Sound m n c.first → Swappable m n c → Swappable m' n c
  swappable_stays n c p h g =
      record {
        left = child_read_stays n c.first (2 * n) c.second p (omega arith) h g.left;
        right = child_read_stays n c.first (2 * n + 1) c.third p (omega arith) h g.right;
        clean_left = g.clean_left;
        clean_right = g.clean_right;
        less_left = g.less_left;
        less_right = g.less_right;
      }

  mended_stays : (n : ℕ) (q : NodeCopy) → 1 ≤ n → Sound m n q → Mended m n q → Mended m' n q
  mended_stays n q p h g =
      record {
        left = child_stays n q (2 * n) AnyValue p (omega arith) h g.left;
        right = child_stays n q (2 * n + 1) AnyValue p (omega arith) h g.right;
      }

  module _ (t : Thread) (op : Operation) (kept : ItemsStay m.cell m'.cell t.own) where
    puts_stay : Puts m t op → Puts m' t op
    puts_stay h =
        record {
          operation = h.operation;
          has = kept (t.item ∷ []) h.has;
          proper = h.proper;
        }

    takes_stay : (at : Operation) → Takes m t at op → Takes m' t at op
    takes_stay at h = record { operation = h.operation; has = kept [] h.has }

    hands_stay : Hands m t op → Hands m' t op
    hands_stay h =
        record {
          first = h.first;
          rest = h.rest;
          operation = h.operation;
          has = kept (h.first ∷ h.rest) h.has;
        }

    purpose_stays : Purpose m t op → Purpose m' t op
    purpose_stays (for_take e h) = for_take e (takes_stay taking h)
    purpose_stays (for_answer e h) = for_answer e (takes_stay (owing t.result []) h)
    purpose_stays (for_list e h) = for_list e (takes_stay listing h)
    purpose_stays (for_hands e h) = for_hands e (hands_stay h)

    mends_stay : Mends m t op → Mends m' t op
    mends_stay h = (purpose_stays h.0, in_tree_stays t.node h.1)

    root_read_stays : RootRead m t.copies.first → RootRead m' t.copies.first
    root_read_stays h = record { sound = sound_stays 1 t.copies.first (omega arith) h.sound; clean = h.clean; some = h.some }

    pub stays : (s : Shape) (p : Place) → At s m t op p → At s m' t op p
    stays s Idle h = (h.0, kept [] h.1)
    stays s ReadDepth h = puts_stay h
    stays s ReadLeaf h = (puts_stay h.0, level_stays t.depth h.1)
    stays s ReadAncestor h = (
      puts_stay h.0,
      record { lo = h.1.lo; below = h.1.below; hi = h.1.hi; leaf = in_tree_stays t.search_state.leaf h.1.leaf },
    )
    stays s GrowDepth h = (puts_stay h.0, level_stays t.depth h.1, h.2)
    stays s ReadTarget h = (puts_stay h.0, in_tree_stays t.node h.1)
    stays s InsertAtRoot h = (puts_stay h.0, target_stays 1 t.item t.copies.first (omega arith) h.1)
    stays s ReadParent h = (
      puts_stay h.0,
      in_tree_stays t.node h.1,
      h.2,
      target_stays t.node t.item t.copies.first h.1.0 h.3,
    )
    stays s InsertBelow h = (
      puts_stay h.0,
      in_tree_stays t.node h.1,
      h.2,
      target_stays t.node t.item t.copies.first h.1.0 h.3,
      record { sound = sound_stays (t.node / 2) t.copies.second (omega (arith, h.2)) h.4.sound; most = h.4.most },
    )
    stays s ReadRoot h = takes_stay taking h
    stays s RemoveHead h = (takes_stay taking h.0, root_read_stays h.1)
    stays s (MendReadNode w) h = mends_stay h
    stays s (MendReadDepth w) h = (mends_stay h.0, sound_stays t.node t.copies.first h.0.1.0 h.1)
    stays s (MendReadLeft w) h = (mends_stay h.0, inner_stays t.node t.copies.first h.0.1.0 h.1)
    stays s (MendReadRight w) h = (
      mends_stay h.0,
      inner_stays t.node t.copies.first h.0.1.0 h.1,
      child_read_stays t.node t.copies.first (2 * t.node) t.copies.second h.0.1.0 (omega arith) h.1.0.sound h.2,
    )
    stays s (MendSwap w) h = (
      mends_stay h.0,
      inner_stays t.node t.copies.first h.0.1.0 h.1,
      swappable_stays t.node t.copies h.0.1.0 h.1.0.sound h.2,
    )
    stays s (MendClean w) h = (
      mends_stay h.0,
      dirty_stays t.node t.copies.first h.0.1.0 h.1,
      mended_stays t.node t.copies.first h.0.1.0 h.1.sound h.2,
    )
    stays s ListReadRoot h = takes_stay listing h
    stays s RemoveList h = (takes_stay listing h.0, root_read_stays h.1)
    stays s HandOut h = hands_stay h
