-- The mound between turns: cells held, the tree in order, nothing below the present depth. What an effect requires, that it keeps the mound,
-- and what every other thread may rely on across it. Assumes nothing.
use Prim.Native.Nat.{ℕ, ◌+◌, ◌*◌, ◌/◌, ◌^◌, ◌≤◌, ◌<◌}
use native.Mathlib.Decide.{ℕ_discrete}
use native.Mathlib.Omega.{arith}
use mathlib.Core.Path.{◌≡◌, refl, sym, ap, subst, subst₂, ◌∙◌}
use mathlib.Core.Logic.{◌⊎◌}
use borrow.Author.Tests.{ne_eqb}
use lib.Pow.{pow_mono}
use Rattle.region.specs.Pick.{pick, upd}
use Rattle.region.specs.Record.{counter_of, same_item}
use Rattle.region.specs.Shape.{node_count}
use Rattle.region.specs.Shared.{Shared}
use Rattle.region.specs.declared.record.Cell.{Cell}
use Rattle.region.specs.declared.record.Item.{Item}
use Rattle.region.specs.declared.record.Node.{Node}
use Rattle.region.specs.declared.shape.Shape.{Shape}
use Rattle.region.proofs.Picks.{upd_same, upd_other}
use Rattle.access.specs.Effect.{effect_shared}
use Rattle.access.specs.Order.{val, value_of}
use Rattle.access.specs.Read.{read_node, updated}
use Rattle.access.specs.declared.effect.Effect.TheVariants.{Grow, Push, Pop, Exchange, Clean, Detach, Free}
use Rattle.access.proofs.OrderLaws.{item_refl, item_trans}
use Rattle.access.proofs.ReadLaws.{updated_counter, updated-dirty, updated-first}
use Rattle.theory.proofs.Chains.{ItemsStay, among, items}
use Rattle.theory.proofs.Held.{Held, counted, first-owner, own_owner, free-owner, thread_items_stay, rest_stays, held_same, counted_same, held_begin, held_push, held_pop, held_exchange, held_detach, held_free}
use Rattle.theory.proofs.Order.{Above, Ordered, above_le, push_ordered, pop_ordered, clean_ordered, exchange_ordered}
use Rattle.theory.proofs.Sorted.{AtMost, Proper, value_at}

-- a clean node's value is at most that of every node below it
abbrev pub InOrder : Shared → Type 0
InOrder m = Ordered AtMost item_refl item_trans (val m) (λ n. (m.node n).dirty)

pub record Mound (s : Shape) (m : Shared) (own : ℕ → ℕ) (all : ℕ) : Type 0 where
  pub held : Held s m own all
  pub ordered : InOrder m
  pub deep : (n : ℕ) → 2 ^ m.depth ≤ n → ((m.node n).first ≡ 0) × ((m.node n).dirty ≡ 0)
  pub depth_least : 1 ≤ m.depth
  pub depth_most : m.depth ≤ s.depth

-- c stays clean while its parent's counter stands, and falls at most to the lesser of its value and its parent's
abbrev pub Falls : Shared → Shared → ℕ → Type 0
Falls m m' c =
    1 ≤ c / 2 → counter_of (m'.node (c / 2)) ≡ counter_of (m.node (c / 2)) → (m.node c).dirty ≡ 0
    → ((m'.node c).dirty ≡ 0) × ((v : Item) → AtMost v (val m c) → AtMost v (val m (c / 2)) → AtMost v (val m' c))

-- What every thread may rely on when another moves.
pub record Rely (m m' : Shared) : Type 0 where
  pub depth : m.depth ≤ m'.depth
  pub counters : (n : ℕ) → 1 ≤ n → counter_of (m.node n) ≤ counter_of (m'.node n)
  -- a node whose counter stands is unchanged, its head cell too
  pub unchanged : (n : ℕ) → 1 ≤ n → counter_of (m'.node n) ≡ counter_of (m.node n) → read_node m' n ≡ read_node m n
  pub child : (c : ℕ) → Falls m m' c

-- a step of thread t keeps the mound, with what the others rely on and what each of them holds
pub record Keeps (s : Shape) (m m' : Shared) (own own' : ℕ → ℕ) (all t : ℕ) : Type 0 where
  pub mound : Mound s m' own' all
  pub rely : Rely m m'
  pub kept : (u : ℕ) → (u ≡ t → ⊥) → ItemsStay m.cell m'.cell (own u)

-- A step that leaves the depth and all nodes below it keeps the mound, if it keeps what is held and the order.
still_mound : (s : Shape) (m m' : Shared) (own own' : ℕ → ℕ) {all : ℕ} → Mound s m own all → m'.depth ≡ m.depth
    → ((y : ℕ) → 2 ^ m.depth ≤ y → m'.node y ≡ m.node y) → Held s m' own' all → InOrder m' → Mound s m' own' all
still_mound s m m' own own' g depth below held ordered =
    record {
      held = held;
      ordered = ordered;
      deep = λ y h.
          let l = subst (λ k. 2 ^ k ≤ y) depth h in
          let e = below y l in
          (ap (λ z. z.first) e ∙ (g.deep y l).0, ap (λ z. z.dirty) e ∙ (g.deep y l).1);
      depth_least = omega (arith, depth, g.depth_least);
      depth_most = omega (arith, depth, g.depth_most);
    }

read_same : (m m' : Shared) (x : ℕ) → m'.node x ≡ m.node x → m'.cell (m.node x).first ≡ m.cell (m.node x).first
    → read_node m' x ≡ read_node m x
unfolding read_node
read_same m m' x e h =
    let k : m'.cell (m'.node x).first ≡ m.cell (m.node x).first = ap (λ y. m'.cell y.first) e ∙ h in
    λ i. record { node = e i; head = k i }

node_of_read : (m m' : Shared) (x : ℕ) → read_node m' x ≡ read_node m x → m'.node x ≡ m.node x
unfolding read_node
node_of_read m m' x e = ap (λ q. q.node) e

-- At most two nodes change, and the counter of each becomes one more.
module _ (m m' : Shared) (n k : ℕ) (deeper : m.depth ≤ m'.depth) (up_n : counter_of (m'.node n) ≡ counter_of (m.node n) + 1)
    (up_k : counter_of (m'.node k) ≡ counter_of (m.node k) + 1)
    (others : (x : ℕ) → 1 ≤ x → (x ≡ n → ⊥) → (x ≡ k → ⊥) → read_node m' x ≡ read_node m x)
    (falls_n : Falls m m' n) (falls_k : Falls m m' k) where
  counter_up : (x : ℕ) → 1 ≤ x → Dec (x ≡ n) → Dec (x ≡ k) → counter_of (m.node x) ≤ counter_of (m'.node x)
  counter_up x p (yes e) d =
      subst (λ y. counter_of (m.node y) ≤ counter_of (m'.node y)) (sym e) (omega (arith, up_n))
  counter_up x p (no a) (yes e) =
      subst (λ y. counter_of (m.node y) ≤ counter_of (m'.node y)) (sym e) (omega (arith, up_k))
  counter_up x p (no a) (no b) = let e = ap counter_of (node_of_read m m' x (others x p a b)) in omega arith

  same_read : (x : ℕ) → 1 ≤ x → counter_of (m'.node x) ≡ counter_of (m.node x) → Dec (x ≡ n) → Dec (x ≡ k) → read_node m' x ≡ read_node m x
  same_read x p e (yes a) d =
      absurd (let z = subst (λ y. counter_of (m'.node y) ≡ counter_of (m.node y)) a e in omega (arith, z, up_n))
  same_read x p e (no a) (yes b) =
      absurd (let z = subst (λ y. counter_of (m'.node y) ≡ counter_of (m.node y)) b e in omega (arith, z, up_k))
  same_read x p e (no a) (no b) = others x p a b

  child_falls : (c : ℕ) → Dec (c ≡ n) → Dec (c ≡ k) → Falls m m' c
  child_falls c (yes a) d = subst (Falls m m') (sym a) falls_n
  child_falls c (no a) (yes b) = subst (Falls m m') (sym b) falls_k
  child_falls c (no a) (no b) = λ p e z.
      let r = others c (omega arith) a b in
      (ap (λ y. y.dirty) (node_of_read m m' c r) ∙ z, λ v h g. subst (AtMost v) (sym (ap value_of r)) h)

  pub relies : Rely m m'
  relies =
      record {
        depth = deeper;
        counters = λ x p. counter_up x p (ℕ_discrete x n) (ℕ_discrete x k);
        unchanged = λ x p e. same_read x p e (ℕ_discrete x n) (ℕ_discrete x k);
        child = λ c. child_falls c (ℕ_discrete c n) (ℕ_discrete c k);
      }

-- every node reads as before
pub rely_same : (m m' : Shared) → m.depth ≤ m'.depth → ((x : ℕ) → 1 ≤ x → read_node m' x ≡ read_node m x) → Rely m m'
rely_same m m' d h =
    record {
      depth = d;
      counters = λ x p. let e = ap counter_of (node_of_read m m' x (h x p)) in omega arith;
      unchanged = λ x p e. h x p;
      child = λ c p e z.
          let r = h c (omega arith) in
          (ap (λ y. y.dirty) (node_of_read m m' c r) ∙ z, λ v a b. subst (AtMost v) (sym (ap value_of r)) a);
    }

-- What each effect requires.
pub record PushAllowed (m : Shared) (own : ℕ → ℕ) (t n : ℕ) (v : Node) (c x : ℕ) : Type 0 where
  pub some : 1 ≤ n
  pub few : n < 2 ^ m.depth
  pub mine : own t ≡ c
  pub cell : 1 ≤ c
  pub proper : Proper (m.cell c).item
  pub least : AtMost (m.cell c).item (val m n)
  pub parent : 2 ≤ n → AtMost (val m (n / 2)) (m.cell c).item
  pub value : v ≡ updated (m.node n) c (m.node n).dirty
  pub onto : x ≡ (m.node n).first

pub record PopAllowed (m : Shared) (v : Node) (c : ℕ) : Type 0 where
  pub clean : (m.node 1).dirty ≡ 0
  pub head : (m.node 1).first ≡ c
  pub cell : 1 ≤ c
  pub value : v ≡ updated (m.node 1) (m.cell c).next 1

pub record ExchangeAllowed (m : Shared) (n : ℕ) (v : Node) (k : ℕ) (w : Node) (j : ℕ) : Type 0 where
  pub some : 1 ≤ n
  pub few : k < 2 ^ m.depth
  pub child : k / 2 ≡ n
  pub kids : (x : ℕ) → Above n x → (n ≡ x) ⊎ (Above k x ⊎ Above j x)
  pub sibling : 1 ≤ j
  pub dirty : 1 ≤ (m.node n).dirty
  pub clean : (m.node k).dirty ≡ 0
  pub clean_sibling : (m.node j).dirty ≡ 0
  pub less : AtMost (val m k) (val m n)
  pub least : AtMost (val m k) (val m j)
  pub value : v ≡ updated (m.node n) (m.node k).first 0
  pub value_child : w ≡ updated (m.node k) (m.node n).first 1

pub record CleanAllowed (m : Shared) (n : ℕ) (v : Node) : Type 0 where
  pub some : 1 ≤ n
  pub few : n < 2 ^ m.depth
  pub dirty : 1 ≤ (m.node n).dirty
  pub clean_left : (m.node (2 * n)).dirty ≡ 0
  pub clean_right : (m.node (2 * n + 1)).dirty ≡ 0
  pub least_left : AtMost (val m n) (val m (2 * n))
  pub least_right : AtMost (val m n) (val m (2 * n + 1))
  pub value : v ≡ updated (m.node n) (m.node n).first 0

pub record DetachAllowed (m : Shared) (own : ℕ → ℕ) (t : ℕ) (v : Node) : Type 0 where
  pub clean : (m.node 1).dirty ≡ 0
  pub some : 1 ≤ (m.node 1).first
  pub hands : own t ≡ 0
  pub value : v ≡ updated (m.node 1) 0 1

pub record FreeAllowed (own : ℕ → ℕ) (t c : ℕ) : Type 0 where
  pub mine : own t ≡ c
  pub cell : 1 ≤ c

-- nodes no deeper than the present depth are in the tree
pub in_tree : (s : Shape) (m : Shared) (own : ℕ → ℕ) {all : ℕ} → Mound s m own all → (n : ℕ) → n < 2 ^ m.depth → n ≤ node_count s
in_tree s m own g n h = omega (arith, pow_mono {i = m.depth} {j = s.depth} g.depth_most)

pub root_there : (s : Shape) (m : Shared) (own : ℕ → ℕ) {all : ℕ} → Mound s m own all → 1 < 2 ^ m.depth
root_there s m own g = omega (arith, pow_mono {i = 1} {j = m.depth} g.depth_least)

pub value_there : (cell : ℕ → Cell) (c : ℕ) (i : Item) → 1 ≤ c → (cell c).item ≡ i → value_at cell c ≡ i
unfolding pick
value_there cell c i p e = rw (ne_eqb c 0 (λ z. omega arith)) e

-- Growing.
module _ (s : Shape) (m : Shared) (own : ℕ → ℕ) {all : ℕ} (g : Mound s m own all) (d : ℕ) (next : d ≡ m.depth + 1) (few : d ≤ s.depth) where
  grow_mound : Mound s (effect_shared m (Grow d)) own all
  unfolding effect_shared read_node
  grow_mound =
      record {
        held = held_same s m _ own g.held refl refl (λ n. refl);
        ordered = g.ordered;
        deep = λ n h. g.deep n (omega (arith, h, pow_mono {i = m.depth} {j = d} (omega arith)));
        depth_least = omega arith;
        depth_most = few;
      }

  grow_relies : Rely m (effect_shared m (Grow d))
  unfolding effect_shared read_node
  grow_relies = rely_same m _ (omega arith) (λ x p. refl)

  pub grow_keeps : (t : ℕ) → Keeps s m (effect_shared m (Grow d)) own own all t
  unfolding effect_shared
  grow_keeps t = record { mound = grow_mound; rely = grow_relies; kept = λ u n is h. h }

  pub grow_counts : (i : Item) → counted s (effect_shared m (Grow d)) i ≡ counted s m i
  unfolding effect_shared
  grow_counts i = counted_same s m _ own g.held refl refl (λ n. refl) i

-- The first cell c that thread t holds changes, and no other: it begins no node's list, and what lies behind it and what others hold stays.
module _ (s : Shape) (m : Shared) (own : ℕ → ℕ) {all : ℕ} (g : Mound s m own all) (t c : ℕ) (mine : own t ≡ c) (some : 1 ≤ c) (cell' : ℕ → Cell)
    (others : (d : ℕ) → (d ≡ c → ⊥) → cell' d ≡ m.cell d) where
  first_held : g.held.owner c ≡ 2 * t + 1
  first_held = subst (λ y. g.held.owner y ≡ 2 * t + 1) mine (own_owner s m own g.held t (omega (arith, mine, some)))

  heads_stay : (y : ℕ) → 1 ≤ y → cell' (m.node y).first ≡ m.cell (m.node y).first
  heads_stay y p = others (m.node y).first λ e.
      let o = first-owner s m own g.held y p (omega (arith, e, some)) in
      omega (arith, o, first_held, ap g.held.owner e)

  rest_held : ItemsStay m.cell cell' (m.cell c).next
  rest_held =
      subst (λ y. ItemsStay m.cell cell' (m.cell y).next) mine
      (rest_stays s m own g.held cell' t (omega (arith, mine, some)) (λ d ne. others d (λ z. ne (z ∙ sym mine))))

  others_held : (u : ℕ) → (u ≡ t → ⊥) → ItemsStay m.cell cell' (own u)
  others_held u ne = thread_items_stay s m own g.held cell' c others u (λ e. ne (omega (arith, e, first_held)))

-- Pushing.
module _ (s : Shape) (m : Shared) (own own' : ℕ → ℕ) {all : ℕ} (g : Mound s m own all) (t n : ℕ) (v : Node) (c x : ℕ) (lt : 1 ≤ t) (ut : t ≤ s.threads)
    (a : PushAllowed m own t n v c x) (left : own' t ≡ (m.cell c).next) (still : (u : ℕ) → (u ≡ t → ⊥) → own' u ≡ own u) where
  abbrev pushed : Shared
  pushed = effect_shared m (Push n v c x)

  push_cells : (d : ℕ) → (d ≡ c → ⊥) → pushed.cell d ≡ m.cell d
  unfolding effect_shared
  push_cells d ne = upd_other m.cell c d _ ne

  push_others : (y : ℕ) → 1 ≤ y → (y ≡ n → ⊥) → read_node pushed y ≡ read_node m y
  unfolding effect_shared
  push_others y p ne =
      read_same m pushed y (upd_other m.node n y v ne) (heads_stay s m own g t c a.mine a.cell pushed.cell push_cells y p)

  push_node : pushed.node n ≡ v
  unfolding effect_shared
  push_node = upd_same m.node n v

  push_first : (pushed.node n).first ≡ c
  push_first = ap (λ y. y.first) (push_node ∙ a.value) ∙ updated-first (m.node n) c (m.node n).dirty

  push_dirty : (y : ℕ) → (pushed.node y).dirty ≡ (m.node y).dirty
  unfolding effect_shared
  push_dirty y = go (ℕ_discrete y n)
    where
      go : Dec (y ≡ n) → (upd m.node n v y).dirty ≡ (m.node y).dirty
      go (yes e) =
          ap (λ z. (upd m.node n v z).dirty) e
          ∙ ap (λ z. z.dirty) (upd_same m.node n v ∙ a.value)
          ∙ updated-dirty (m.node n) c (m.node n).dirty
          ∙ ap (λ z. (m.node z).dirty) (sym e)
      go (no ne) = ap (λ z. z.dirty) (upd_other m.node n y v ne)

  push_item : (pushed.cell c).item ≡ (m.cell c).item
  unfolding effect_shared
  push_item = ap (λ z. z.item) (upd_same m.cell c _)

  push_value : val pushed n ≡ (m.cell c).item
  unfolding value_of read_node
  push_value = ap (value_at pushed.cell) push_first ∙ value_there pushed.cell c (m.cell c).item a.cell push_item

  push_holds : Held s pushed own' all × ((i : Item) → counted s pushed i ≡ counted s m i + pick (same_item i (m.cell c).item) 1 0)
  unfolding effect_shared
  push_holds =
      held_push s m pushed own own' g.held t n c lt ut a.some (in_tree s m own g n a.few) a.cell a.mine
      push_cells push_item (ap (λ z. z.next) (upd_same m.cell c _) ∙ a.onto) refl push_first
      (λ y ne. ap (λ z. z.first) (upd_other m.node n y v ne)) left still a.proper a.least

  push_mound : Mound s pushed own' all
  unfolding effect_shared
  push_mound =
      still_mound s m pushed own own' g refl (λ y h. upd_other m.node n y v (λ z. omega (arith, h, z, a.few))) push_holds.0
      (push_ordered AtMost item_refl item_trans (val m) (val pushed) (λ y. (m.node y).dirty) (λ y. (pushed.node y).dirty) g.ordered n
      (m.cell c).item (λ y p ne. ap value_of (push_others y p ne)) push_value push_dirty a.least a.parent)

  push_falls : Falls m pushed n
  push_falls p e z =
      (push_dirty n ∙ z, λ w h f. subst (AtMost w) (sym push_value) (item_trans w (val m (n / 2)) (m.cell c).item f (a.parent (omega arith))))

  push_depth : m.depth ≡ pushed.depth
  unfolding effect_shared
  push_depth = refl

  push_relies : Rely m pushed
  push_relies =
      let up : counter_of (pushed.node n) ≡ counter_of (m.node n) + 1 =
      ap counter_of (push_node ∙ a.value) ∙ updated_counter (m.node n) c (m.node n).dirty in
      relies m pushed n n (omega (arith, push_depth)) up up (λ y p ne _. push_others y p ne) push_falls push_falls

  pub push_counts : (i : Item) → counted s pushed i ≡ counted s m i + pick (same_item i (m.cell c).item) 1 0
  push_counts = push_holds.1

  -- what the thread still holds
  pub push_rest : ItemsStay m.cell pushed.cell (m.cell c).next
  push_rest = rest_held s m own g t c a.mine a.cell pushed.cell push_cells

  pub push_keeps : Keeps s m pushed own own' all t
  push_keeps =
      record {
        mound = push_mound;
        rely = push_relies;
        kept = others_held s m own g t c a.mine a.cell pushed.cell push_cells;
      }

-- Every node reads as before.
reads_mound : (s : Shape) (m m' : Shared) (own own' : ℕ → ℕ) {all : ℕ} → Mound s m own all → m'.depth ≡ m.depth
    → ((x : ℕ) → 1 ≤ x → read_node m' x ≡ read_node m x) → Held s m' own' all → Mound s m' own' all
reads_mound s m m' own own' g depth reads held =
    still_mound s m m' own own' g depth
    (λ y h. let there = root_there s m own g in node_of_read m m' y (reads y (omega arith))) held
    (λ a x p h z.
    subst₂ (λ u w. AtMost u w) (sym (ap value_of (reads a p))) (sym (ap value_of (reads x (omega (arith, p, above_le a x h)))))
    (g.ordered a x p h (ap (λ n. n.dirty) (sym (node_of_read m m' a (reads a p))) ∙ z)))

-- The root gets another list and becomes dirty.
module _ (s : Shape) (m m' : Shared) (own own' : ℕ → ℕ) {all : ℕ} (g : Mound s m own all) (first : ℕ) (depth : m'.depth ≡ m.depth)
    (root : m'.node 1 ≡ updated (m.node 1) first 1) (others : (y : ℕ) → 1 ≤ y → (y ≡ 1 → ⊥) → read_node m' y ≡ read_node m y)
    (held : Held s m' own' all) where
  root_mound : Mound s m' own' all
  root_mound =
      still_mound s m m' own own' g depth
      (λ y h. let there = root_there s m own g in node_of_read m m' y (others y (omega arith) (λ z. omega arith))) held
      (pop_ordered AtMost item_refl item_trans (val m) (val m') (λ y. (m.node y).dirty) (λ y. (m'.node y).dirty) g.ordered
      (λ y p ne. ap value_of (others y p ne)) (λ y p ne. ap (λ z. z.dirty) (node_of_read m m' y (others y p ne)))
      (ap (λ z. z.dirty) root ∙ updated-dirty (m.node 1) first 1))

  root_relies : Rely m m'
  root_relies =
      let up : counter_of (m'.node 1) ≡ counter_of (m.node 1) + 1 = ap counter_of root ∙ updated_counter (m.node 1) first 1 in
      relies m m' 1 1 (omega arith) up up (λ y p ne _. others y p ne) (λ p e z. absurd (omega arith)) (λ p e z. absurd (omega arith))

-- Popping.
module _ (s : Shape) (m : Shared) (own : ℕ → ℕ) {all : ℕ} (g : Mound s m own all) (v : Node) (c : ℕ) (a : PopAllowed m v c) where
  abbrev popped : Shared
  popped = effect_shared m (Pop v c)

  -- the popped cell is the root's, so no other chain has it
  pop_owner : g.held.owner c ≡ 2
  pop_owner =
      subst (λ y. g.held.owner y ≡ 2) a.head (first-owner s m own g.held 1 (omega arith) (omega (arith, a.head, a.cell)))

  pop_cells : (d : ℕ) → (d ≡ c → ⊥) → popped.cell d ≡ m.cell d
  unfolding effect_shared
  pop_cells d ne = upd_other m.cell c d _ ne

  pub pop_others : (y : ℕ) → 1 ≤ y → (y ≡ 1 → ⊥) → read_node popped y ≡ read_node m y
  unfolding effect_shared
  pop_others y p ne = read_same m popped y (upd_other m.node 1 y v ne) (pop_cells (m.node y).first apart)
    where
      apart : (m.node y).first ≡ c → ⊥
      apart e =
          let o = first-owner s m own g.held y p (omega (arith, e, a.cell)) in
          ne (omega (arith, o, pop_owner, ap g.held.owner e))

  pop_node : popped.node 1 ≡ v
  unfolding effect_shared
  pop_node = upd_same m.node 1 v

  pop_first : (popped.node 1).first ≡ (m.cell c).next
  pop_first = ap (λ z. z.first) (pop_node ∙ a.value) ∙ updated-first (m.node 1) (m.cell c).next 1

  pop_holds : Held s popped own all × ((i : Item) → counted s m i ≡ counted s popped i + pick (same_item i (m.cell c).item) 1 0)
  unfolding effect_shared
  pop_holds =
      held_pop s m popped own g.held c (in_tree s m own g 1 (root_there s m own g)) a.cell a.head pop_cells
      (ap (λ z. z.next) (upd_same m.cell c _)) refl pop_first
      (λ y ne. ap (λ z. z.first) (upd_other m.node 1 y v ne))

  pop_mound : Mound s popped own all
  unfolding effect_shared
  pop_mound = root_mound s m popped own own g (m.cell c).next refl (pop_node ∙ a.value) pop_others pop_holds.0

  pop_relies : Rely m popped
  unfolding effect_shared
  pop_relies = root_relies s m popped own own g (m.cell c).next refl (pop_node ∙ a.value) pop_others pop_holds.0

  pub pop_counts : (i : Item) → counted s m i ≡ counted s popped i + pick (same_item i (m.cell c).item) 1 0
  pop_counts = pop_holds.1

  -- what any thread holds
  pub pop_items_stay : (t : ℕ) → ItemsStay m.cell popped.cell (own t)
  pop_items_stay t = thread_items_stay s m own g.held popped.cell c pop_cells t (λ e. omega (arith, e, pop_owner))

  pub pop_keeps : (t : ℕ) → Keeps s m popped own own all t
  pop_keeps t = record { mound = pop_mound; rely = pop_relies; kept = λ u n. pop_items_stay u }

-- Exchanging the lists of node n and its child k, whose sibling is j.
module _ (s : Shape) (m : Shared) (own : ℕ → ℕ) {all : ℕ} (g : Mound s m own all) (n : ℕ) (v : Node) (k : ℕ) (w : Node) (j : ℕ)
    (a : ExchangeAllowed m n v k w j) where
  abbrev swapped : Shared
  swapped = effect_shared m (Exchange n v k w)

  apart : n ≡ k → ⊥
  apart e = omega (arith, e, a.child, a.some)

  at_k : swapped.node k ≡ updated (m.node k) (m.node n).first 1
  unfolding effect_shared
  at_k = upd_same (upd m.node n v) k w ∙ a.value_child

  at_n : swapped.node n ≡ updated (m.node n) (m.node k).first 0
  unfolding effect_shared
  at_n = upd_other (upd m.node n v) k n w apart ∙ upd_same m.node n v ∙ a.value

  at_x : (x : ℕ) → (x ≡ n → ⊥) → (x ≡ k → ⊥) → swapped.node x ≡ m.node x
  unfolding effect_shared
  at_x x p q = upd_other (upd m.node n v) k x w q ∙ upd_other m.node n x v p

  first_k : (swapped.node k).first ≡ (m.node n).first
  first_k = ap (λ z. z.first) at_k ∙ updated-first (m.node k) (m.node n).first 1

  first_n : (swapped.node n).first ≡ (m.node k).first
  first_n = ap (λ z. z.first) at_n ∙ updated-first (m.node n) (m.node k).first 0

  value_by : (x y : ℕ) → (swapped.node x).first ≡ (m.node y).first → val swapped x ≡ val m y
  unfolding value_of read_node effect_shared
  value_by x y e = ap (value_at m.cell) e

  exchange_holds : Held s swapped own all × ((i : Item) → counted s swapped i ≡ counted s m i)
  unfolding effect_shared
  exchange_holds =
      held_exchange s m swapped own g.held n k a.some (in_tree s m own g n (omega (arith, a.child, a.few)))
      (omega (arith, a.child, a.some))
      (in_tree s m own g k a.few) apart refl refl first_n first_k
      (λ x p q. ap (λ z. z.first) (at_x x p q))

  exchange_mound : Mound s swapped own all
  unfolding effect_shared
  exchange_mound =
      still_mound s m swapped own own g refl
      (λ y h. at_x y (λ z. omega (arith, h, z, a.few, a.child)) (λ z. omega (arith, h, z, a.few))) exchange_holds.0
      (exchange_ordered AtMost item_refl item_trans (val m) (val swapped) (λ y. (m.node y).dirty) (λ y. (swapped.node y).dirty)
      g.ordered n k j a.some a.child a.clean a.clean_sibling a.kids a.sibling a.less a.least
      (value_by n k first_n) (value_by k n first_k) (λ x p q. value_by x x (ap (λ z. z.first) (at_x x p q)))
      (ap (λ z. z.dirty) at_k ∙ updated-dirty (m.node k) (m.node n).first 1) (λ x p q. ap (λ z. z.dirty) (at_x x p q)))

  exchange_relies : Rely m swapped
  unfolding effect_shared
  exchange_relies =
      let up_n : counter_of (swapped.node n) ≡ counter_of (m.node n) + 1 =
      ap counter_of at_n ∙ updated_counter (m.node n) (m.node k).first 0 in
      let up_k : counter_of (swapped.node k) ≡ counter_of (m.node k) + 1 =
      ap counter_of at_k ∙ updated_counter (m.node k) (m.node n).first 1 in
      relies m swapped n k (omega arith) up_n up_k (λ x p q r. read_same m swapped x (at_x x q r) refl)
      (λ p e z. absurd (omega (arith, z, a.dirty)))
      (λ p e z. absurd (let h = subst (λ y. counter_of (swapped.node y) ≡ counter_of (m.node y)) a.child e in omega (arith, h, up_n)))

  pub exchange_keeps : (t : ℕ) → Keeps s m swapped own own all t
  unfolding effect_shared
  exchange_keeps t = record { mound = exchange_mound; rely = exchange_relies; kept = λ u x is h. h }

  pub exchange_counts : (i : Item) → counted s swapped i ≡ counted s m i
  exchange_counts = exchange_holds.1

-- Cleaning.
module _ (s : Shape) (m : Shared) (own : ℕ → ℕ) {all : ℕ} (g : Mound s m own all) (n : ℕ) (v : Node) (a : CleanAllowed m n v) where
  abbrev cleaned : Shared
  cleaned = effect_shared m (Clean n v)

  clean_node : cleaned.node n ≡ updated (m.node n) (m.node n).first 0
  unfolding effect_shared
  clean_node = upd_same m.node n v ∙ a.value

  clean_other : (x : ℕ) → (x ≡ n → ⊥) → cleaned.node x ≡ m.node x
  unfolding effect_shared
  clean_other x p = upd_other m.node n x v p

  clean_first : (x : ℕ) → (cleaned.node x).first ≡ (m.node x).first
  clean_first x = go (ℕ_discrete x n)
    where
      go : Dec (x ≡ n) → (cleaned.node x).first ≡ (m.node x).first
      go (yes e) =
          ap (λ z. (cleaned.node z).first) e ∙ ap (λ z. z.first) clean_node ∙ updated-first (m.node n) (m.node n).first 0
          ∙ ap (λ z. (m.node z).first) (sym e)
      go (no p) = ap (λ z. z.first) (clean_other x p)

  clean_value : (x : ℕ) → val cleaned x ≡ val m x
  unfolding value_of read_node effect_shared
  clean_value x = ap (value_at m.cell) (clean_first x)

  clean_mound : Mound s cleaned own all
  unfolding effect_shared
  clean_mound =
      still_mound s m cleaned own own g refl (λ y h. clean_other y (λ z. omega (arith, h, z, a.few)))
      (held_same s m cleaned own g.held refl refl clean_first)
      (clean_ordered AtMost item_refl item_trans (val m) (val cleaned) (λ y. (m.node y).dirty) (λ y. (cleaned.node y).dirty) g.ordered n
      a.some clean_value (λ x p q. ap (λ z. z.dirty) (clean_other x q)) a.clean_left a.clean_right a.least_left a.least_right)

  clean_relies : Rely m cleaned
  unfolding effect_shared
  clean_relies =
      let up : counter_of (cleaned.node n) ≡ counter_of (m.node n) + 1 =
      ap counter_of clean_node ∙ updated_counter (m.node n) (m.node n).first 0 in
      relies m cleaned n n (omega arith) up up (λ x p q r. read_same m cleaned x (clean_other x q) refl)
      (λ p e z. absurd (omega (arith, z, a.dirty))) (λ p e z. absurd (omega (arith, z, a.dirty)))

  pub clean_keeps : (t : ℕ) → Keeps s m cleaned own own all t
  unfolding effect_shared
  clean_keeps t = record { mound = clean_mound; rely = clean_relies; kept = λ u x is h. h }

  pub clean_counts : (i : Item) → counted s cleaned i ≡ counted s m i
  unfolding effect_shared
  clean_counts i = counted_same s m cleaned own g.held refl refl clean_first i

-- A put begins.
module _ (s : Shape) (m m' : Shared) (own own' : ℕ → ℕ) {all : ℕ} (g : Mound s m own all) (t c : ℕ) (lt : 1 ≤ t) (ut : t ≤ s.threads) (some : 1 ≤ c)
    (free : m.free ≡ c) (others : (d : ℕ) → (d ≡ c → ⊥) → m'.cell d ≡ m.cell d) (onto : (m'.cell c).next ≡ own t)
    (left : m'.free ≡ (m.cell c).next) (nodes : m'.node ≡ m.node) (depth : m'.depth ≡ m.depth) (now : own' t ≡ c)
    (still : (u : ℕ) → (u ≡ t → ⊥) → own' u ≡ own u) where
  -- the cell was free, so no other chain has it
  begin_owner : g.held.owner c ≡ 0
  begin_owner = subst (λ y. g.held.owner y ≡ 0) free (free-owner s m own g.held (omega (arith, free, some)))

  begin_reads : (y : ℕ) → 1 ≤ y → read_node m' y ≡ read_node m y
  begin_reads y p = read_same m m' y (ap (λ f. f y) nodes) (others (m.node y).first apart_free)
    where
      apart_free : (m.node y).first ≡ c → ⊥
      apart_free e =
          let o = first-owner s m own g.held y p (omega (arith, e, some)) in
          omega (arith, o, begin_owner, ap g.held.owner e)

  begin_relies : Rely m m'
  begin_relies = rely_same m m' (omega (arith, depth)) begin_reads

  begin_holds : Held s m' own' all × ((i : Item) → counted s m' i ≡ counted s m i)
  begin_holds = held_begin s m m' own own' g.held t c lt ut some free others onto left nodes now still

  begin_mound : Mound s m' own' all
  begin_mound = reads_mound s m m' own own' g depth begin_reads begin_holds.0

  pub begin_counts : (i : Item) → counted s m' i ≡ counted s m i
  begin_counts = begin_holds.1

  pub begin_keeps : Keeps s m m' own own' all t
  begin_keeps =
      record {
        mound = begin_mound;
        rely = begin_relies;
        kept = λ u n. thread_items_stay s m own g.held m'.cell c others u (λ e. omega (arith, e, begin_owner));
      }

-- Detaching the root's list to thread t.
module _ (s : Shape) (m : Shared) (own own' : ℕ → ℕ) {all : ℕ} (g : Mound s m own all) (t : ℕ) (v : Node) (lt : 1 ≤ t) (ut : t ≤ s.threads)
    (a : DetachAllowed m own t v) (now : own' t ≡ (m.node 1).first) (still : (u : ℕ) → (u ≡ t → ⊥) → own' u ≡ own u) where
  abbrev detached : Shared
  detached = effect_shared m (Detach v)

  detach_others : (y : ℕ) → 1 ≤ y → (y ≡ 1 → ⊥) → read_node detached y ≡ read_node m y
  unfolding effect_shared
  detach_others y p ne = read_same m detached y (upd_other m.node 1 y v ne) refl

  detach_node : detached.node 1 ≡ updated (m.node 1) 0 1
  unfolding effect_shared
  detach_node = upd_same m.node 1 v ∙ a.value

  detach_holds : Held s detached own' all
      × ((i : Item) → counted s m i ≡ counted s detached i + among (same_item i) (items m.cell (g.held.list 2)))
  unfolding effect_shared
  detach_holds =
      held_detach s m detached own own' g.held t lt ut (in_tree s m own g 1 (root_there s m own g)) a.hands refl refl
      (ap (λ z. z.first) detach_node ∙ updated-first (m.node 1) 0 1) (λ y ne. ap (λ z. z.first) (upd_other m.node 1 y v ne)) now still

  pub detach_counts : (i : Item) → counted s m i ≡ counted s detached i + among (same_item i) (items m.cell (g.held.list 2))
  detach_counts = detach_holds.1

  pub detach_keeps : Keeps s m detached own own' all t
  unfolding effect_shared
  detach_keeps =
      record {
        mound = root_mound s m detached own own' g 0 refl detach_node detach_others detach_holds.0;
        rely = root_relies s m detached own own' g 0 refl detach_node detach_others detach_holds.0;
        kept = λ u n is h. h;
      }

-- Freeing the first cell that thread t holds.
module _ (s : Shape) (m : Shared) (own own' : ℕ → ℕ) {all : ℕ} (g : Mound s m own all) (t c : ℕ) (lt : 1 ≤ t) (ut : t ≤ s.threads)
    (a : FreeAllowed own t c) (left : own' t ≡ (m.cell c).next) (still : (u : ℕ) → (u ≡ t → ⊥) → own' u ≡ own u) where
  abbrev freed_one : Shared
  freed_one = effect_shared m (Free c)

  free_cells : (d : ℕ) → (d ≡ c → ⊥) → freed_one.cell d ≡ m.cell d
  unfolding effect_shared
  free_cells d ne = upd_other m.cell c d _ ne

  free_others : (y : ℕ) → 1 ≤ y → read_node freed_one y ≡ read_node m y
  unfolding effect_shared
  free_others y p = read_same m freed_one y refl (heads_stay s m own g t c a.mine a.cell freed_one.cell free_cells y p)

  free_holds : Held s freed_one own' all × ((i : Item) → counted s freed_one i ≡ counted s m i)
  unfolding effect_shared
  free_holds =
      held_free s m freed_one own own' g.held t c lt ut a.cell a.mine free_cells (ap (λ z. z.next) (upd_same m.cell c _)) refl refl
      left still

  pub free_counts : (i : Item) → counted s freed_one i ≡ counted s m i
  free_counts = free_holds.1

  -- what the thread still holds
  pub free_rest : ItemsStay m.cell freed_one.cell (m.cell c).next
  free_rest = rest_held s m own g t c a.mine a.cell freed_one.cell free_cells

  free_mound : Mound s freed_one own' all
  unfolding effect_shared
  free_mound = reads_mound s m freed_one own own' g refl free_others free_holds.0

  pub free_keeps : Keeps s m freed_one own own' all t
  unfolding effect_shared
  free_keeps =
      record {
        mound = free_mound;
        rely = rely_same m freed_one (omega arith) free_others;
        kept = others_held s m own g t c a.mine a.cell freed_one.cell free_cells;
      }
