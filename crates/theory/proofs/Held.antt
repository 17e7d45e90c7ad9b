-- Which list, thread or free chain holds a cell: none is held twice, lists never fall, and no effect changes how many cells are held.
-- What a beginning, a push, a pop, an exchange, a detaching and a freeing make of it, and of the tree's count. Assumes nothing.
use Prim.Native.Nat.{ℕ, ◌+◌, ◌*◌, ◌≤◌}
use native.Mathlib.Decide.{ℕ_discrete}
use native.Mathlib.Omega.{arith}
use mathlib.Core.Path.{◌≡◌, refl, sym, ap, subst, ◌∙◌}
use mathlib.Core.Bool.{Bool}
use mathlib.Core.List.{List, [], ◌∷◌}
use lib.ListN.{length}
use Rattle.region.specs.Pick.{pick}
use Rattle.region.specs.Record.{same_item}
use Rattle.region.specs.Shape.{node_count}
use Rattle.region.specs.Shared.{Shared}
use Rattle.region.specs.declared.record.Cell.{Cell}
use Rattle.region.specs.declared.record.Item.{Item}
use Rattle.region.specs.declared.shape.Shape.{Shape}
use Rattle.access.specs.Order.{top_item, val, value_of}
use Rattle.access.specs.Read.{read_node}
use Rattle.theory.specs.Tree.{in_nodes}
use Rattle.theory.proofs.Cells.{Chains, Moved, Exchanged, move, exchange}
use Rattle.theory.proofs.Chains.{Chain, ItemsStay, among, first_owned, items, items_stay, no_cells, tail_stays}
use Rattle.theory.proofs.Counts.{in_chain, tree_counts}
use Rattle.theory.proofs.Holders.{Holder, free_holds, head_free, head_node, head_still, head_thread, heads, node_holds, over_has, over_two, over_all, thread_holds}
use Rattle.theory.proofs.Sorted.{AtMost, Proper, Sorted, from_head, head_least, head_proper, head_counted, top_value}
use Rattle.theory.proofs.Sums.{sum, sum_same, sum_has, sum_but, sum_exchange, sum_some}

-- m's free cells, the tree's and those in the chains from each thread's own cell: `all` together. Of C cells there may be others, which this
-- queue does not hold; all cells are accounted for where `all` is C.
pub record Held (s : Shape) (m : Shared) (own : ℕ → ℕ) (all : ℕ) : Type 0 where
  pub owner : ℕ → ℕ
  pub rank : ℕ → ℕ
  pub list : ℕ → List ℕ
  pub chains : Chains m.cell owner rank (heads m.free m.node own) list
  pub sorted : (n : ℕ) → 1 ≤ n → Sorted (items m.cell (list (2 * n)))
  pub total : over_all s (λ o. length (list o)) ≡ all
  pub few : all ≤ s.cells

-- the tree's count of i
abbrev pub counted : Shape → Shared → Item → ℕ
counted s m i = in_nodes m (same_item i) s.cells (node_count s)

-- What holds of the tree.
module _ (s : Shape) (m : Shared) (own : ℕ → ℕ) {all : ℕ} (h : Held s m own all) where
  -- holder o's chain, from its first cell c
  chain_from : (o c : ℕ) → heads m.free m.node own o ≡ c → Chain m.cell h.owner h.rank o c (h.list o)
  chain_from o c e = subst (λ c. Chain m.cell h.owner h.rank o c (h.list o)) e (h.chains o)

  pub free_chain : Chain m.cell h.owner h.rank 0 m.free (h.list 0)
  free_chain = chain_from 0 m.free (head_free m.free m.node own)

  pub node_chain : (n : ℕ) → 1 ≤ n → Chain m.cell h.owner h.rank (2 * n) (m.node n).first (h.list (2 * n))
  node_chain n p = chain_from (2 * n) (m.node n).first (head_node m.free m.node own n p)

  pub thread_chain : (t : ℕ) → Chain m.cell h.owner h.rank (2 * t + 1) (own t) (h.list (2 * t + 1))
  thread_chain t = chain_from (2 * t + 1) (own t) (head_thread m.free m.node own t)

  pub few_held : (o : ℕ) → Holder s o → length (h.list o) ≤ s.cells
  few_held o k = omega (arith, over_has s (λ x. length (h.list x)) o k, h.total, h.few)

  pub few_cells : (n : ℕ) → 1 ≤ n → n ≤ node_count s → length (h.list (2 * n)) ≤ s.cells
  few_cells n p q = few_held (2 * n) (node_holds n p q)

  pub counts : (test : Item → Bool) → in_nodes m test s.cells (node_count s) ≡ sum (in_chain m.cell h.list test) (node_count s)
  counts test =
      tree_counts m h.owner h.rank (heads m.free m.node own) h.list h.chains
      (λ k p. head_node m.free m.node own k p) s.cells test (node_count s) few_cells

  -- an item that the tree holds is held by a node whose value is no greater
  pub record HeldBy (i : Item) : Type 0 where
    pub node : ℕ
    pub some : 1 ≤ node
    pub few : node ≤ node_count s
    pub least : AtMost (val m node) i
    pub proper : Proper (val m node)

  pub held_by : (i : Item) → 1 ≤ counted s m i → HeldBy i
  unfolding in_chain value_of read_node
  held_by i l =
      let w = sum_some (in_chain m.cell h.list (same_item i)) (node_count s) (subst (λ k. 1 ≤ k) (counts (same_item i)) l) in
      let n = w.at in
      record {
        node = n;
        some = w.least;
        few = w.most;
        least = head_least (node_chain n w.least) (h.sorted n w.least) i w.some;
        proper = head_proper (node_chain n w.least) (h.sorted n w.least) i w.some;
      }

  -- no value is above that of an empty node
  pub val_top : (n : ℕ) → 1 ≤ n → AtMost (val m n) top_item
  unfolding value_of read_node
  val_top n p = top_value (node_chain n p) (h.sorted n p)

  -- the head of a node's list is held
  pub head_held : (n : ℕ) → 1 ≤ n → n ≤ node_count s → 1 ≤ (m.node n).first → 1 ≤ counted s m (m.cell (m.node n).first).item
  unfolding in_chain
  head_held n p q l =
      let i = (m.cell (m.node n).first).item in
      let a = head_counted (node_chain n p) l in
      let b = sum_has (in_chain m.cell h.list (same_item i)) (node_count s) n p q in
      omega (arith, counts (same_item i), a, b)

  -- the first cell of a node's list is that node's
  pub first-owner : (n : ℕ) → 1 ≤ n → 1 ≤ (m.node n).first → h.owner (m.node n).first ≡ 2 * n
  first-owner n p l = first_owned (node_chain n p) l

  -- an own cell is its thread's
  pub own_owner : (t : ℕ) → 1 ≤ own t → h.owner (own t) ≡ 2 * t + 1
  own_owner t l = first_owned (thread_chain t) l

  -- the first free cell is free
  pub free-owner : 1 ≤ m.free → h.owner m.free ≡ 0
  free-owner l = first_owned free_chain l

  -- what thread t holds stays where a cell of another holder changes; and where its own head does, what lies behind that
  pub thread_items_stay : (cell' : ℕ → Cell) (c : ℕ) → ((d : ℕ) → (d ≡ c → ⊥) → cell' d ≡ m.cell d) → (t : ℕ) → (h.owner c ≡ 2 * t + 1 → ⊥)
      → ItemsStay m.cell cell' (own t)
  thread_items_stay cell' c others t n =
      items_stay cell' (thread_chain t) (λ d e r. others d (λ z. n (ap h.owner (sym z) ∙ e)))

  pub rest_stays : (cell' : ℕ → Cell) (t : ℕ) → 1 ≤ own t → ((d : ℕ) → (d ≡ own t → ⊥) → cell' d ≡ m.cell d)
      → ItemsStay m.cell cell' (m.cell (own t)).next
  rest_stays cell' t l others = tail_stays cell' (thread_chain t) l others

-- The same lists in the same cells.
pub held_same : (s : Shape) (m m' : Shared) (own : ℕ → ℕ) {all : ℕ} → Held s m own all → m'.cell ≡ m.cell → m'.free ≡ m.free
    → ((n : ℕ) → (m'.node n).first ≡ (m.node n).first) → Held s m' own all
held_same s m m' own h ec ef en =
    record {
      owner = h.owner;
      rank = h.rank;
      list = h.list;
      chains = λ o.
          subst (λ cell. Chain cell h.owner h.rank o (heads m'.free m'.node own o) (h.list o)) (sym ec)
          (subst (λ c. Chain m.cell h.owner h.rank o c (h.list o))
          (sym (head_still m.free m.node own m'.free m'.node own o (λ z. ef) (λ n p e. en n) (λ t e. refl)))
          (h.chains o));
      sorted = λ n p. subst (λ cell. Sorted (items cell (h.list (2 * n)))) (sym ec) (h.sorted n p);
      total = h.total;
      few = h.few;
    }

pub counted_same : (s : Shape) (m m' : Shared) (own : ℕ → ℕ) {all : ℕ} → Held s m own all → m'.cell ≡ m.cell → m'.free ≡ m.free
    → ((n : ℕ) → (m'.node n).first ≡ (m.node n).first) → (i : Item) → counted s m' i ≡ counted s m i
unfolding in_chain sum held_same
counted_same s m m' own h ec ef en i =
    counts s m' own (held_same s m m' own h ec ef en) (same_item i)
    ∙ ap (λ cell. sum (λ k. among (same_item i) (items cell (h.list (2 * k)))) (node_count s)) ec
    ∙ sym (counts s m own h (same_item i))

-- The head c of holder o's chain goes to the front of holder q's, which stays sorted if q is a node.
module _ (s : Shape) (m m' : Shared) (own own' : ℕ → ℕ) {all : ℕ} (h : Held s m own all) (o q c : ℕ) (from : Holder s o) (to : Holder s q)
    (apart : o ≡ q → ⊥) (mv : Moved m.cell m'.cell (heads m'.free m'.node own') h.list o q c)
    (fits : (n : ℕ) → 1 ≤ n → q ≡ 2 * n → Sorted ((m'.cell c).item ∷ items m.cell (h.list q))) where
  pub held_moved : Held s m' own' all
  held_moved =
      record {
        owner = mv.owners;
        rank = mv.ranks;
        list = mv.lists;
        chains = mv.chained;
        sorted = λ n p. go n p (ℕ_discrete (2 * n) q) (ℕ_discrete (2 * n) o);
        total =
            let a = over_two s (λ x. length (h.list x)) (λ x. length (mv.lists x)) o q from to apart mv.length_x in
            omega (arith, a, mv.length_q, mv.length_o, h.total);
        few = h.few;
      }
    where
      go : (n : ℕ) → 1 ≤ n → Dec (2 * n ≡ q) → Dec (2 * n ≡ o) → Sorted (items m'.cell (mv.lists (2 * n)))
      go n p (yes e) d =
          subst (λ x. Sorted (items m'.cell (mv.lists x))) (sym e) (subst Sorted (sym mv.items_q) (fits n p (sym e)))
      go n p (no a) (yes e) =
          subst (λ x. Sorted (items m'.cell (mv.lists x))) (sym e)
          (subst Sorted mv.items_o (subst (λ x. Sorted (items m.cell (h.list x))) e (h.sorted n p))).2
      go n p (no a) (no b) = subst Sorted (sym (mv.items_x (2 * n) b a)) (h.sorted n p)

  -- between two holders that are no nodes: the tree's count stays
  pub aside_counted : ((n : ℕ) → 1 ≤ n → 2 * n ≡ o → ⊥) → ((n : ℕ) → 1 ≤ n → 2 * n ≡ q → ⊥) → (i : Item) → counted s m' i ≡ counted s m i
  unfolding in_chain held_moved
  aside_counted no_o no_q i =
      let same = same_item i in
      counts s m' own' held_moved same
      ∙ sum_same (in_chain m.cell h.list same) (in_chain m'.cell mv.lists same) (node_count s)
      (λ k l u. ap (among same) (mv.items_x (2 * k) (no_o k l) (no_q k l)))
      ∙ sym (counts s m own h same)

-- Holders o and q exchange their chains, which are sorted where the new holder is a node.
module _ (s : Shape) (m m' : Shared) (own own' : ℕ → ℕ) {all : ℕ} (h : Held s m own all) (o q : ℕ) (one : Holder s o) (other : Holder s q)
    (apart : o ≡ q → ⊥) (cells : m'.cell ≡ m.cell) (ex : Exchanged m.cell (heads m'.free m'.node own') h.list o q)
    (fits_o : (n : ℕ) → 1 ≤ n → o ≡ 2 * n → Sorted (items m.cell (h.list q)))
    (fits_q : (n : ℕ) → 1 ≤ n → q ≡ 2 * n → Sorted (items m.cell (h.list o))) where
  pub held_exchanged : Held s m' own' all
  held_exchanged =
      record {
        owner = ex.owners;
        rank = ex.ranks;
        list = ex.lists;
        chains = λ x.
            subst (λ cell. Chain cell ex.owners ex.ranks x (heads m'.free m'.node own' x) (ex.lists x)) (sym cells)
            (ex.chained x);
        sorted = λ n p.
            subst (λ cell. Sorted (items cell (ex.lists (2 * n)))) (sym cells) (go n p (ℕ_discrete (2 * n) o) (ℕ_discrete (2 * n) q));
        total =
            let a = over_two s (λ x. length (h.list x)) (λ x. length (ex.lists x)) o q one other apart (λ x n k. ap length (ex.list_x x n k)) in
            omega (arith, a, ap length ex.list_o, ap length ex.list_q, h.total);
        few = h.few;
      }
    where
      to : (x : ℕ) (l : List ℕ) (n : ℕ) → 2 * n ≡ x → ex.lists x ≡ l → Sorted (items m.cell l) → Sorted (items m.cell (ex.lists (2 * n)))
      to x l n e k g = subst (λ y. Sorted (items m.cell y)) (sym (ap ex.lists e ∙ k)) g

      go : (n : ℕ) → 1 ≤ n → Dec (2 * n ≡ o) → Dec (2 * n ≡ q) → Sorted (items m.cell (ex.lists (2 * n)))
      go n p (yes e) d = to o (h.list q) n e ex.list_o (fits_o n p (sym e))
      go n p (no a) (yes e) = to q (h.list o) n e ex.list_q (fits_q n p (sym e))
      go n p (no a) (no b) = to (2 * n) (h.list (2 * n)) n refl (ex.list_x (2 * n) a b) (h.sorted n p)

-- A put begins: the first free cell c goes to the front of thread t's chain.
module _ (s : Shape) (m m' : Shared) (own own' : ℕ → ℕ) {all : ℕ} (h : Held s m own all) (t c : ℕ) (lt : 1 ≤ t) (ut : t ≤ s.threads) (some : 1 ≤ c)
    (free : m.free ≡ c) (others : (d : ℕ) → (d ≡ c → ⊥) → m'.cell d ≡ m.cell d) (onto : (m'.cell c).next ≡ own t)
    (left : m'.free ≡ (m.cell c).next) (nodes : m'.node ≡ m.node) (now : own' t ≡ c)
    (still : (u : ℕ) → (u ≡ t → ⊥) → own' u ≡ own u) where
  begin_move : Moved m.cell m'.cell (heads m'.free m'.node own') h.list 0 (2 * t + 1) c
  begin_move =
      move m.cell m'.cell h.owner h.rank (heads m.free m.node own) (heads m'.free m'.node own')
      h.list h.chains
      0 (2 * t + 1) c (λ z. omega arith) some (head_free m.free m.node own ∙ free) others
      (onto ∙ sym (head_thread m.free m.node own t))
      (head_free m'.free m'.node own' ∙ left) (head_thread m'.free m'.node own' t ∙ now)
      (λ x n k. head_still m.free m.node own m'.free m'.node own' x (λ z. absurd (n z)) (λ y p e. ap (λ f. (f y).first) nodes)
      (λ u e. still u (λ z. k (e ∙ ap (λ y. 2 * y + 1) z))))

  begin_fits : (n : ℕ) → 1 ≤ n → 2 * t + 1 ≡ 2 * n → Sorted ((m'.cell c).item ∷ items m.cell (h.list (2 * t + 1)))
  begin_fits n p e = absurd (omega arith)

  pub held_begin : Held s m' own' all × ((i : Item) → counted s m' i ≡ counted s m i)
  held_begin = (
    held_moved s m m' own own' h 0 (2 * t + 1) c free_holds (thread_holds t lt ut) (λ z. omega arith) begin_move begin_fits,
    aside_counted s m m' own own' h 0 (2 * t + 1) c free_holds (thread_holds t lt ut) (λ z. omega arith) begin_move begin_fits
        (λ n p z. omega arith) (λ n p z. omega arith),
  )

-- A freeing: the head c of thread t's chain goes to the front of the free chain.
module _ (s : Shape) (m m' : Shared) (own own' : ℕ → ℕ) {all : ℕ} (h : Held s m own all) (t c : ℕ) (lt : 1 ≤ t) (ut : t ≤ s.threads) (some : 1 ≤ c)
    (mine : own t ≡ c) (others : (d : ℕ) → (d ≡ c → ⊥) → m'.cell d ≡ m.cell d) (onto : (m'.cell c).next ≡ m.free)
    (free : m'.free ≡ c) (nodes : m'.node ≡ m.node) (left : own' t ≡ (m.cell c).next)
    (still : (u : ℕ) → (u ≡ t → ⊥) → own' u ≡ own u) where
  free_move : Moved m.cell m'.cell (heads m'.free m'.node own') h.list (2 * t + 1) 0 c
  free_move =
      move m.cell m'.cell h.owner h.rank (heads m.free m.node own) (heads m'.free m'.node own')
      h.list h.chains
      (2 * t + 1) 0 c (λ z. omega arith) some (head_thread m.free m.node own t ∙ mine) others
      (onto ∙ sym (head_free m.free m.node own))
      (head_thread m'.free m'.node own' t ∙ left) (head_free m'.free m'.node own' ∙ free)
      (λ x n k. head_still m.free m.node own m'.free m'.node own' x (λ z. absurd (k z)) (λ y p e. ap (λ f. (f y).first) nodes)
      (λ u e. still u (λ z. n (e ∙ ap (λ y. 2 * y + 1) z))))

  free_fits : (n : ℕ) → 1 ≤ n → 0 ≡ 2 * n → Sorted ((m'.cell c).item ∷ items m.cell (h.list 0))
  free_fits n p e = absurd (omega arith)

  pub held_free : Held s m' own' all × ((i : Item) → counted s m' i ≡ counted s m i)
  held_free = (
    held_moved s m m' own own' h (2 * t + 1) 0 c (thread_holds t lt ut) free_holds (λ z. omega arith) free_move free_fits,
    aside_counted s m m' own own' h (2 * t + 1) 0 c (thread_holds t lt ut) free_holds (λ z. omega arith) free_move free_fits
        (λ n p z. omega arith) (λ n p z. omega arith),
  )

-- A push: the head c of thread t's chain becomes that of node n's list.
module _ (s : Shape) (m m' : Shared) (own own' : ℕ → ℕ) {all : ℕ} (h : Held s m own all) (t n c : ℕ) (lt : 1 ≤ t) (ut : t ≤ s.threads) (ln : 1 ≤ n)
    (un : n ≤ node_count s) (some : 1 ≤ c) (mine : own t ≡ c)
    (others : (d : ℕ) → (d ≡ c → ⊥) → m'.cell d ≡ m.cell d) (kept : (m'.cell c).item ≡ (m.cell c).item)
    (onto : (m'.cell c).next ≡ (m.node n).first) (free : m'.free ≡ m.free) (first : (m'.node n).first ≡ c)
    (elsewhere : (x : ℕ) → (x ≡ n → ⊥) → (m'.node x).first ≡ (m.node x).first) (left : own' t ≡ (m.cell c).next)
    (still : (u : ℕ) → (u ≡ t → ⊥) → own' u ≡ own u) (proper : Proper (m.cell c).item)
    (least : AtMost (m.cell c).item (val m n)) where
  push_move : Moved m.cell m'.cell (heads m'.free m'.node own') h.list (2 * t + 1) (2 * n) c
  push_move =
      move m.cell m'.cell h.owner h.rank (heads m.free m.node own) (heads m'.free m'.node own')
      h.list h.chains
      (2 * t + 1) (2 * n) c (λ z. omega arith) some (head_thread m.free m.node own t ∙ mine) others
      (onto ∙ sym (head_node m.free m.node own n ln))
      (head_thread m'.free m'.node own' t ∙ left) (head_node m'.free m'.node own' n ln ∙ first)
      (λ x a b. head_still m.free m.node own m'.free m'.node own' x (λ z. free)
      (λ y p e. elsewhere y (λ z. b (e ∙ ap (λ k. 2 * k) z))) (λ u e. still u (λ z. a (e ∙ ap (λ k. 2 * k + 1) z))))

  push_held : Held s m' own' all
  unfolding value_of read_node
  push_held =
      held_moved s m m' own own' h (2 * t + 1) (2 * n) c (thread_holds t lt ut) (node_holds n ln un) (λ z. omega arith) push_move
      (λ x p e. subst (λ i. Sorted (i ∷ items m.cell (h.list (2 * n)))) (sym kept)
      (proper, from_head (node_chain s m own h n ln) (h.sorted n ln) (m.cell c).item least, h.sorted n ln))

  -- one copy more of the item
  push_counted : (i : Item) → counted s m' i ≡ counted s m i + pick (same_item i (m.cell c).item) 1 0
  unfolding in_chain among held_moved push_held push_move
  push_counted i =
      let same = same_item i in
      let a = sum_but (in_chain m.cell h.list same) (in_chain m'.cell push_move.lists same) (node_count s) n ln un
      (λ x p q. ap (among same) (push_move.items_x (2 * x) (λ z. omega arith) (λ z. q (omega arith)))) in
      let b : in_chain m'.cell push_move.lists same n ≡ pick (same (m.cell c).item) 1 0 + in_chain m.cell h.list same n =
      ap (among same) push_move.items_q ∙ ap (λ j. pick (same j) 1 0 + among same (items m.cell (h.list (2 * n)))) kept in
      omega (arith, counts s m' own' push_held same, counts s m own h same, a, b)

  pub held_push : Held s m' own' all × ((i : Item) → counted s m' i ≡ counted s m i + pick (same_item i (m.cell c).item) 1 0)
  held_push = (push_held, push_counted)

-- A pop: the head c of the root's list goes to the front of the free chain.
module _ (s : Shape) (m m' : Shared) (own : ℕ → ℕ) {all : ℕ} (h : Held s m own all) (c : ℕ) (root : 1 ≤ node_count s) (some : 1 ≤ c)
    (head : (m.node 1).first ≡ c) (others : (d : ℕ) → (d ≡ c → ⊥) → m'.cell d ≡ m.cell d) (onto : (m'.cell c).next ≡ m.free)
    (free : m'.free ≡ c) (first : (m'.node 1).first ≡ (m.cell c).next)
    (elsewhere : (x : ℕ) → (x ≡ 1 → ⊥) → (m'.node x).first ≡ (m.node x).first) where
  pop_move : Moved m.cell m'.cell (heads m'.free m'.node own) h.list 2 0 c
  pop_move =
      move m.cell m'.cell h.owner h.rank (heads m.free m.node own) (heads m'.free m'.node own) h.list
      h.chains
      2 0 c (λ z. omega arith) some (head_node m.free m.node own 1 (omega arith) ∙ head) others
      (onto ∙ sym (head_free m.free m.node own))
      (head_node m'.free m'.node own 1 (omega arith) ∙ first) (head_free m'.free m'.node own ∙ free)
      (λ x a b. head_still m.free m.node own m'.free m'.node own x (λ z. absurd (b z))
      (λ y p e. elsewhere y (λ z. a (e ∙ ap (λ k. 2 * k) z))) (λ u e. refl))

  pop_held : Held s m' own all
  pop_held =
      held_moved s m m' own own h 2 0 c (node_holds 1 (omega arith) root) free_holds (λ z. omega arith) pop_move (λ n p e. absurd (omega arith))

  -- one copy less of the item
  pop_counted : (i : Item) → counted s m i ≡ counted s m' i + pick (same_item i (m.cell c).item) 1 0
  unfolding in_chain among held_moved pop_held pop_move
  pop_counted i =
      let same = same_item i in
      let a = sum_but (in_chain m.cell h.list same) (in_chain m'.cell pop_move.lists same) (node_count s) 1 (omega arith) root
      (λ x p q. ap (among same) (pop_move.items_x (2 * x) (λ z. q (omega arith)) (λ z. omega arith))) in
      let b : in_chain m.cell h.list same 1 ≡ pick (same (m.cell c).item) 1 0 + in_chain m'.cell pop_move.lists same 1 =
      ap (among same) pop_move.items_o in
      omega (arith, counts s m' own pop_held same, counts s m own h same, a, b)

  pub held_pop : Held s m' own all × ((i : Item) → counted s m i ≡ counted s m' i + pick (same_item i (m.cell c).item) 1 0)
  held_pop = (pop_held, pop_counted)

-- An exchange of the lists of nodes n and k.
module _ (s : Shape) (m m' : Shared) (own : ℕ → ℕ) {all : ℕ} (h : Held s m own all) (n k : ℕ) (ln : 1 ≤ n) (un : n ≤ node_count s) (lk : 1 ≤ k)
    (uk : k ≤ node_count s) (apart : n ≡ k → ⊥) (cells : m'.cell ≡ m.cell) (free : m'.free ≡ m.free)
    (to_n : (m'.node n).first ≡ (m.node k).first) (to_k : (m'.node k).first ≡ (m.node n).first)
    (elsewhere : (x : ℕ) → (x ≡ n → ⊥) → (x ≡ k → ⊥) → (m'.node x).first ≡ (m.node x).first) where
  exchange_lists : Exchanged m.cell (heads m'.free m'.node own) h.list (2 * n) (2 * k)
  exchange_lists =
      exchange m.cell h.owner h.rank (heads m.free m.node own) (heads m'.free m'.node own) h.list h.chains
      (2 * n) (2 * k) (λ z. apart (omega arith))
      (head_node m'.free m'.node own n ln ∙ to_n ∙ sym (head_node m.free m.node own k lk))
      (head_node m'.free m'.node own k lk ∙ to_k ∙ sym (head_node m.free m.node own n ln))
      (λ x a b. head_still m.free m.node own m'.free m'.node own x (λ z. free)
      (λ y p e. elsewhere y (λ z. a (e ∙ ap (λ j. 2 * j) z)) (λ z. b (e ∙ ap (λ j. 2 * j) z))) (λ u e. refl))

  list_x : (x : ℕ) → (x ≡ n → ⊥) → (x ≡ k → ⊥) → exchange_lists.lists (2 * x) ≡ h.list (2 * x)
  list_x x p q = exchange_lists.list_x (2 * x) (λ z. p (omega arith)) (λ z. q (omega arith))

  exchange_held : Held s m' own all
  exchange_held =
      held_exchanged s m m' own own h (2 * n) (2 * k) (node_holds n ln un) (node_holds k lk uk) (λ z. apart (omega arith)) cells exchange_lists
      (λ x p e. h.sorted k lk) (λ x p e. h.sorted n ln)

  exchange_counted : (i : Item) → counted s m' i ≡ counted s m i
  unfolding in_chain sum held_exchanged exchange_held exchange_lists
  exchange_counted i =
      let same = same_item i in
      counts s m' own exchange_held same
      ∙ ap (λ cell. sum (λ x. among same (items cell (exchange_lists.lists (2 * x)))) (node_count s)) cells
      ∙ sum_exchange (in_chain m.cell h.list same) (in_chain m.cell exchange_lists.lists same)
      (node_count s) n k ln un lk uk apart
      (ap (λ l. among same (items m.cell l)) exchange_lists.list_o)
      (ap (λ l. among same (items m.cell l)) exchange_lists.list_q)
      (λ x p q. ap (λ l. among same (items m.cell l)) (list_x x p q))
      ∙ sym (counts s m own h same)

  pub held_exchange : Held s m' own all × ((i : Item) → counted s m' i ≡ counted s m i)
  held_exchange = (exchange_held, exchange_counted)

-- A detaching: the root's list becomes what thread t holds, which held nothing.
module _ (s : Shape) (m m' : Shared) (own own' : ℕ → ℕ) {all : ℕ} (h : Held s m own all) (t : ℕ) (lt : 1 ≤ t) (ut : t ≤ s.threads)
    (root : 1 ≤ node_count s) (none : own t ≡ 0) (cells : m'.cell ≡ m.cell) (free : m'.free ≡ m.free) (emptied : (m'.node 1).first ≡ 0)
    (elsewhere : (x : ℕ) → (x ≡ 1 → ⊥) → (m'.node x).first ≡ (m.node x).first) (now : own' t ≡ (m.node 1).first)
    (still : (u : ℕ) → (u ≡ t → ⊥) → own' u ≡ own u) where
  detach_lists : Exchanged m.cell (heads m'.free m'.node own') h.list 2 (2 * t + 1)
  detach_lists =
      exchange m.cell h.owner h.rank (heads m.free m.node own) (heads m'.free m'.node own') h.list h.chains
      2 (2 * t + 1) (λ z. omega arith)
      (head_node m'.free m'.node own' 1 (omega arith) ∙ emptied ∙ sym none ∙ sym (head_thread m.free m.node own t))
      (head_thread m'.free m'.node own' t ∙ now ∙ sym (head_node m.free m.node own 1 (omega arith)))
      (λ x a b. head_still m.free m.node own m'.free m'.node own' x (λ z. free)
      (λ y p e. elsewhere y (λ z. a (e ∙ ap (λ k. 2 * k) z))) (λ u e. still u (λ z. b (e ∙ ap (λ k. 2 * k + 1) z))))

  held_nothing : h.list (2 * t + 1) ≡ []
  held_nothing = no_cells (thread_chain s m own h t) none

  detach_held : Held s m' own' all
  unfolding items
  detach_held =
      held_exchanged s m m' own own' h 2 (2 * t + 1) (node_holds 1 (omega arith) root) (thread_holds t lt ut) (λ z. omega arith) cells detach_lists
      (λ n p e. subst (λ l. Sorted (items m.cell l)) (sym held_nothing) tt) (λ n p e. absurd (omega arith))

  -- the list's copies leave the count
  detach_counted : (i : Item) → counted s m i ≡ counted s m' i + among (same_item i) (items m.cell (h.list 2))
  unfolding in_chain sum among items held_exchanged detach_held detach_lists
  detach_counted i =
      let same = same_item i in
      let a = sum_but (in_chain m.cell h.list same) (in_chain m.cell detach_lists.lists same) (node_count s) 1 (omega arith) root
      (λ x p q. ap (λ l. among same (items m.cell l)) (detach_lists.list_x (2 * x) (λ z. q (omega arith)) (λ z. omega arith))) in
      let b : in_chain m.cell detach_lists.lists same 1 ≡ 0 =
      ap (λ l. among same (items m.cell l)) (detach_lists.list_o ∙ held_nothing) in
      let c : counted s m' i ≡ sum (in_chain m.cell detach_lists.lists same) (node_count s) =
      counts s m' own' detach_held same
      ∙ ap (λ cell. sum (λ x. among same (items cell (detach_lists.lists (2 * x)))) (node_count s)) cells in
      omega (arith, c, counts s m own h same, a, b)

  pub held_detach : Held s m' own' all × ((i : Item) → counted s m i ≡ counted s m' i + among (same_item i) (items m.cell (h.list 2)))
  held_detach = (detach_held, detach_counted)
