-- Bytes in range under a frame are read as records in range. Storing such records keeps the bytes in range, and a readable region
-- readable. Assumes nothing.
use Prim.Native.Nat.{ℕ, zero, suc, ◌+◌, ◌-◌, ◌*◌, ◌^◌, ◌≤◌, ◌<◌}
use native.Mathlib.Decide.{ℕ_discrete}
use native.Mathlib.Omega.{arith}
use mathlib.Core.Path.{◌≡◌, refl, sym, ap, subst, subst₂, subst₃, ◌∙◌}
use mathlib.Core.Logic.{⊎_elim, inl, inr}
use mathlib.Core.Bool.{Bool, true, false, ◌&&◌}
use mathlib.Core.List.{List, [], ◌∷◌, ◌++◌}
use borrow.Author.Tests.{leb-true, le-leb}
use lib.Dec.{leb}
use lib.ListN.{drop, length, get_or}
use lib.Pow.{pow_mono}
use Rattle.words.specs.Word.{word, words_at}
use Rattle.words.specs.Inner.{Fit}
use Rattle.words.proofs.Laws.{word_among, word_same}
use Rattle.region.specs.Frame.{frame_of_width, nodes_of, cells_of, threads_of}
use Rattle.region.specs.declared.part.Part.{Part}
use Rattle.region.specs.Inner.{CopyFits, Framed, InRange, NodeFits, ThreadFits, Width, one_word, two_words, greatest_high}
use Rattle.region.specs.Level.{level}
use Rattle.region.specs.Pick.{pick}
use Rattle.region.specs.Place.{place_number, place_of, waiting_levels}
use Rattle.region.specs.Record.{counter_size, node_size, copy_size, greatest_tag, node_words, node_at, empty_node, cell_words, cell_at, zero_cell, copy_of, copy_words, copy_at, zero_copy}
use Rattle.region.specs.Shape.{between, node_count}
use Rattle.region.specs.Shared.{Shared, entry, load_entry, node_in, cell_in, thread_in, set_thread_in, set_permission_in, shared_in}
use Rattle.region.specs.Thread.{thread_size, place_word, tries_word, node_word, waiting_word, first_copy_word, second_copy_word, third_copy_word, greatest_permission, field_words, thread_words, idle_thread, thread_at}
use Rattle.region.specs.declared.frame.Frame.{Frame}
use Rattle.region.specs.declared.place.Place.{Place}
use Rattle.region.specs.declared.place.Place.TheVariants.{Idle, ReadDepth, ReadLeaf, ReadAncestor, GrowDepth, ReadTarget, InsertAtRoot, ReadParent, InsertBelow, ReadRoot, RemoveHead, MendReadNode, MendReadDepth, MendReadLeft, MendReadRight, MendSwap, MendClean, ListReadRoot, RemoveList, HandOut}
use Rattle.region.specs.declared.record.Cell.{Cell}
use Rattle.region.specs.declared.record.Node.{Node}
use Rattle.region.specs.declared.record.NodeCopy.{NodeCopy}
use Rattle.region.specs.declared.shape.Shape.{Shape}
use Rattle.region.specs.declared.thread.Thread.{Thread}
use Rattle.region.proofs.Entries.{entry_end, record_within}
use Rattle.region.proofs.Levels.{level_most}
use Rattle.region.proofs.Picks.{pick_good}
use Rattle.region.proofs.Shapes.{and_left, and_right, and_both, between_least, between_most, is_between, sizes}
use Rattle.region.proofs.Threads.{copy_among, copy_long, copy_parts, node_long}
use Rattle.region.proofs.Views.{Kept, Outside, OutsideParts, length-set_permission_in, length-set_thread_in, permission_there, records_outside, shared_set_permission, shared_set_thread, thread_stored_words, word_set_permission, word_set_thread}
use Rattle.readable.specs.Readable.{any_word, greatest_node, greatest_copy, node_maxima, cell_maxima, copy_maxima, field_maxima, thread_maxima, greatest_tries, greatest_waiting, bounded, node_readable, cell_readable, thread_passes, thread_readable, shape_in, frame_in, readable, readable_of_width}
use Rattle.readable.proofs.Laws.{GoodOfWidth, bounded_all, bounded_at, bounded_behind, length_of_width, readable_good}

-- Records in range, with counters of w words.
pub record NodeGood (w cells : ℕ) (n : Node) : Type 0 where
  pub first : n.first ≤ cells
  pub dirty : n.dirty ≤ 1
  pub low : n.low ≤ any_word
  pub high : n.high ≤ any_word
  pub narrow : n.high ≤ greatest_high w

pub record CellGood (cells : ℕ) (c : Cell) : Type 0 where
  pub key : c.item.key < 2 ^ 32
  pub tag : c.item.tag ≤ greatest_tag
  pub next : c.next ≤ cells

pub record CopyGood (w cells : ℕ) (q : NodeCopy) : Type 0 where
  pub node : NodeGood w cells q.node
  pub head : CellGood cells q.head

-- every field of a thread's record but the place
pub record FieldsGood (w : ℕ) (s : Shape) (t : Thread) : Type 0 where
  pub permission : t.permission ≤ greatest_permission
  pub item_key : t.item.key < 2 ^ 32
  pub item_tag : t.item.tag ≤ greatest_tag
  pub own : t.own ≤ s.cells
  pub depth : t.depth ≤ s.depth
  pub leaf : t.search_state.leaf ≤ node_count s
  pub tries : t.search_state.tries ≤ s.threshold
  pub lo : t.search_state.lo ≤ s.depth
  pub hi : t.search_state.hi ≤ s.depth
  pub node : t.node ≤ node_count s
  pub after : t.after ≤ 3
  pub result_key : t.result.key < 2 ^ 32
  pub result_tag : t.result.tag ≤ greatest_tag
  pub first : CopyGood w s.cells t.copies.first
  pub second : CopyGood w s.cells t.copies.second
  pub third : CopyGood w s.cells t.copies.third

abbrev greatest_place : ℕ
greatest_place = place_number HandOut

-- levels above the node's
abbrev pub WaitsAbove : ℕ → ℕ → Type 0
WaitsAbove n w = w ≤ 2 ^ (level n - 1) - 1

-- what the place requires of the record
abbrev pub PlaceGood : Shape → Thread → Place → Type 0
PlaceGood s t Idle = Unit
PlaceGood s t ReadDepth = Unit
PlaceGood s t ReadLeaf = t.search_state.tries < s.threshold
PlaceGood s t ReadAncestor = Unit
PlaceGood s t GrowDepth = Unit
PlaceGood s t ReadTarget = Unit
PlaceGood s t InsertAtRoot = Unit
PlaceGood s t ReadParent = Unit
PlaceGood s t InsertBelow = Unit
PlaceGood s t ReadRoot = Unit
PlaceGood s t RemoveHead = Unit
PlaceGood s t (MendReadNode w) = WaitsAbove t.node w
PlaceGood s t (MendReadDepth w) = WaitsAbove t.node w
PlaceGood s t (MendReadLeft w) = WaitsAbove t.node w
PlaceGood s t (MendReadRight w) = WaitsAbove t.node w
PlaceGood s t (MendSwap w) = WaitsAbove t.node w
PlaceGood s t (MendClean w) = WaitsAbove t.node w
PlaceGood s t ListReadRoot = Unit
PlaceGood s t RemoveList = Unit
PlaceGood s t HandOut = Unit

pub record ThreadGood (w : ℕ) (s : Shape) (t : Thread) : Type 0 where
  pub fields : FieldsGood w s t
  pub place : PlaceGood s t t.place

-- Lists whose elements are at most their maxima.
abbrev pub AllLe : List ℕ → List ℕ → Type 0
AllLe [] [] = Unit
AllLe [] (m ∷ ms) = ⊥
AllLe (v ∷ vs) [] = ⊥
AllLe (v ∷ vs) (m ∷ ms) = (v ≤ m) × AllLe vs ms

pub all_at : (vs ms : List ℕ) (i : ℕ) → AllLe vs ms → get_or vs i 0 ≤ get_or ms i 0
all_at [] [] i h = omega arith
all_at [] (m ∷ ms) i h = absurd h
all_at (v ∷ vs) [] i h = absurd h
all_at (v ∷ vs) (m ∷ ms) zero h = h.0
all_at (v ∷ vs) (m ∷ ms) (suc i) h = all_at vs ms i h.1

pub all_fit : (vs ms : List ℕ) → AllLe vs ms → Fit ms → Fit vs
all_fit [] [] h f = tt
all_fit [] (m ∷ ms) h f = absurd h
all_fit (v ∷ vs) [] h f = absurd h
all_fit (v ∷ vs) (m ∷ ms) h f = (omega (arith, h.0, f.0), all_fit vs ms h.1 f.1)

pub below_any : {n : ℕ} → n < 2 ^ 32 → n ≤ any_word
below_any h = omega arith

number_most : (p : Place) → place_number p ≤ greatest_place
number_most Idle = omega arith
number_most ReadDepth = omega arith
number_most ReadLeaf = omega arith
number_most ReadAncestor = omega arith
number_most GrowDepth = omega arith
number_most ReadTarget = omega arith
number_most InsertAtRoot = omega arith
number_most ReadParent = omega arith
number_most InsertBelow = omega arith
number_most ReadRoot = omega arith
number_most RemoveHead = omega arith
number_most (MendReadNode w) = omega arith
number_most (MendReadDepth w) = omega arith
number_most (MendReadLeft w) = omega arith
number_most (MendReadRight w) = omega arith
number_most (MendSwap w) = omega arith
number_most (MendClean w) = omega arith
number_most ListReadRoot = omega arith
number_most RemoveList = omega arith
number_most HandOut = omega arith

-- the two rules that depend on the place
tries_rule : (s : Shape) (t : Thread) (p : Place) → t.search_state.tries ≤ s.threshold → PlaceGood s t p
    → t.search_state.tries ≤ greatest_tries s (place_number p)
unfolding greatest_tries pick
tries_rule s t Idle h g = h
tries_rule s t ReadDepth h g = h
tries_rule s t ReadLeaf h g = omega arith
tries_rule s t ReadAncestor h g = h
tries_rule s t GrowDepth h g = h
tries_rule s t ReadTarget h g = h
tries_rule s t InsertAtRoot h g = h
tries_rule s t ReadParent h g = h
tries_rule s t InsertBelow h g = h
tries_rule s t ReadRoot h g = h
tries_rule s t RemoveHead h g = h
tries_rule s t (MendReadNode w) h g = h
tries_rule s t (MendReadDepth w) h g = h
tries_rule s t (MendReadLeft w) h g = h
tries_rule s t (MendReadRight w) h g = h
tries_rule s t (MendSwap w) h g = h
tries_rule s t (MendClean w) h g = h
tries_rule s t ListReadRoot h g = h
tries_rule s t RemoveList h g = h
tries_rule s t HandOut h g = h

waiting_rule : (s : Shape) (t : Thread) (p : Place) → PlaceGood s t p → waiting_levels p ≤ greatest_waiting (place_number p) t.node
unfolding greatest_waiting between pick
waiting_rule s t Idle g = omega arith
waiting_rule s t ReadDepth g = omega arith
waiting_rule s t ReadLeaf g = omega arith
waiting_rule s t ReadAncestor g = omega arith
waiting_rule s t GrowDepth g = omega arith
waiting_rule s t ReadTarget g = omega arith
waiting_rule s t InsertAtRoot g = omega arith
waiting_rule s t ReadParent g = omega arith
waiting_rule s t InsertBelow g = omega arith
waiting_rule s t ReadRoot g = omega arith
waiting_rule s t RemoveHead g = omega arith
waiting_rule s t (MendReadNode w) g = g
waiting_rule s t (MendReadDepth w) g = g
waiting_rule s t (MendReadLeft w) g = g
waiting_rule s t (MendReadRight w) g = g
waiting_rule s t (MendSwap w) g = g
waiting_rule s t (MendClean w) g = g
waiting_rule s t ListReadRoot g = omega arith
waiting_rule s t RemoveList g = omega arith
waiting_rule s t HandOut g = omega arith

waiting_few : (s : Shape) (t : Thread) (p : Place) → PlaceGood s t p → waiting_levels p ≤ any_word
unfolding greatest_waiting
waiting_few s t p g =
    let levels = pow_mono {i = level t.node - 1} {j = 31} (omega (arith, level_most t.node)) in
    let few : greatest_waiting (place_number p) t.node ≤ any_word = pick_good (λ x. x ≤ any_word) _ (λ e. omega arith) (λ e. omega arith) in
    omega (arith, waiting_rule s t p g, few)

pub all_both : (vs ms us ns : List ℕ) → AllLe vs ms → AllLe us ns → AllLe (vs ++ us) (ms ++ ns)
all_both [] [] us ns h k = k
all_both [] (m ∷ ms) us ns h k = absurd h
all_both (v ∷ vs) [] us ns h k = absurd h
all_both (v ∷ vs) (m ∷ ms) us ns h k = (h.0, all_both vs ms us ns h.1 k)

node_le : {w : ℕ} → Width w → (cells : ℕ) (n : Node) → NodeGood w cells n → AllLe (node_words w n) (node_maxima w cells)
node_le one_word cells n g = (g.first, (g.dirty, (g.low, tt)))
node_le two_words cells n g = (g.first, (g.dirty, (g.low, (g.high, tt))))

copy_le : {w : ℕ} → Width w → (cells : ℕ) (q : NodeCopy) → CopyGood w cells q → AllLe (copy_words w (q)) (copy_maxima w cells)
copy_le {w} wide cells q g =
    all_both (node_words w q.node) (node_maxima w cells) (cell_words q.head) (cell_maxima cells) (node_le wide cells q.node g.node)
    (below_any g.head.key, (g.head.tag, (g.head.next, tt)))

module _ (s : Shape) (r : InRange s) where
  pub few_cells : s.cells < 2 ^ 32
  few_cells = omega (arith, r, sizes s r.depth_most)

  pub maxima_fit : Fit (field_maxima s)
  maxima_fit = (omega arith, (omega arith, (omega arith, omega (arith, r, sizes s r.depth_most))))

  pub node_fits : {w : ℕ} (n : Node) → NodeGood w s.cells n → NodeFits w n
  node_fits n g =
      record {
        words = (omega (arith, g.first, few_cells), (omega (arith, g.dirty), (omega (arith, g.low), (omega (arith, g.high), tt))));
        high = g.narrow;
      }

  pub cell_fits : (c : Cell) → CellGood s.cells c → Fit (cell_words c)
  cell_fits c g = (g.key, (omega (arith, g.tag), (omega (arith, g.next, few_cells), tt)))

  copy_fits : {w : ℕ} (q : NodeCopy) → CopyGood w s.cells q → CopyFits w q
  copy_fits q g = record { node = node_fits q.node g.node; head = cell_fits q.head g.head }

  module _ {w : ℕ} (t : Thread) (h : ThreadGood w s t) where
    fields_le : AllLe (field_words t) (field_maxima s)
    fields_le =
        let g = h.fields in
        (g.permission, (number_most t.place, (below_any g.item_key, omega (arith, g, waiting_few s t t.place h.place))))

    thread_le : Width w → AllLe (thread_words w t) (thread_maxima w s)
    thread_le wide =
        let c = s.cells in
        let q = t.copies in
        let m = copy_maxima w c in
        let first = copy_words w q.first in
        let second = copy_words w q.second in
        let third = copy_words w q.third in
        all_both (field_words t) (field_maxima s) (first ++ (second ++ third)) (m ++ (m ++ m)) fields_le
        (all_both first m (second ++ third) (m ++ m) (copy_le wide c q.first h.fields.first)
        (all_both second m third m (copy_le wide c q.second h.fields.second) (copy_le wide c q.third h.fields.third)))

    pub thread_fit : ThreadFits w t
    thread_fit =
        record {
          fields = all_fit (field_words t) (field_maxima s) fields_le maxima_fit;
          first = copy_fits t.copies.first h.fields.first;
          second = copy_fits t.copies.second h.fields.second;
          third = copy_fits t.copies.third h.fields.third;
        }

-- Nodes and cells: in range as words, in range as records.
module _ (cells : ℕ) (b : List ℕ) (at : ℕ) where
  first_words : (ms : List ℕ) → bounded b at (cells ∷ 1 ∷ any_word ∷ ms) ≡ true
      → (word b at ≤ cells) × (word b (suc at) ≤ 1) × (word b (suc (suc at)) ≤ any_word) × (bounded b (suc (suc (suc at))) ms ≡ true)
  unfolding bounded
  first_words ms e =
      let r₁ = and_right (leb (word b at) cells) _ e in
      let r₂ = and_right (leb (word b (suc at)) 1) _ r₁ in (
        leb-true (word b at) cells (and_left (leb (word b at) cells) _ e),
        leb-true (word b (suc at)) 1 (and_left (leb (word b (suc at)) 1) _ r₁),
        leb-true (word b (suc (suc at))) any_word (and_left (leb (word b (suc (suc at))) any_word) _ r₂),
        and_right (leb (word b (suc (suc at))) any_word) _ r₂,
      )

  last_word : (k : ℕ) → bounded b k (any_word ∷ []) ≡ true → word b k ≤ any_word
  unfolding bounded
  last_word k e = leb-true (word b k) any_word (and_left (leb (word b k) any_word) true e)

  node_good : {w : ℕ} → Width w → node_readable w cells b at ≡ true → NodeGood w cells (node_at w b at)
  unfolding node_at
  node_good one_word e = let h = first_words [] e in record { first = h.0; dirty = h.1; low = h.2; high = omega arith; narrow = omega arith }
  node_good two_words e =
      let h = first_words (any_word ∷ []) e in
      let high = last_word (suc (suc (suc at))) h.3 in
      record { first = h.0; dirty = h.1; low = h.2; high = high; narrow = high }

  words_bounded : (ms : List ℕ) → word b at ≤ cells → word b (suc at) ≤ 1 → word b (suc (suc at)) ≤ any_word
      → bounded b (suc (suc (suc at))) ms ≡ true → bounded b at (cells ∷ 1 ∷ any_word ∷ ms) ≡ true
  unfolding bounded
  words_bounded ms f d l h =
      and_both (le-leb (word b at) cells f) (and_both (le-leb (word b (suc at)) 1 d) (and_both (le-leb (word b (suc (suc at))) any_word l) h))

  node_bounded : {w : ℕ} → Width w → NodeGood w cells (node_at w b at) → node_readable w cells b at ≡ true
  unfolding node_at bounded
  node_bounded one_word g = words_bounded [] g.first g.dirty g.low refl
  node_bounded two_words g =
      words_bounded (any_word ∷ []) g.first g.dirty g.low (and_both (le-leb (word b (suc (suc (suc at)))) any_word g.high) refl)

  cell_good : cell_readable cells b at ≡ true → CellGood cells (cell_at b at)
  unfolding bounded cell_at
  cell_good e =
      let r₁ = and_right (leb (word b at) any_word) _ e in
      let r₂ = and_right (leb (word b (suc at)) greatest_tag) _ r₁ in
      record {
        key = omega (arith, leb-true (word b at) any_word (and_left (leb (word b at) any_word) _ e));
        tag = leb-true (word b (suc at)) greatest_tag (and_left (leb (word b (suc at)) greatest_tag) _ r₁);
        next = leb-true (word b (suc (suc at))) cells (and_left (leb (word b (suc (suc at))) cells) _ r₂);
      }

  cell_bounded : CellGood cells (cell_at b at) → cell_readable cells b at ≡ true
  unfolding bounded cell_at
  cell_bounded g =
      and_both
      (le-leb (word b at) any_word (below_any g.key))
      (and_both
      (le-leb (word b (suc at)) greatest_tag g.tag)
      (and_both (le-leb (word b (suc (suc at))) cells g.next) refl))

-- a node copy: its node, and its head behind it
copy_good : {w : ℕ} → Width w → (cells : ℕ) (b : List ℕ) (at : ℕ) → bounded b at (copy_maxima w cells) ≡ true → CopyGood w cells (copy_at w b at)
copy_good {w} wide cells b at e =
    let behind : at + length (node_maxima w cells) ≡ at + node_size w = ap (λ k. at + k) (node_long wide (greatest_node cells)) in
    let both : node_readable w cells b at && cell_readable cells b (at + node_size w) ≡ true =
    ap (λ k. node_readable w cells b at && cell_readable cells b k) (sym behind)
    ∙ sym (bounded_behind b (node_maxima w cells) (cell_maxima cells) at) ∙ e in
    subst (CopyGood w cells) (sym (copy_parts wide b at))
    (record {
      node = node_good cells b at wide (and_left (node_readable w cells b at) (cell_readable cells b (at + node_size w)) both);
      head = cell_good cells b (at + node_size w) (and_right (node_readable w cells b at) (cell_readable cells b (at + node_size w)) both);
    })

-- Shared memory in range.
pub record SharedGood (w : ℕ) (s : Shape) (m : Shared) : Type 0 where
  pub node : (n : ℕ) → NodeGood w s.cells (m.node n)
  pub cell : (c : ℕ) → CellGood s.cells (m.cell c)
  pub depth_least : 1 ≤ m.depth
  pub depth_most : m.depth ≤ s.depth
  pub free : m.free ≤ s.cells

pub empty_good : {w : ℕ} (cells : ℕ) → NodeGood w cells empty_node
empty_good cells = record { first = omega arith; dirty = omega arith; low = omega arith; high = omega arith; narrow = omega arith }

pub zero_good : (cells : ℕ) → CellGood cells zero_cell
zero_good cells = record { key = omega arith; tag = omega arith; next = omega arith }

-- a load of a part whose records are all good
load_good : {A : Type 0} (P : A → Type 0) (at : List ℕ → ℕ → A) (none : A) (p : Part) (b : List ℕ)
    → P none → ((i : ℕ) → i < p.count → P (at b (p.start + p.stride * i))) → (k : ℕ) → P (load_entry at none p b k)
unfolding load_entry pick
load_good P at none p b pn h k = go (between 1 k p.count) refl
  where
    go : (q : Bool) → between 1 k p.count ≡ q → P (pick q (at b (entry p k)) none)
    go true e =
        let l = between_least 1 k p.count e in
        let u = between_most 1 k p.count e in
        h (k - 1) (omega arith)
    go false e = pn

-- and back: record i + 1 is the one that is loaded
load_at : {A : Type 0} (at : List ℕ → ℕ → A) (none : A) (p : Part) (b : List ℕ) (i : ℕ) → i < p.count
    → load_entry at none p b (suc i) ≡ at b (p.start + p.stride * i)
unfolding load_entry pick
load_at at none p b i l =
    let e : suc i - 1 ≡ i = omega arith in
    rw (is_between 1 (suc i) p.count (omega arith) l) (ap (λ k. at b (p.start + p.stride * k)) e)

pub good_shared : {w : ℕ} (f : Frame) (b : List ℕ) → GoodOfWidth w f b → SharedGood w f.shape (shared_in f b)
unfolding shared_in node_in cell_in
good_shared {w} f b g =
    let cells = f.shape.cells in
    record {
      node = λ n.
          subst (λ v. NodeGood v cells (node_in f b n)) g.width
          (load_good (NodeGood f.width cells) (node_at f.width) empty_node (nodes_of f) b (empty_good cells)
          (λ i l. node_good cells b _ g.framed.width (g.nodes i l)) n);
      cell = load_good (CellGood cells) cell_at zero_cell (cells_of f) b (zero_good cells) (λ i l. cell_good cells b _ (g.cells i l));
      depth_least = g.depth_least;
      depth_most = g.depth_most;
      free = g.free_most;
    }

-- A frame's bytes are in range where its shape is, its parts lie within them and apart, shared memory is in range and each thread's record
-- passes.
pub make_good : {w : ℕ} (f : Frame) (b : List ℕ) → f.width ≡ w → InRange f.shape → Framed f (length b)
    → SharedGood w f.shape (shared_in f b)
    → ((i : ℕ) → i < f.shape.threads → thread_readable f.width f.shape b (f.threads + f.stride * i) ≡ true) → GoodOfWidth w f b
unfolding shared_in node_in cell_in
make_good {w} f b ew r framed m ts =
    let cells = f.shape.cells in
    record {
      width = ew;
      range = r;
      framed = framed;
      depth_least = m.depth_least;
      depth_most = m.depth_most;
      free_most = m.free;
      nodes = λ i l.
          node_bounded cells b _ framed.width
          (subst (NodeGood f.width cells) (load_at (node_at f.width) empty_node (nodes_of f) b i l)
          (subst (λ v. NodeGood v cells (node_in f b (suc i))) (sym ew) (m.node (suc i))));
      cells = λ i l. cell_bounded cells b _ (subst (CellGood cells) (load_at cell_at zero_cell (cells_of f) b i l) (m.cell (suc i)));
      threads = ts;
    }

-- A thread's record: in range as words, in range as a record.
place_good : (s : Shape) (t : Thread) → 1 ≤ s.threshold → (p w : ℕ) → p ≤ greatest_place → t.search_state.tries ≤ greatest_tries s p
    → w ≤ greatest_waiting p t.node → PlaceGood s t (place_of p w)
unfolding greatest_tries greatest_waiting between pick
place_good s t h zero w l gt gw = tt
place_good s t h (suc zero) w l gt gw = tt
place_good s t h (suc (suc zero)) w l gt gw = omega arith
place_good s t h (suc (suc (suc zero))) w l gt gw = tt
place_good s t h (suc (suc (suc (suc zero)))) w l gt gw = tt
place_good s t h (suc (suc (suc (suc (suc zero))))) w l gt gw = tt
place_good s t h (suc (suc (suc (suc (suc (suc zero)))))) w l gt gw = tt
place_good s t h (suc (suc (suc (suc (suc (suc (suc zero))))))) w l gt gw = tt
place_good s t h (suc (suc (suc (suc (suc (suc (suc (suc zero)))))))) w l gt gw = tt
place_good s t h (suc (suc (suc (suc (suc (suc (suc (suc (suc zero))))))))) w l gt gw = tt
place_good s t h (suc (suc (suc (suc (suc (suc (suc (suc (suc (suc zero)))))))))) w l gt gw = tt
place_good s t h (suc (suc (suc (suc (suc (suc (suc (suc (suc (suc (suc zero))))))))))) w l gt gw = gw
place_good s t h (suc (suc (suc (suc (suc (suc (suc (suc (suc (suc (suc (suc zero)))))))))))) w l gt gw = gw
place_good s t h (suc (suc (suc (suc (suc (suc (suc (suc (suc (suc (suc (suc (suc zero))))))))))))) w l gt gw = gw
place_good s t h (suc (suc (suc (suc (suc (suc (suc (suc (suc (suc (suc (suc (suc (suc zero)))))))))))))) w l gt gw = gw
place_good s t h (suc (suc (suc (suc (suc (suc (suc (suc (suc (suc (suc (suc (suc (suc (suc zero))))))))))))))) w l gt gw = gw
place_good s t h (suc (suc (suc (suc (suc (suc (suc (suc (suc (suc (suc (suc (suc (suc (suc (suc zero)))))))))))))))) w l gt gw = gw
place_good s t h (suc (suc (suc (suc (suc (suc (suc (suc (suc (suc (suc (suc (suc (suc (suc (suc (suc zero))))))))))))))))) w l gt gw = tt
place_good s t h (suc (suc (suc (suc (suc (suc (suc (suc (suc (suc (suc (suc (suc (suc (suc (suc (suc (suc zero)))))))))))))))))) w l gt gw = tt
place_good s t h (suc (suc (suc (suc (suc (suc (suc (suc (suc (suc (suc (suc (suc (suc (suc (suc (suc (suc (suc zero))))))))))))))))))) w l gt gw = tt
place_good s t h (suc (suc (suc (suc (suc (suc (suc (suc (suc (suc (suc (suc (suc (suc (suc (suc (suc (suc (suc (suc n)))))))))))))))))))) w l gt gw = absurd (omega arith)

fit : {n : ℕ} → n ≤ any_word → n < 2 ^ 32
fit h = omega arith

module _ {w : ℕ} (wide : Width w) (s : Shape) (r : InRange s) (b : List ℕ) (at : ℕ) (e : thread_readable w s b at ≡ true) where
  words_pass : bounded b at (thread_maxima w s) ≡ true
  unfolding thread_passes
  words_pass = and_left (bounded b at (thread_maxima w s)) _ (and_left (bounded b at (thread_maxima w s) && _) _ e)

  pub tries_pass : word b (at + tries_word) ≤ greatest_tries s (word b (at + place_word))
  unfolding thread_passes
  tries_pass = leb-true _ _ (and_right (bounded b at (thread_maxima w s)) _ (and_left (bounded b at (thread_maxima w s) && _) _ e))

  pub waiting_pass : word b (at + waiting_word) ≤ greatest_waiting (word b (at + place_word)) (word b (at + node_word))
  unfolding thread_passes
  waiting_pass = leb-true _ _ (and_right (bounded b at (thread_maxima w s) && _) _ e)

  -- the words before the copies, and the copies one behind the other
  pub fields_pass : bounded b at (field_maxima s) ≡ true
  fields_pass =
      let c = copy_maxima w s.cells in
      and_left (bounded b at (field_maxima s)) (bounded b (at + first_copy_word) (c ++ (c ++ c)))
      (sym (bounded_behind b (field_maxima s) (c ++ (c ++ c)) at) ∙ words_pass)

  is : (i : ℕ) → i < first_copy_word → get_or (words_at b at (thread_size w)) i 0 ≡ word b (at + i)
  is i l = word_among b at (thread_size w) i (omega arith)

  le : (i : ℕ) → i < first_copy_word → get_or (words_at b at (thread_size w)) i 0 ≤ get_or (field_maxima s) i 0
  le i l =
      subst (λ x. x ≤ get_or (field_maxima s) i 0) (sym (is i l))
      (bounded_at b (field_maxima s) at i fields_pass l)

  pub copies_pass : bounded b (at + first_copy_word) (copy_maxima w s.cells)
      && (bounded b (at + second_copy_word w) (copy_maxima w s.cells) && bounded b (at + third_copy_word w) (copy_maxima w s.cells)) ≡ true
  copies_pass =
      let c = copy_maxima w s.cells in
      let long : length c ≡ copy_size w = copy_long wide (greatest_copy s.cells) in
      let k₂ : at + first_copy_word + length c ≡ at + second_copy_word w = omega (arith, long) in
      let k₃ : at + second_copy_word w + length c ≡ at + third_copy_word w = omega (arith, long) in
      let all = and_right (bounded b at (field_maxima s)) (bounded b (at + first_copy_word) (c ++ (c ++ c)))
      (sym (bounded_behind b (field_maxima s) (c ++ (c ++ c)) at) ∙ words_pass) in
      ap (λ q. bounded b (at + first_copy_word) c && q)
      (ap (λ k. bounded b (at + second_copy_word w) c && bounded b k c) (sym k₃)
      ∙ sym (bounded_behind b c c (at + second_copy_word w))
      ∙ ap (λ k. bounded b k (c ++ c)) (sym k₂))
      ∙ sym (bounded_behind b c (c ++ c) (at + first_copy_word))
      ∙ all

  copy_at_good : (k : ℕ) → k + copy_size w ≤ thread_size w → bounded b (at + k) (copy_maxima w s.cells) ≡ true
      → CopyGood w s.cells (copy_of w (words_at b at (thread_size w)) k)
  copy_at_good k l h = subst (CopyGood w s.cells) (copy_among wide b at (thread_size w) k l) (copy_good wide s.cells b (at + k) h)

  fields_good : FieldsGood w s (thread_at w b at)
  unfolding thread_at
  fields_good =
      let c = copy_maxima w s.cells in
      let first = bounded b (at + first_copy_word) c in
      let second = bounded b (at + second_copy_word w) c in
      let third = bounded b (at + third_copy_word w) c in
      let rest = and_right first (second && third) copies_pass in
      record {
        permission = le 0 (omega arith);
        item_key = fit (le 2 (omega arith));
        item_tag = le 3 (omega arith);
        own = le 4 (omega arith);
        depth = le 5 (omega arith);
        leaf = le 6 (omega arith);
        tries = le tries_word (omega arith);
        lo = le 8 (omega arith);
        hi = le 9 (omega arith);
        node = le node_word (omega arith);
        after = le 12 (omega arith);
        result_key = fit (le 13 (omega arith));
        result_tag = le 14 (omega arith);
        first = copy_at_good first_copy_word (omega arith) (and_left first (second && third) copies_pass);
        second = copy_at_good (second_copy_word w) (omega arith) (and_left second third rest);
        third = copy_at_good (third_copy_word w) (omega arith) (and_right second third rest);
      }

  place_of_good : PlaceGood s (thread_at w b at) (thread_at w b at).place
  unfolding thread_at
  place_of_good =
      let place = is place_word (omega arith) in
      place_good s (thread_at w b at) r.threshold_least _ _ (le place_word (omega arith))
      (subst₂ (λ x y. x ≤ greatest_tries s y) (sym (is tries_word (omega arith))) (sym place) tries_pass)
      (subst₃ (λ x y z. x ≤ greatest_waiting y z) (sym (is waiting_word (omega arith))) (sym place) (sym (is node_word (omega arith))) waiting_pass)

  thread_good : ThreadGood w s (thread_at w b at)
  thread_good = record { fields = fields_good; place = place_of_good }

zero_copy_good : {w : ℕ} (cells : ℕ) → CopyGood w cells zero_copy
zero_copy_good cells = record { node = empty_good cells; head = zero_good cells }

pub idle_good : {w : ℕ} (s : Shape) (p : ℕ) → p ≤ greatest_permission → ThreadGood w s (idle_thread p)
idle_good s p h =
    record {
      fields =
          record {
            permission = h;
            item_key = omega arith;
            item_tag = omega arith;
            own = omega arith;
            depth = omega arith;
            leaf = omega arith;
            tries = omega arith;
            lo = omega arith;
            hi = omega arith;
            node = omega arith;
            after = omega arith;
            result_key = omega arith;
            result_tag = omega arith;
            first = zero_copy_good s.cells;
            second = zero_copy_good s.cells;
            third = zero_copy_good s.cells;
          };
      place = tt;
    }

pub good_thread : {w : ℕ} (f : Frame) (b : List ℕ) → GoodOfWidth w f b → (t : ℕ) → ThreadGood w f.shape (thread_in f b t)
unfolding thread_in
good_thread {w} f b g t =
    subst (λ v. ThreadGood v f.shape (thread_in f b t)) g.width
    (load_good (ThreadGood f.width f.shape) (thread_at f.width) (idle_thread 0) (threads_of f) b (idle_good f.shape 0 (omega arith))
    (λ i l. thread_good g.framed.width f.shape g.range b _ (g.threads i l)) t)

pub maxima_long : {w : ℕ} → Width w → (s : Shape) → length (thread_maxima w s) ≡ thread_size w
maxima_long one_word s = refl
maxima_long two_words s = refl

-- A thread's record passes by its own words alone.
bounded_reads : (b b' ms : List ℕ) (at : ℕ) → ((j : ℕ) → at ≤ j → j < at + length ms → word b' j ≡ word b j)
    → bounded b' at ms ≡ bounded b at ms
unfolding bounded
bounded_reads b b' [] at h = refl
bounded_reads b b' (m ∷ ms) at h =
    cc
    (h at (omega arith) (omega arith), bounded_reads b b' ms (suc at) (λ j l u. h j (omega arith) (omega arith)))

pub thread_reads : {w : ℕ} → Width w → (s : Shape) (b b' : List ℕ) (at : ℕ)
    → ((j : ℕ) → at ≤ j → j < at + thread_size w → word b' j ≡ word b j) → thread_readable w s b' at ≡ thread_readable w s b at
unfolding thread_passes
thread_reads {w} wide s b b' at h =
    let long : length (thread_maxima w s) ≡ thread_size w = maxima_long wide s in
    rw (
      bounded_reads b b' (thread_maxima w s) at (λ j l u. h j l (omega (arith, u, long))),
      h (at + tries_word) (omega arith) (omega arith),
      h (at + place_word) (omega arith) (omega arith),
      h (at + waiting_word) (omega arith) (omega arith),
      h (at + node_word) (omega arith) (omega arith),
    )
    refl

-- What a store to a frame's parts keeps: the fields stay in range, the bytes are as many, and those outside the parts are the same.
pub record KeepsOfWidth (w : ℕ) (f : Frame) (b b' : List ℕ) : Type 0 where
  pub good : GoodOfWidth w f b'
  pub long : length b' ≡ length b
  pub outside : (j : ℕ) → OutsideParts f j → word b' j ≡ word b j

abbrev pub Keeps : Frame → List ℕ → List ℕ → Type 0
Keeps f b b' = KeepsOfWidth counter_size f b b'

pub keeps_same : {w : ℕ} {f : Frame} {b : List ℕ} → GoodOfWidth w f b → KeepsOfWidth w f b b
keeps_same g = record { good = g; long = refl; outside = λ j o. refl }

pub keeps_more : {w : ℕ} {f : Frame} {b b' b'' : List ℕ} → KeepsOfWidth w f b b' → KeepsOfWidth w f b' b'' → KeepsOfWidth w f b b''
keeps_more k l = record { good = l.good; long = l.long ∙ k.long; outside = λ j o. l.outside j o ∙ k.outside j o }

-- the threads' records pass where their words stay
pub threads_pass : {w : ℕ} (f : Frame) (b b' : List ℕ) → GoodOfWidth w f b → Kept (threads_of f) b b'
    → (i : ℕ) → i < f.shape.threads → thread_readable f.width f.shape b' (f.threads + f.stride * i) ≡ true
threads_pass f b b' g h i l =
    let within = record_within (threads_of f) i l in
    thread_reads g.framed.width f.shape b b' (f.threads + f.stride * i)
    (λ j lo hi. h j (omega (arith, lo)) (omega (arith, hi, within, g.framed.stride)))
    ∙ g.threads i l

-- Bytes `after` that change the words of thread t's record alone, and in which that passes.
module _ {w : ℕ} (f : Frame) (b : List ℕ) (g : GoodOfWidth w f b) (t : ℕ) (l : 1 ≤ t) (u : t ≤ f.shape.threads) (after : List ℕ)
    (long : length after ≡ length b) (shared : shared_in f after ≡ shared_in f b)
    (only : (j : ℕ) → Outside (entry (threads_of f) t) (thread_size f.width) j → word after j ≡ word b j)
    (passes : thread_readable f.width f.shape after (entry (threads_of f) t) ≡ true) where
  other_passes : (i : ℕ) → (suc i ≡ t → ⊥)
      → thread_readable f.width f.shape after (f.threads + f.stride * i) ≡ thread_readable f.width f.shape b (f.threads + f.stride * i)
  other_passes i n =
      let e : suc i - 1 ≡ i = omega arith in
      thread_reads g.framed.width f.shape b after (f.threads + f.stride * i) λ j lo hi.
      only j
      (records_outside (threads_of f) (suc i) t (thread_size f.width) (omega arith) l n g.framed.stride j
      (subst (λ k. f.threads + f.stride * k ≤ j) (sym e) lo) (subst (λ k. j < f.threads + f.stride * k + thread_size f.width) (sym e) hi))

  all_pass : (i : ℕ) → i < f.shape.threads → Dec (suc i ≡ t) → thread_readable f.width f.shape after (f.threads + f.stride * i) ≡ true
  all_pass i h (yes e) =
      let k : t - 1 ≡ i = omega arith in
      subst (λ x. thread_readable f.width f.shape after (f.threads + f.stride * x) ≡ true) k passes
  all_pass i h (no n) = other_passes i n ∙ g.threads i h

  keeps_record : KeepsOfWidth w f b after
  keeps_record =
      record {
        good =
            make_good f after g.width g.range (subst (Framed f) (sym long) g.framed) (subst (SharedGood w f.shape) (sym shared) (good_shared f b g))
            (λ i h. all_pass i h (ℕ_discrete (suc i) t));
        long = long;
        outside = λ j o.
            let end = entry_end (threads_of f) t (λ z. omega arith) u in
            only j (⊎_elim (λ h. inl (omega arith)) (λ h. inr (omega (arith, end, g.framed.stride))) o.threads);
      }

-- Storing a thread's record in range.
module _ {w : ℕ} (f : Frame) (b : List ℕ) (g : GoodOfWidth w f b) (t : ℕ) (l : 1 ≤ t) (u : t ≤ f.shape.threads) (v : Thread)
    (gv : ThreadGood w f.shape v) where
  abbrev s : Shape
  s = f.shape

  abbrev at : ℕ
  at = entry (threads_of f) t

  abbrev after : List ℕ
  after = set_thread_in f b t v

  abbrev ms : List ℕ
  ms = thread_maxima f.width s

  -- the record, by the frame's own width
  here : ThreadGood f.width s v
  here = subst (λ x. ThreadGood x s v) (sym g.width) gv

  stored_word : (i : ℕ) → i < thread_size f.width → word after (at + i) ≡ get_or (thread_words f.width v) i 0
  stored_word i h = thread_stored_words f b g.framed t i v l u (thread_fit s g.range v here) h

  stored_passes : thread_readable f.width s after at ≡ true
  unfolding thread_passes
  stored_passes =
      let place = sym (stored_word place_word (omega arith)) in
      and_both
      (and_both
      (bounded_all after ms at λ i h.
      subst (λ x. x ≤ get_or ms i 0) (sym (stored_word i (subst (λ n. i < n) (maxima_long g.framed.width s) h)))
      (all_at (thread_words f.width v) ms i (thread_le s g.range v here g.framed.width)))
      (le-leb _ _
      (subst₂ (λ x y. x ≤ greatest_tries s y) (sym (stored_word tries_word (omega arith))) place
      (tries_rule s v v.place gv.fields.tries gv.place))))
      (le-leb _ _
      (subst₃ (λ x y z. x ≤ greatest_waiting y z) (sym (stored_word waiting_word (omega arith))) place
      (sym (stored_word node_word (omega arith))) (waiting_rule s v v.place gv.place)))

  pub keeps_set_thread : KeepsOfWidth w f b after
  keeps_set_thread =
      keeps_record f b g t l u after (length-set_thread_in f b t v) (shared_set_thread f b g.framed t v)
      (λ j o. word_set_thread f b g.framed t j v o) stored_passes

-- Storing a thread's permission in range: a record that passes does so with another first word.
first_bounded : (b b' : List ℕ) (at m : ℕ) (ms : List ℕ) → ((j : ℕ) → (j ≡ at → ⊥) → word b' j ≡ word b j) → word b' at ≤ m
    → bounded b at (m ∷ ms) ≡ true → bounded b' at (m ∷ ms) ≡ true
unfolding bounded
first_bounded b b' at m ms same first h =
    and_both (le-leb (word b' at) m first)
    (bounded_reads b b' ms (suc at) (λ j l u. same j (λ e. omega arith)) ∙ and_right (leb (word b at) m) (bounded b (suc at) ms) h)

and_instead : (x y a c : Bool) → (x ≡ true → y ≡ true) → x && a && c ≡ true → y && a && c ≡ true
and_instead x y a c h e =
    let left = and_left (x && a) c e in
    and_both (and_both (h (and_left x a left)) (and_right x a left)) (and_right (x && a) c e)

first_passes : (w : ℕ) (s : Shape) (b b' : List ℕ) (at : ℕ) → ((j : ℕ) → (j ≡ at → ⊥) → word b' j ≡ word b j) → word b' at ≤ greatest_permission
    → thread_readable w s b at ≡ true → thread_readable w s b' at ≡ true
unfolding thread_passes
first_passes w s b b' at same first h =
    rw (
      same (at + tries_word) (λ e. omega arith),
      same (at + place_word) (λ e. omega arith),
      same (at + waiting_word) (λ e. omega arith),
      same (at + node_word) (λ e. omega arith),
    )
    (and_instead (bounded b at (thread_maxima w s)) (bounded b' at (thread_maxima w s)) _ _ (first_bounded b b' at greatest_permission (drop 1 (thread_maxima w s)) same first) h)

pub keeps_set_permission : {w : ℕ} (f : Frame) (b : List ℕ) → GoodOfWidth w f b → (t p : ℕ) → 1 ≤ t → t ≤ f.shape.threads → p ≤ greatest_permission
    → KeepsOfWidth w f b (set_permission_in f b t p)
keeps_set_permission f b g t p l u few =
    let at = entry (threads_of f) t in
    let after = set_permission_in f b t p in
    let end = entry_end (threads_of f) t (λ z. omega arith) u in
    let stored : word after at ≡ p =
    ap (λ x. word x at) (permission_there f b g.framed t p l u)
    ∙ word_same b at p (omega (arith, end, g.framed.stride, g.framed.threads)) (omega (arith, few))
    in
    keeps_record f b g t l u after (length-set_permission_in f b t p) (shared_set_permission f b g.framed t p l u)
    (λ j o. word_set_permission f b t j p (λ e. ⊎_elim (λ h. omega arith) (λ h. omega arith) o))
    (first_passes f.width f.shape b after at (λ j n. word_set_permission f b t j p n) (subst (λ x. x ≤ greatest_permission) (sym stored) few)
    (g.threads (t - 1) (omega arith)))

-- The readable region of one queue: its shape and length stay, since the first words lie outside the parts, and so it stays readable.
head_outside : (w : ℕ) (s : Shape) (k : ℕ) → k < 4 → OutsideParts (frame_of_width w s) k
unfolding frame_of_width
head_outside w s k h =
    record {
      shared = record { depth = inl h; free = inl (omega arith); nodes = inl (omega arith); cells = inl (omega arith) };
      threads = inl (omega arith);
    }

module _ {w : ℕ} (wide : Width w) (b b' : List ℕ) (e : readable_of_width w b ≡ true) (k : KeepsOfWidth w (frame_of_width w (shape_in b)) b b') where
  pub shape_stays : shape_in b' ≡ shape_in b
  shape_stays =
      let h : (j : ℕ) → j < 4 → word b' j ≡ word b j = λ j l. k.outside j (head_outside w (shape_in b) j l) in
      λ i. record {
        depth = h 0 (omega arith) i;
        cells = h 1 (omega arith) i;
        threads = h 2 (omega arith) i;
        threshold = h 3 (omega arith) i;
      }

  pub stays_readable : readable_of_width w b' ≡ true
  stays_readable = readable_good (shape_in b) b' shape_stays (k.long ∙ length_of_width wide b e) k.good

module _ (b b' : List ℕ) (e : readable b ≡ true) (k : Keeps (frame_in b) b b') where
  pub shape_kept : shape_in b' ≡ shape_in b
  shape_kept = shape_stays two_words b b' e k

  pub readable_kept : readable b' ≡ true
  readable_kept = stays_readable two_words b b' e k
