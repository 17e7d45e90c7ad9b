-- A laid-out region, read through its frame: every node is empty, the cells chain as free, and every thread is idle with the permission
-- that layout gave it. Assumes nothing.
use Prim.Native.Nat.{ℕ, zero, suc, ◌+◌, ◌-◌, ◌*◌, ◌/◌, ◌%◌, ◌≤◌, ◌<◌}
use native.Mathlib.Decide.{dec_lt}
use native.Mathlib.Omega.{arith}
use mathlib.Core.Path.{◌≡◌, refl, sym, ap, ◌∙◌}
use mathlib.Core.Bool.{Bool, true, false, ◌&&◌, true≢false}
use mathlib.Core.List.{List, [], ◌∷◌}
use borrow.Author.Tests.{eq-eqb, ne_eqb, lt-ltb, le-ltb, le-leb, ltb-true}
use lib.Dec.{leb, ltb}
use lib.ListN.{length, get_or, replicate}
use Rattle.words.specs.Word.{word, words_at}
use Rattle.region.specs.Refusal.{done}
use Rattle.region.specs.Frame.{frame_of, frame_of_width, nodes_of}
use Rattle.region.specs.Pick.{pick}
use Rattle.region.specs.Record.{counter_size, node_size, cell_size, node_of, node_at, empty_node, cell_at, zero_item}
use Rattle.region.specs.Shape.{between, node_count, region_words_of_width}
use Rattle.region.specs.Shared.{entry, load_entry, node_in, cell_in, thread_in, shared_in}
use Rattle.region.specs.Thread.{thread_size, thread_at, thread_of, idle_thread}
use Rattle.region.specs.declared.record.Cell.{Cell}
use Rattle.region.specs.declared.record.Node.{Node}
use Rattle.region.specs.declared.shape.Shape.{Shape}
use Rattle.region.proofs.Picks.{pick_good}
use Rattle.region.proofs.Shapes.{and_right, between_least, between_most, is_between}
use Rattle.layout.specs.Layout.{layout_refusal, layout_bytes, next_word, cell_word, thread_word}
use Rattle.layout.specs.Theorems.{LayoutReads, ReadsAsLaidOut}
use Rattle.layout.proofs.Laws.{thread_word_rest, laid_length, header, node_word, cell_word_lem, thread_word_lem}

-- the chain of free cells: behind cell c comes c + 1, and cell C, like a number that is no cell, ends it
unfoldable pub next_free : ℕ → ℕ → ℕ
next_free cells c = pick (leb 1 c && ltb c cells) (c + 1) 0

pub next_in_chain : (cells c : ℕ) → 1 ≤ c → c < cells → next_free cells c ≡ c + 1
unfolding next_free pick
next_in_chain cells c l u = rw (le-leb 1 c l, lt-ltb c cells u) refl

pub next_past : (cells c : ℕ) → cells ≤ c → next_free cells c ≡ 0
unfolding next_free pick
next_past cells c h = ap (λ q. pick (leb 1 c && q) (c + 1) 0) (le-ltb c cells h) ∙ last (leb 1 c)
  where
    last : (q : Bool) → pick (q && false) (c + 1) 0 ≡ 0
    last true = refl
    last false = refl

pub next_of_none : (cells c : ℕ) → between 1 c cells ≡ false → next_free cells c ≡ 0
unfolding next_free pick
next_of_none cells zero h = refl
next_of_none cells (suc c) h = go (dec_lt (suc c) cells)
  where
    go : Dec (suc c < cells) → next_free cells (suc c) ≡ 0
    go (yes l) = absurd (true≢false (sym (is_between 1 (suc c) cells (omega arith) (omega arith)) ∙ h))
    go (no n) = next_past cells (suc c) (omega arith)

pub next_most : (cells c : ℕ) → next_free cells c ≤ cells
unfolding next_free
next_most cells c =
    pick_good (λ x. x ≤ cells) (leb 1 c && ltb c cells)
    (λ e. omega (arith, ltb-true c cells (and_right (leb 1 c) (ltb c cells) e))) (λ e. omega arith)

-- words in a row that are all 0
zero_words : (b : List ℕ) (n at : ℕ) → ((j : ℕ) → at ≤ j → j < at + n → word b j ≡ 0) → words_at b at n ≡ replicate n 0
zero_words b zero at h = refl
zero_words b (suc n) at h =
    cc (h at (omega arith) (omega arith), zero_words b n (suc at) (λ j l u. h j (omega arith) (omega arith)))

-- the words of cell c + 1
module _ (cells c : ℕ) where
  key_word : cell_word cells (cell_size * c + 0) ≡ 0
  unfolding cell_word pick
  key_word = rw (ne_eqb ((cell_size * c + 0) % cell_size) next_word (λ z. omega arith)) refl

  tag_word : cell_word cells (cell_size * c + 1) ≡ 0
  unfolding cell_word pick
  tag_word = rw (ne_eqb ((cell_size * c + 1) % cell_size) next_word (λ z. omega arith)) refl

  next_word_lem : cell_word cells (cell_size * c + next_word) ≡ next_free cells (c + 1)
  unfolding cell_word next_free pick
  next_word_lem =
      let q : (cell_size * c + next_word) / cell_size ≡ c = omega arith in
      let n : c + 2 ≡ c + 1 + 1 = omega arith in
      rw (eq-eqb ((cell_size * c + next_word) % cell_size) next_word (omega arith), q, le-leb 1 (c + 1) (omega arith), n) refl

permission_word : (ps : List ℕ) (i : ℕ) → thread_word ps (thread_size counter_size * i + 0) ≡ get_or ps i 0
unfolding thread_word pick
permission_word ps i =
    let q : (thread_size counter_size * i + 0) / thread_size counter_size ≡ i = omega arith in
    rw (eq-eqb ((thread_size counter_size * i + 0) % thread_size counter_size) 0 (omega arith), q) refl

module _ (s : Shape) (ps b : List ℕ) (e : layout_refusal s ps (length b) ≡ done) where
  abbrev laid : List ℕ
  laid = layout_bytes s ps b

  pub laid-depth : (shared_in (frame_of s) laid).depth ≡ 1
  unfolding shared_in frame_of_width
  laid-depth = header s ps b e 4 (omega arith)

  pub laid-free : (shared_in (frame_of s) laid).free ≡ 1
  unfolding shared_in frame_of_width
  laid-free = header s ps b e 5 (omega arith)

  pub laid_node : (n : ℕ) → (shared_in (frame_of s) laid).node n ≡ empty_node
  unfolding shared_in node_in load_entry node_at frame_of_width
  laid_node n =
      pick_good (λ (v : Node). v ≡ empty_node) (between 1 n (node_count s))
      (λ h. let l = between_least 1 n (node_count s) h in
      let u = between_most 1 n (node_count s) h in
      ap (λ ws. node_of counter_size ws 0)
      (zero_words laid (node_size counter_size) (entry (nodes_of (frame_of s)) n) λ j lo hi. node_word s ps b e j (omega arith) (omega arith)))
      (λ h. refl)

  -- word j of cell i + 1, and of thread i + 1's record
  cell_part : (i j k : ℕ) → i < s.cells → j < cell_size → k ≡ (frame_of s).cells + cell_size * i + j → word laid k ≡ cell_word s.cells (cell_size * i + j)
  unfolding frame_of_width
  cell_part i j k h l at = cell_word_lem s ps b e k (omega arith) (omega arith) ∙ ap (cell_word s.cells) (omega arith)

  pub thread_part : (i j k : ℕ) → i < s.threads → j < thread_size counter_size → k ≡ (frame_of s).threads + thread_size counter_size * i + j → word laid k ≡ thread_word ps (thread_size counter_size * i + j)
  unfolding frame_of_width region_words_of_width
  thread_part i j k h l at = thread_word_lem s ps b e k (omega arith) (omega arith) ∙ ap (thread_word ps) (omega arith)

  laid_words : (i : ℕ) → i < s.cells
      → cell_at laid ((frame_of s).cells + cell_size * i) ≡ record { item = zero_item; next = next_free s.cells (i + 1) }
  unfolding cell_at
  laid_words i h =
      let at = (frame_of s).cells + cell_size * i in
      let key = cell_part i 0 at h (omega arith) (omega arith) ∙ key_word s.cells i in
      let tag = cell_part i 1 (suc at) h (omega arith) (omega arith) ∙ tag_word s.cells i in
      let next = cell_part i 2 (suc (suc at)) h (omega arith) (omega arith) ∙ next_word_lem s.cells i in
      λ x. record { item = record { key = key x; tag = tag x }; next = next x }

  pub laid_cell : (c : ℕ) → (shared_in (frame_of s) laid).cell c ≡ record { item = zero_item; next = next_free s.cells c }
  unfolding shared_in cell_in load_entry frame_of_width
  laid_cell c =
      pick_good (λ (v : Cell). v ≡ record { item = zero_item; next = next_free s.cells c }) (between 1 c s.cells)
      (λ h. let l = between_least 1 c s.cells h in
      let u = between_most 1 c s.cells h in
      let n : c - 1 + 1 ≡ c = omega arith in
      laid_words (c - 1) (omega arith) ∙ ap (λ k. record { item = zero_item; next = next_free s.cells k }) n)
      (λ h. ap (λ n. record { item = zero_item; next = n }) (sym (next_of_none s.cells c h)))

  record_words : (i : ℕ) → i < s.threads → words_at laid ((frame_of s).threads + thread_size counter_size * i) (thread_size counter_size) ≡ get_or ps i 0 ∷ replicate (thread_size counter_size - 1) 0
  record_words i h =
      let at = (frame_of s).threads + thread_size counter_size * i in
      cc (
        thread_part i 0 at h (omega arith) (omega arith),
        permission_word ps i,
        zero_words laid (thread_size counter_size - 1) (suc at) (λ j lo hi.
            thread_part i (j - at) j h (omega arith) (omega arith) ∙ thread_word_rest ps i (j - at) (omega arith) (omega arith)),
      )

  pub laid_thread : (t : ℕ) → 1 ≤ t → t ≤ s.threads → thread_in (frame_of s) laid t ≡ idle_thread (get_or ps (t - 1) 0)
  unfolding thread_in load_entry thread_at frame_of_width pick
  laid_thread t l u = rw (is_between 1 t s.threads l u) (ap (thread_of counter_size) (record_words (t - 1) (omega arith)))

  pub laid_no_thread : (t : ℕ) → between 1 t s.threads ≡ false → thread_in (frame_of s) laid t ≡ idle_thread 0
  unfolding thread_in load_entry frame_of_width pick
  laid_no_thread t h = rw h refl

  -- cell c, given the cell behind it in the chain
  cell_before : (c n : ℕ) → next_free s.cells c ≡ n → cell_in (frame_of s) laid c ≡ record { item = zero_item; next = n }
  unfolding shared_in
  cell_before c n h = laid_cell c ∙ ap (λ k. record { item = zero_item; next = k }) h

  reads : ReadsAsLaidOut s ps laid
  unfolding shared_in
  reads =
      record {
        exact = laid_length s ps b e;
        shape = λ x. header s ps b e 0 (omega arith) x
            ∷ header s ps b e 1 (omega arith) x
            ∷ header s ps b e 2 (omega arith) x
            ∷ header s ps b e 3 (omega arith) x
            ∷ [];
        depth = laid-depth;
        nodes = laid_node;
        free = laid-free;
        chain = λ c l u. cell_before c (c + 1) (next_in_chain s.cells c l u);
        chain_ends = cell_before s.cells 0 (next_past s.cells s.cells (omega arith));
        threads = laid_thread;
      }

pub layout_reads : LayoutReads
layout_reads = reads
