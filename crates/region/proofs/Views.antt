-- Reading a region after a store. Reading the part that was stored to is the update, and every other part is left alone: of shared
-- memory and of the threads' records, as functions. Assumes nothing.
use Prim.Native.Nat.{ℕ, zero, suc, ◌+◌, ◌-◌, ◌*◌, ◌^◌, ◌≤◌, ◌<◌}
use native.Mathlib.Nat.{mul-le-mul_left}
use native.Mathlib.Decide.{ℕ_discrete, dec_lt}
use native.Mathlib.Omega.{arith}
use mathlib.Core.Path.{◌≡◌, refl, sym, ap, subst, fun_ext, ◌∙◌}
use mathlib.Core.Logic.{◌⊎◌, inl, inr, ⊎_elim}
use mathlib.Core.Bool.{Bool, true, false}
use mathlib.Core.List.{List, ◌∷◌}
use borrow.Author.Tests.{eq-eqb, ne_eqb}
use lib.Dec.{eqb}
use lib.ListN.{length, get_or}
use Rattle.words.specs.Word.{word, set_word, words_at, set_words}
use Rattle.words.specs.Inner.{Fit}
use Rattle.words.proofs.Laws.{word_stored, word_same, word_other, word_apart, words_at_same, words_at_reads, length-set_word, length-set_words}
use Rattle.region.specs.Frame.{nodes_of, cells_of, threads_of}
use Rattle.region.specs.declared.part.Part.{Part}
use Rattle.region.specs.Inner.{Apart, before, behind, Framed, NodeFits, ThreadFits, Width, one_word, two_words, depth_of, free_of, part_size}
use Rattle.region.specs.Pick.{pick, upd}
use Rattle.region.specs.Record.{node_size, cell_size, node_of, node_words, empty_node, node_at, set_node_at, cell_of, cell_words, zero_cell, cell_at, set_cell_at}
use Rattle.region.specs.Shape.{between, node_count}
use Rattle.region.specs.Shared.{entry, load_entry, store_entry, node_in, set_node_in, cell_in, set_cell_in, thread_in, set_thread_in, set_permission_in, shared_in, set_node, set_cell, set_depth, set_free}
use Rattle.region.specs.Thread.{thread_size, thread_of, thread_words, idle_thread, thread_at, set_thread_at, with_permission}
use Rattle.region.specs.declared.frame.Frame.{Frame}
use Rattle.region.specs.declared.record.Cell.{Cell}
use Rattle.region.specs.declared.record.Node.{Node}
use Rattle.region.specs.declared.thread.Thread.{Thread}
use Rattle.region.proofs.Entries.{entry_end}
use Rattle.region.proofs.Shapes.{between_least, between_most, is_between}
use Rattle.region.proofs.Threads.{node_again, node_fit, node_long, thread_again, thread_long, thread_words_fit}

-- Word j is none of the n words from word k on.
abbrev pub Outside : ℕ → ℕ → ℕ → Type 0
Outside k n j = (j < k) ⊎ (k + n ≤ j)

-- A record of `size` words: what is stored is read back, only its words change, and it is read from them alone.
pub record Codec {A : Type 0} (at : List ℕ → ℕ → A) (store : List ℕ → ℕ → A → List ℕ) (fits : A → Type 0) (size : ℕ) : Type 0 where
  pub same : (b : List ℕ) (k : ℕ) (v : A) → 4 * (k + size) ≤ length b → fits v → at (store b k v) k ≡ v
  pub only : (b : List ℕ) (k j : ℕ) (v : A) → Outside k size j → word (store b k v) j ≡ word b j
  pub reads : (b b' : List ℕ) (k : ℕ) → ((j : ℕ) → k ≤ j → j < k + size → word b j ≡ word b' j) → at b k ≡ at b' k

-- any record of `size` words that is read back from them
pub codec : {A : Type 0} (of : List ℕ → A) (words : A → List ℕ) (fits : A → Type 0) (size : ℕ) → ((v : A) → length (words v) ≡ size)
    → ((v : A) → fits v → Fit (words v)) → ((v : A) → fits v → of (words v) ≡ v)
    → Codec (λ b k. of (words_at b k size)) (λ b k v. set_words b k (words v)) fits size
codec of words fits size long fit again =
    record {
      same = λ b k v h f.
          ap (λ n. of (words_at (set_words b k (words v)) k n)) (sym (long v))
          ∙ ap of (words_at_same (words v) b k (subst (λ n. 4 * (k + n) ≤ length b) (sym (long v)) h) (fit v f))
          ∙ again v f;
      only = λ b k j v o. word_apart (words v) b k j (subst (λ n. Outside k n j) (sym (long v)) o);
      reads = λ b b' k h. ap of (words_at_reads b b' k size h);
    }

node_codec : {w : ℕ} → Width w → Codec (node_at w) (set_node_at w) (NodeFits w) (node_size w)
unfolding node_at set_node_at
node_codec {w} wide = codec (λ ws. node_of w ws 0) (node_words w) (NodeFits w) (node_size w) (node_long wide) (node_fit wide) (node_again wide)

cell_codec : Codec cell_at set_cell_at (λ v. Fit (cell_words v)) cell_size
unfolding cell_at set_cell_at
cell_codec = codec (λ ws. cell_of ws 0) cell_words (λ v. Fit (cell_words v)) cell_size (λ v. refl) (λ v f. f) (λ v f. refl)

thread_codec : {w : ℕ} → Width w → Codec (thread_at w) (set_thread_at w) (ThreadFits w) (thread_size w)
unfolding thread_at set_thread_at
thread_codec {w} wide = codec (thread_of w) (thread_words w) (ThreadFits w) (thread_size w) (thread_long wide) (thread_words_fit wide) (thread_again wide)

-- The words of part p are the same in b and in b'.
abbrev pub Kept : Part → List ℕ → List ℕ → Type 0
Kept p b b' = (j : ℕ) → p.start ≤ j → j < p.start + part_size p → word b' j ≡ word b j

-- Two records of one part lie apart.
entries_apart : (p : Part) (k n : ℕ) → 1 ≤ k → k < n → entry p k + p.stride ≤ entry p n
entries_apart p (suc k) (suc n) h l =
    let ek : suc k - 1 ≡ k = omega arith in
    let en : suc n - 1 ≡ n = omega arith in
    let m : suc k ≤ n = omega arith in
    omega (arith, ap (λ m. p.stride * m) ek, ap (λ m. p.stride * m) en, mul-le-mul_left p.stride m)
entries_apart p zero n h l = omega arith
entries_apart p (suc k) zero h l = omega arith

pub records_outside : (p : Part) (k n size : ℕ) → 1 ≤ k → 1 ≤ n → (k ≡ n → ⊥) → size ≤ p.stride
    → (j : ℕ) → entry p k ≤ j → j < entry p k + size → Outside (entry p n) size j
records_outside p k n size lk ln ne room j lo hi = go (dec_lt k n)
  where
    go : Dec (k < n) → Outside (entry p n) size j
    go (yes h) = let s = entries_apart p k n lk h in inl (omega arith)
    go (no h) = let s = entries_apart p n k ln (omega arith) in inr (omega arith)

module _ {A : Type 0} {at : List ℕ → ℕ → A} {store : List ℕ → ℕ → A → List ℕ} {fits : A → Type 0} {size : ℕ}
    (cd : Codec at store fits size) (none : A) (p : Part) (room : size ≤ p.stride) where
  -- a store leaves alone what lies outside its part
  store_only : (b : List ℕ) (n j : ℕ) (v : A) → Outside p.start (part_size p) j → word (store_entry store p b n v) j ≡ word b j
  unfolding store_entry pick
  store_only b n j v o = go (between 1 n p.count) refl
    where
      go : (q : Bool) → between 1 n p.count ≡ q → word (pick q (store b (entry p n) v) b) j ≡ word b j
      go true e =
          let l = between_least 1 n p.count e in
          let u = between_most 1 n p.count e in
          let s = entry_end p n (λ z. omega arith) u in
          cd.only b (entry p n) j v (⊎_elim (λ h. inl (omega arith)) (λ h. inr (omega arith)) o)
      go false e = refl

  -- a store leaves alone what lies outside its record
  record_only : (b : List ℕ) (n j : ℕ) (v : A) → Outside (entry p n) size j → word (store_entry store p b n v) j ≡ word b j
  unfolding store_entry pick
  record_only b n j v o = go (between 1 n p.count)
    where
      go : (q : Bool) → word (pick q (store b (entry p n) v) b) j ≡ word b j
      go true = cd.only b (entry p n) j v o
      go false = refl

  -- a load sees its part alone
  load_kept : (b b' : List ℕ) → Kept p b b' → (k : ℕ) → load_entry at none p b' k ≡ load_entry at none p b k
  unfolding load_entry pick
  load_kept b b' h k = go (between 1 k p.count) refl
    where
      go : (q : Bool) → between 1 k p.count ≡ q → pick q (at b' (entry p k)) none ≡ pick q (at b (entry p k)) none
      go true e =
          let l = between_least 1 k p.count e in
          let u = between_most 1 k p.count e in
          let s = entry_end p k (λ z. omega arith) u in
          cd.reads b' b (entry p k) (λ j lo hi. h j (omega arith) (omega arith))
      go false e = refl

  -- a load after a store within the part is the update
  module _ (b : List ℕ) (n : ℕ) (v : A) (l : 1 ≤ n) (u : n ≤ p.count) where
    store_there : store_entry store p b n v ≡ store b (entry p n) v
    unfolding store_entry pick
    store_there = rw (is_between 1 n p.count l u) refl

    load_same : 4 * (p.start + part_size p) ≤ length b → fits v → load_entry at none p (store b (entry p n) v) n ≡ v
    unfolding load_entry pick
    load_same ends f =
        let s = entry_end p n (λ z. omega arith) u in
        rw (is_between 1 n p.count l u) (cd.same b (entry p n) v (omega arith) f)

    load_other : (k : ℕ) → (k ≡ n → ⊥) → load_entry at none p (store b (entry p n) v) k ≡ load_entry at none p b k
    unfolding load_entry pick
    load_other k ne = go (between 1 k p.count) refl
      where
        go : (q : Bool) → between 1 k p.count ≡ q
            → pick q (at (store b (entry p n) v) (entry p k)) none ≡ pick q (at b (entry p k)) none
        go true e =
            cd.reads (store b (entry p n) v) b (entry p k)
            (λ j lo hi. cd.only b (entry p n) j v (records_outside p k n size (between_least 1 k p.count e) l ne room j lo hi))
        go false e = refl

    load_stored : 4 * (p.start + part_size p) ≤ length b → fits v
        → (k : ℕ) → load_entry at none p (store_entry store p b n v) k ≡ upd (load_entry at none p b) n v k
    unfolding upd pick
    load_stored ends f k = ap (λ x. load_entry at none p x k) store_there ∙ go (ℕ_discrete k n)
      where
        go : Dec (k ≡ n) → load_entry at none p (store b (entry p n) v) k ≡ pick (eqb k n) v (load_entry at none p b k)
        go (yes e) = ap (load_entry at none p (store b (entry p n) v)) e ∙ load_same ends f ∙ rw (eq-eqb k n e) refl
        go (no e) = load_other k e ∙ rw (ne_eqb k n e) refl

  store_none : (b : List ℕ) (n : ℕ) (v : A) → between 1 n p.count ≡ false → store_entry store p b n v ≡ b
  unfolding store_entry pick
  store_none b n v e = rw e refl

  -- the same without the update: what was stored is read back, and a store of any number leaves the others alone
  pub stored_back : (b : List ℕ) (n : ℕ) (v : A) → 1 ≤ n → n ≤ p.count → 4 * (p.start + part_size p) ≤ length b → fits v
      → load_entry at none p (store_entry store p b n v) n ≡ v
  stored_back b n v l u ends f = ap (λ x. load_entry at none p x n) (store_there b n v l u) ∙ load_same b n v l u ends f

  pub stored_apart : (b : List ℕ) (m n : ℕ) (v : A) → (m ≡ n → ⊥)
      → load_entry at none p (store_entry store p b n v) m ≡ load_entry at none p b m
  stored_apart b m n v ne = go (between 1 n p.count) refl
    where
      go : (q : Bool) → between 1 n p.count ≡ q → load_entry at none p (store_entry store p b n v) m ≡ load_entry at none p b m
      go true e =
          let l = between_least 1 n p.count e in
          let u = between_most 1 n p.count e in
          ap (λ x. load_entry at none p x m) (store_there b n v l u) ∙ load_other b n v l u m ne
      go false e = ap (λ x. load_entry at none p x m) (store_none b n v e)

-- What one store of a frame leaves of a part that lies apart from its own.
outside : {p q : Part} → Apart p q → (j : ℕ) → p.start ≤ j → j < p.start + part_size p → Outside q.start (part_size q) j
outside (before h) j l u = inl (omega arith)
outside (behind h) j l u = inr (omega arith)

flip : {p q : Part} → Apart p q → Apart q p
flip (before h) = behind h
flip (behind h) = before h

-- Word j lies outside the parts of shared memory, and outside all parts.
abbrev OutsidePart : Part → ℕ → Type 0
OutsidePart p j = Outside p.start (part_size p) j

pub record OutsideShared (f : Frame) (j : ℕ) : Type 0 where
  pub depth : OutsidePart (depth_of f) j
  pub free : OutsidePart (free_of f) j
  pub nodes : OutsidePart (nodes_of f) j
  pub cells : OutsidePart (cells_of f) j

pub record OutsideParts (f : Frame) (j : ℕ) : Type 0 where
  pub shared : OutsideShared f j
  pub threads : OutsidePart (threads_of f) j

-- a thread's words lie outside shared memory
pub threads_outside : (f : Frame) (l : ℕ) → Framed f l → (j : ℕ) → f.threads ≤ j → j < f.threads + part_size (threads_of f)
    → OutsideShared f j
threads_outside f l framed j lo hi =
    record {
      depth = outside (flip framed.apart.depth_threads) j lo hi;
      free = outside (flip framed.apart.free_threads) j lo hi;
      nodes = outside (flip framed.apart.nodes_threads) j lo hi;
      cells = outside (flip framed.apart.cells_threads) j lo hi;
    }

-- a single word
pub outside_word : {k j : ℕ} → Outside k 1 j → j ≡ k → ⊥
outside_word o = ⊎_elim (λ h. omega arith) (λ h. omega arith) o

module _ (f : Frame) (b : List ℕ) where
  -- what is read of each part, where its words are kept
  nodes_kept : Width f.width → (b' : List ℕ) → Kept (nodes_of f) b b' → node_in f b' ≡ node_in f b
  unfolding node_in
  nodes_kept wide b' h = fun_ext (load_kept (node_codec wide) empty_node (nodes_of f) (omega arith) b b' h)

  cells_kept : (b' : List ℕ) → Kept (cells_of f) b b' → cell_in f b' ≡ cell_in f b
  unfolding cell_in
  cells_kept b' h = fun_ext (load_kept cell_codec zero_cell (cells_of f) (omega arith) b b' h)

  depth_kept : (b' : List ℕ) → Kept (depth_of f) b b' → word b' f.depth ≡ word b f.depth
  depth_kept b' h = h f.depth (omega arith) (omega arith)

  free_kept : (b' : List ℕ) → Kept (free_of f) b b' → word b' f.free ≡ word b f.free
  free_kept b' h = h f.free (omega arith) (omega arith)

  module _ (framed : Framed f (length b)) where
    pub threads_kept : (b' : List ℕ) → Kept (threads_of f) b b' → thread_in f b' ≡ thread_in f b
    unfolding thread_in
    threads_kept b' h = fun_ext (load_kept (thread_codec framed.width) (idle_thread 0) (threads_of f) framed.stride b b' h)

-- What every store of a record keeps is kept by a store of any number; the length, for one.
module _ {A : Type 0} (store : List ℕ → ℕ → A → List ℕ) (p : Part) (P : List ℕ → Type 0)
    (h : (b : List ℕ) (k : ℕ) (v : A) → P b → P (store b k v)) where
  stays : (b : List ℕ) (n : ℕ) (v : A) → P b → P (store_entry store p b n v)
  unfolding store_entry pick
  stays b n v x = go (between 1 n p.count)
    where
      go : (q : Bool) → P (pick q (store b (entry p n) v) b)
      go true = h b (entry p n) v x
      go false = x

pub length-set_node_in : (f : Frame) (b : List ℕ) (n : ℕ) (v : Node) → length (set_node_in f b n v) ≡ length b
unfolding set_node_in set_node_at
length-set_node_in f b n v =
    stays (set_node_at f.width) (nodes_of f) (λ l. length l ≡ length b) (λ l k u e. length-set_words (node_words f.width u) l k ∙ e) b n v refl

pub length-set_cell_in : (f : Frame) (b : List ℕ) (c : ℕ) (v : Cell) → length (set_cell_in f b c v) ≡ length b
unfolding set_cell_in set_cell_at
length-set_cell_in f b c v =
    stays set_cell_at (cells_of f) (λ l. length l ≡ length b) (λ l k u e. length-set_words (cell_words u) l k ∙ e) b c v refl

pub length-set_thread_in : (f : Frame) (b : List ℕ) (t : ℕ) (v : Thread) → length (set_thread_in f b t v) ≡ length b
unfolding set_thread_in set_thread_at
length-set_thread_in f b t v =
    stays (set_thread_at f.width) (threads_of f) (λ l. length l ≡ length b) (λ l k u e. length-set_words (thread_words f.width u) l k ∙ e) b t v refl

-- What each store changes lies within its part.
module _ (f : Frame) (b : List ℕ) (framed : Framed f (length b)) where
  pub word-set_node_in : (n j : ℕ) (v : Node) → Outside (nodes_of f).start (part_size (nodes_of f)) j
      → word (set_node_in f b n v) j ≡ word b j
  unfolding set_node_in
  word-set_node_in n j v o = store_only (node_codec framed.width) empty_node (nodes_of f) (omega arith) b n j v o

  pub word-set_cell_in : (c j : ℕ) (v : Cell) → Outside (cells_of f).start (part_size (cells_of f)) j
      → word (set_cell_in f b c v) j ≡ word b j
  unfolding set_cell_in
  word-set_cell_in c j v o = store_only cell_codec zero_cell (cells_of f) (omega arith) b c j v o

  pub word-set_thread_in : (t j : ℕ) (v : Thread) → Outside (threads_of f).start (part_size (threads_of f)) j
      → word (set_thread_in f b t v) j ≡ word b j
  unfolding set_thread_in
  word-set_thread_in t j v o = store_only (thread_codec framed.width) (idle_thread 0) (threads_of f) framed.stride b t j v o

  -- a record is all that its store changes
  pub word_set_node : (n j : ℕ) (v : Node) → Outside (entry (nodes_of f) n) (node_size f.width) j → word (set_node_in f b n v) j ≡ word b j
  unfolding set_node_in
  word_set_node n j v o = record_only (node_codec framed.width) empty_node (nodes_of f) (omega arith) b n j v o

  pub word_set_cell : (c j : ℕ) (v : Cell) → Outside (entry (cells_of f) c) cell_size j → word (set_cell_in f b c v) j ≡ word b j
  unfolding set_cell_in
  word_set_cell c j v o = record_only cell_codec zero_cell (cells_of f) (omega arith) b c j v o

  pub word_set_thread : (t j : ℕ) (v : Thread) → Outside (entry (threads_of f) t) (thread_size f.width) j → word (set_thread_in f b t v) j ≡ word b j
  unfolding set_thread_in
  word_set_thread t j v o = record_only (thread_codec framed.width) (idle_thread 0) (threads_of f) framed.stride b t j v o

  pub thread_stored_words : (t i : ℕ) (v : Thread) → 1 ≤ t → t ≤ f.shape.threads → ThreadFits f.width v → i < thread_size f.width
      → word (set_thread_in f b t v) (entry (threads_of f) t + i) ≡ get_or (thread_words f.width v) i 0
  unfolding set_thread_in set_thread_at
  thread_stored_words t i v l u g h =
      let s = entry_end (threads_of f) t (λ z. omega arith) u in
      ap (λ x. word x (entry (threads_of f) t + i)) (store_there (thread_codec framed.width) (idle_thread 0) (threads_of f) framed.stride b t v l u)
      ∙ word_stored (thread_words f.width v) b (entry (threads_of f) t) i
      (omega (arith, s, framed.threads, framed.stride, thread_long framed.width v)) (thread_words_fit framed.width v g)
      (omega (arith, h, thread_long framed.width v))

  node_keeps : (n : ℕ) (v : Node) (p : Part) → Apart p (nodes_of f) → Kept p b (set_node_in f b n v)
  node_keeps n v p a j l u = word-set_node_in n j v (outside a j l u)

  cell_keeps : (c : ℕ) (v : Cell) (p : Part) → Apart p (cells_of f) → Kept p b (set_cell_in f b c v)
  cell_keeps c v p a j l u = word-set_cell_in c j v (outside a j l u)

  depth_keeps : (v : ℕ) (p : Part) → Apart p (depth_of f) → Kept p b (set_word b f.depth v)
  depth_keeps v p a j l u = word_other b f.depth j v (outside_word (outside a j l u))

  free_keeps : (v : ℕ) (p : Part) → Apart p (free_of f) → Kept p b (set_word b f.free v)
  free_keeps v p a j l u = word_other b f.free j v (outside_word (outside a j l u))

  -- Reading after a store, of shared memory and of the threads.
  pub shared_set_node : (n : ℕ) (v : Node) → 1 ≤ n → n ≤ node_count f.shape → NodeFits f.width v
      → shared_in f (set_node_in f b n v) ≡ set_node (shared_in f b) n v
  unfolding shared_in set_node_in node_in
  shared_set_node n v l u g =
      let e : node_in f (set_node_in f b n v) ≡ upd (node_in f b) n v =
      fun_ext (load_stored (node_codec framed.width) empty_node (nodes_of f) (omega arith) b n v l u framed.nodes g)
      in
      λ i. record {
        node = e i;
        cell = cells_kept f b (set_node_in f b n v) (node_keeps n v (cells_of f) (flip framed.apart.nodes_cells)) i;
        depth = depth_kept f b (set_node_in f b n v) (node_keeps n v (depth_of f) framed.apart.depth_nodes) i;
        free = free_kept f b (set_node_in f b n v) (node_keeps n v (free_of f) framed.apart.free_nodes) i;
      }

  pub shared_set_cell : (c : ℕ) (v : Cell) → 1 ≤ c → c ≤ f.shape.cells → Fit (cell_words v)
      → shared_in f (set_cell_in f b c v) ≡ set_cell (shared_in f b) c v
  unfolding shared_in set_cell_in cell_in
  shared_set_cell c v l u g =
      let e : cell_in f (set_cell_in f b c v) ≡ upd (cell_in f b) c v =
      fun_ext (load_stored cell_codec zero_cell (cells_of f) (omega arith) b c v l u framed.cells g)
      in
      λ i. record {
        node = nodes_kept f b framed.width (set_cell_in f b c v) (cell_keeps c v (nodes_of f) framed.apart.nodes_cells) i;
        cell = e i;
        depth = depth_kept f b (set_cell_in f b c v) (cell_keeps c v (depth_of f) framed.apart.depth_cells) i;
        free = free_kept f b (set_cell_in f b c v) (cell_keeps c v (free_of f) framed.apart.free_cells) i;
      }

  pub threads_set_cell : (c : ℕ) (v : Cell) → thread_in f (set_cell_in f b c v) ≡ thread_in f b
  threads_set_cell c v = threads_kept f b framed (set_cell_in f b c v) (cell_keeps c v (threads_of f) (flip framed.apart.cells_threads))

  pub shared_set_depth : (v : ℕ) → v < 2 ^ 32 → shared_in f (set_word b f.depth v) ≡ set_depth (shared_in f b) v
  unfolding shared_in
  shared_set_depth v g =
      λ i. record {
        node = nodes_kept f b framed.width (set_word b f.depth v) (depth_keeps v (nodes_of f) (flip framed.apart.depth_nodes)) i;
        cell = cells_kept f b (set_word b f.depth v) (depth_keeps v (cells_of f) (flip framed.apart.depth_cells)) i;
        depth = word_same b f.depth v (omega (arith, framed.depth)) g i;
        free = free_kept f b (set_word b f.depth v) (depth_keeps v (free_of f) (flip framed.apart.depth_free)) i;
      }

  pub shared_set_free : (v : ℕ) → v < 2 ^ 32 → shared_in f (set_word b f.free v) ≡ set_free (shared_in f b) v
  unfolding shared_in
  shared_set_free v g =
      λ i. record {
        node = nodes_kept f b framed.width (set_word b f.free v) (free_keeps v (nodes_of f) (flip framed.apart.free_nodes)) i;
        cell = cells_kept f b (set_word b f.free v) (free_keeps v (cells_of f) (flip framed.apart.free_cells)) i;
        depth = depth_kept f b (set_word b f.free v) (free_keeps v (depth_of f) framed.apart.depth_free) i;
        free = word_same b f.free v (omega (arith, framed.free)) g i;
      }

  pub threads_set_free : (v : ℕ) → thread_in f (set_word b f.free v) ≡ thread_in f b
  threads_set_free v = threads_kept f b framed (set_word b f.free v) (free_keeps v (threads_of f) (flip framed.apart.free_threads))

  -- what leaves every word outside the threads' records leaves shared memory
  shared_outside : (b' : List ℕ) → ((j : ℕ) → OutsidePart (threads_of f) j → word b' j ≡ word b j) → shared_in f b' ≡ shared_in f b
  unfolding shared_in
  shared_outside b' h =
      let kept : (p : Part) → Apart p (threads_of f) → Kept p b b' = λ p a j l u. h j (outside a j l u) in
      λ i. record {
        node = nodes_kept f b framed.width b' (kept (nodes_of f) framed.apart.nodes_threads) i;
        cell = cells_kept f b b' (kept (cells_of f) framed.apart.cells_threads) i;
        depth = depth_kept f b b' (kept (depth_of f) framed.apart.depth_threads) i;
        free = free_kept f b b' (kept (free_of f) framed.apart.free_threads) i;
      }

  pub shared_set_thread : (t : ℕ) (v : Thread) → shared_in f (set_thread_in f b t v) ≡ shared_in f b
  shared_set_thread t v = shared_outside (set_thread_in f b t v) (λ j o. word-set_thread_in t j v o)

  pub threads_set_thread : (t : ℕ) (v : Thread) → 1 ≤ t → t ≤ f.shape.threads → ThreadFits f.width v
      → thread_in f (set_thread_in f b t v) ≡ upd (thread_in f b) t v
  unfolding set_thread_in thread_in
  threads_set_thread t v l u g =
      fun_ext (load_stored (thread_codec framed.width) (idle_thread 0) (threads_of f) framed.stride b t v l u framed.threads g)

-- Storing a thread's permission, the first word of its record.
first_stored : (b : List ℕ) (at p n : ℕ) → 4 * at + 4 ≤ length b → p < 2 ^ 32
    → words_at (set_word b at p) at (suc n) ≡ p ∷ words_at b (suc at) n
first_stored b at p n h g =
    λ i. word_same b at p h g i ∷ words_at_reads (set_word b at p) b (suc at) n (λ j l u. word_other b at j p (λ e. omega arith)) i

permission_stored : {w : ℕ} → Width w → (b : List ℕ) (at p : ℕ) → 4 * at + 4 ≤ length b → p < 2 ^ 32
    → thread_at w (set_word b at p) at ≡ with_permission (thread_at w b at) p
unfolding thread_at with_permission
permission_stored one_word b at p h g = ap (thread_of 1) (first_stored b at p 32 h g)
permission_stored two_words b at p h g = ap (thread_of 2) (first_stored b at p 35 h g)

pub length-set_permission_in : (f : Frame) (b : List ℕ) (t p : ℕ) → length (set_permission_in f b t p) ≡ length b
unfolding set_permission_in
length-set_permission_in f b t p =
    stays set_word (threads_of f) (λ l. length l ≡ length b) (λ l k u e. length-set_word l k u ∙ e) b t p refl

-- it is all that changes
pub word_set_permission : (f : Frame) (b : List ℕ) (t j p : ℕ) → (j ≡ entry (threads_of f) t → ⊥) → word (set_permission_in f b t p) j ≡ word b j
unfolding set_permission_in store_entry pick
word_set_permission f b t j p n = go (between 1 t f.shape.threads)
  where
    go : (q : Bool) → word (pick q (set_word b (entry (threads_of f) t) p) b) j ≡ word b j
    go true = word_other b (entry (threads_of f) t) j p n
    go false = refl

module _ (f : Frame) (b : List ℕ) (framed : Framed f (length b)) (t p : ℕ) (l : 1 ≤ t) (u : t ≤ f.shape.threads) where
  abbrev permits : List ℕ
  permits = set_permission_in f b t p

  -- the thread's record lies within the part
  within : entry (threads_of f) t + thread_size f.width ≤ f.threads + part_size (threads_of f)
  within = omega (arith, entry_end (threads_of f) t (λ z. omega arith) u, framed.stride)

  pub outside_permission : (j : ℕ) → OutsidePart (threads_of f) j → j ≡ entry (threads_of f) t → ⊥
  outside_permission j o e = ⊎_elim (λ h. omega arith) (λ h. omega (arith, within)) o

  pub shared_set_permission : shared_in f permits ≡ shared_in f b
  shared_set_permission = shared_outside f b framed permits (λ j o. word_set_permission f b t j p (outside_permission j o))

  pub permission_there : permits ≡ set_word b (entry (threads_of f) t) p
  unfolding set_permission_in store_entry pick
  permission_there = rw (is_between 1 t f.shape.threads l u) refl

  pub others_set_permission : (k : ℕ) → (k ≡ t → ⊥) → thread_in f permits k ≡ thread_in f b k
  unfolding thread_in load_entry pick
  others_set_permission k n = go (between 1 k f.shape.threads) refl
    where
      go : (q : Bool) → between 1 k f.shape.threads ≡ q
          → pick q (thread_at f.width permits (entry (threads_of f) k)) (idle_thread 0) ≡ pick q (thread_at f.width b (entry (threads_of f) k)) (idle_thread 0)
      go true e =
          (thread_codec framed.width).reads permits b (entry (threads_of f) k) λ j lo hi.
          word_set_permission f b t j p λ z.
          ⊎_elim (λ h. omega arith) (λ h. omega arith)
          (records_outside (threads_of f) k t (thread_size f.width) (between_least 1 k f.shape.threads e) l n framed.stride j lo hi)
      go false e = refl

  module _ (g : p < 2 ^ 32) where
    own_set_permission : thread_in f permits t ≡ with_permission (thread_in f b t) p
    unfolding thread_in load_entry pick
    own_set_permission =
        rw (is_between 1 t f.shape.threads l u, permission_there)
        (permission_stored framed.width b (entry (threads_of f) t) p (omega (arith, within, framed.threads)) g)

    pub threads_set_permission : thread_in f permits ≡ upd (thread_in f b) t (with_permission (thread_in f b t) p)
    unfolding upd pick
    threads_set_permission = fun_ext λ k. go k (ℕ_discrete k t)
      where
        go : (k : ℕ) → Dec (k ≡ t) → thread_in f permits k ≡ pick (eqb k t) (with_permission (thread_in f b t) p) (thread_in f b k)
        go k (yes e) = ap (thread_in f permits) e ∙ own_set_permission ∙ rw (eq-eqb k t e) refl
        go k (no n) = others_set_permission k n ∙ rw (ne_eqb k t n) refl
