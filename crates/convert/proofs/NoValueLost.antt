-- A converted region is readable, and reads as the old one. Each part of it holds the words of the old part, with a 0 behind each counter's word;
-- a node, a cell or a thread's record is read from its own words alone. Assumes nothing.
use Prim.Native.Nat.{ℕ, zero, suc, ◌+◌, ◌-◌, ◌*◌, ◌/◌, ◌%◌, ◌^◌, ◌≤◌, ◌<◌}
use native.Mathlib.Nat.{add-zero}
use native.Mathlib.Omega.{arith}
use mathlib.Core.Path.{◌≡◌, refl, sym, ap, subst, subst₂, subst₃, fun_ext, ◌∙◌}
use mathlib.Core.Bool.{Bool, true, false, ◌&&◌}
use mathlib.Core.List.{List, ◌∷◌, ◌++◌}
use borrow.Author.Tests.{eq-eqb, le-leb}
use lib.ListN.{length, length-append, get_or}
use Rattle.words.specs.Inner.{Fit}
use Rattle.words.specs.Word.{word, words_at, set_words}
use Rattle.words.proofs.Laws.{length-set_words}
use Rattle.region.specs.Refusal.{done}
use Rattle.region.specs.Frame.{frame_of, frame_of_width, nodes_of, cells_of, threads_of}
use Rattle.region.specs.declared.part.Part.{Part}
use Rattle.region.specs.Inner.{InRange, one_word, two_words}
use Rattle.region.specs.Pick.{pick}
use Rattle.region.specs.Place.{place_of}
use Rattle.region.specs.Record.{counter_size, old_counter_size, cell_size, node_of, cell_of, node_at, cell_at, copy_at, empty_node, zero_cell}
use Rattle.region.specs.Shape.{between, head_size, node_count, region_words, region_words_of_width}
use Rattle.region.specs.Shared.{entry, load_entry, node_in, cell_in, thread_in, shared_in}
use Rattle.region.specs.Thread.{idle_thread, place_word, waiting_word, tries_word, node_word, thread_of, thread_at}
use Rattle.region.specs.declared.frame.Frame.{Frame}
use Rattle.region.specs.declared.shape.Shape.{Shape}
use Rattle.region.proofs.Frames.{frame_framed}
use Rattle.region.proofs.Shapes.{and_both, and_left, and_right, between_least, between_most, sizes}
use Rattle.region.proofs.Threads.{copy_parts, fit_both, loaded, thread_loaded}
use Rattle.readable.specs.Readable.{bounded, copy_maxima, field_maxima, greatest_tries, greatest_waiting, node_maxima, cell_maxima, readable, shape_in, thread_maxima, thread_passes, thread_readable}
use Rattle.readable.proofs.Laws.{Good, GoodOfWidth, bounded_all, good_of_width, readable_good, shape_of_width}
use Rattle.readable.proofs.Stores.{AllLe, SharedGood, all_at, all_both, all_fit, copies_pass, fields_pass, good_shared, make_good, maxima_fit, tries_pass, waiting_pass}
use Rattle.convert.specs.Convert.{all_carried, convert_refusal, converted_bytes, converted_words, copy_carried, node_carried, old_frame_in, old_readable, thread_carried}
use Rattle.convert.specs.Theorems.{NoValueLost, ReadsAs}
use Rattle.convert.proofs.Held.{Held, bounded_le, fit_records, fit_words, held_copied, held_first, held_record, held_second, held_stored, held_word, held_words}
use Rattle.convert.proofs.Loops.{accepted_length, accepted_readable, length_all, length_words, node_size_lem, thread_size_lem}

-- Two parts, of an old frame and of a new one, whose records read the same, one by one.
same_loads : {A : Type 0} (at at' : List ℕ → ℕ → A) (none : A) (p p' : Part) (b b' : List ℕ) → p'.count ≡ p.count
    → ((i : ℕ) → i < p.count → at' b' (p'.start + p'.stride * i) ≡ at b (p.start + p.stride * i)) → (k : ℕ)
    → load_entry at' none p' b' k ≡ load_entry at none p b k
unfolding load_entry pick
same_loads at at' none p p' b b' ec h k = ap (λ n. pick (between 1 k n) (at' b' (entry p' k)) none) ec ∙ go (between 1 k p.count) refl
  where
    go : (q : Bool) → between 1 k p.count ≡ q → pick q (at' b' (entry p' k)) none ≡ pick q (at b (entry p k)) none
    go true e =
        let l = between_least 1 k p.count e in
        let u = between_most 1 k p.count e in
        h (k - 1) (omega arith)
    go false e = refl

-- words that were moved are read the same
words_same : (b b' : List ℕ) (at at' n : ℕ) → ((j : ℕ) → j < n → word b (at + j) ≡ word b' (at' + j)) → words_at b at n ≡ words_at b' at' n
words_same b b' at at' zero h = refl
words_same b b' at at' (suc n) h =
    let first : word b at ≡ word b' at' = ap (word b) (sym (add-zero at)) ∙ h 0 (omega arith) ∙ ap (word b') (add-zero at') in
    let rest = words_same b b' (suc at) (suc at') n λ j l.
    (let k : suc at + j ≡ at + suc j = omega arith in
    let k' : at' + suc j ≡ suc at' + j = omega arith in
    ap (word b) k ∙ h (suc j) (omega arith) ∙ ap (word b') k') in
    λ i. first i ∷ rest i

-- A thread's record, carried over, reads as it did.
thread_carried_lem : (b : List ℕ) (at : ℕ) → thread_of counter_size (thread_carried b at) ≡ thread_at old_counter_size b at
unfolding node_at cell_at
thread_carried_lem b at =
    let ws = words_at b at 15 in
    let place = place_of (get_or ws place_word 0) (get_or ws waiting_word 0) in
    let copy : (k : ℕ) → record { node = node_at 1 b k; head = cell_at b (k + 3) } ≡ copy_at 1 b k = λ k. sym (copy_parts one_word b k) in
    (λ i. loaded ws place (copy (at + 15) i) (copy (at + 21) i) (copy (at + 27) i))
    ∙ thread_loaded one_word b ws at place (copy_at 1 b (at + 15)) (copy_at 1 b (at + 21)) (copy_at 1 b (at + 27)) refl refl refl refl refl

-- A node copy in range, carried over: its words are at most their maxima, the high word too.
copy_le : (cells : ℕ) (b : List ℕ) (k : ℕ) → bounded b k (copy_maxima old_counter_size cells) ≡ true
    → AllLe (copy_carried b k) (copy_maxima counter_size cells)
copy_le cells b k e =
    let h = bounded_le b (copy_maxima old_counter_size cells) k e in
    let behind : suc (suc (suc k)) ≡ k + 3 = omega arith in (
      h.0,
      (
        h.1.0,
        (
          h.1.1.0,
          (
            omega arith,
            subst (λ j. AllLe (words_at b j 3) (cell_maxima cells)) behind h.1.1.1,
          ),
        ),
      ),
    )

module _ (old new : List ℕ) (e : convert_refusal old (length new) ≡ done) where
  ready : old_readable old ≡ true
  ready = accepted_readable old (length new) e

  abbrev s : Shape
  s = shape_in old

  abbrev f : Frame
  f = old_frame_in old

  abbrev after : List ℕ
  after = set_words new 0 (converted_words f old)

  g : GoodOfWidth old_counter_size f old
  g = good_of_width one_word old ready

  r : InRange s
  r = shape_of_width one_word old ready

  bytes_are : converted_bytes old new ≡ after
  unfolding converted_bytes pick
  bytes_are = rw (eq-eqb (convert_refusal old (length new)) done e) refl

  long : length after ≡ 4 * region_words s
  long = length-set_words (converted_words f old) new 0 ∙ accepted_length old (length new) e

  -- The parts of the old region: their words are at most their maxima, and fit.
  few : s.cells < 2 ^ 32
  few = omega (arith, r, sizes s r.depth_most)

  head_fit : Fit (words_at old 0 head_size)
  unfolding frame_of_width
  head_fit = (
    omega (arith, r.depth_most),
    (
      omega (arith, few),
      (
        omega (arith, r.threads_most),
        (omega (arith, r.threshold_most), (omega (arith, g.depth_most, r.depth_most), (omega (arith, g.free_most, few), tt))),
      ),
    ),
  )

  node_le : (i : ℕ) → i < node_count s → AllLe (words_at old (f.nodes + 3 * i) 3) (node_maxima old_counter_size s.cells)
  unfolding frame_of_width
  node_le i l = bounded_le old (node_maxima old_counter_size s.cells) (f.nodes + 3 * i) (g.nodes i l)

  node_fit : (i : ℕ) → i < node_count s → Fit (node_carried old (f.nodes + 3 * i))
  node_fit i l = let h = node_le i l in
      (omega (arith, h.0, few), (omega (arith, h.1.0), (omega (arith, h.1.1.0), (omega arith, tt))))

  cell_le : (i : ℕ) → i < s.cells → AllLe (words_at old (f.cells + cell_size * i) 3) (cell_maxima s.cells)
  unfolding frame_of_width
  cell_le i l = bounded_le old (cell_maxima s.cells) (f.cells + cell_size * i) (g.cells i l)

  cells_fit : Fit (words_at old f.cells (cell_size * s.cells))
  cells_fit = fit_words old f.cells (cell_size * s.cells) λ j l.
      by_rest j l (j % 3) refl
    where
      by_rest : (j : ℕ) → j < cell_size * s.cells → (k : ℕ) → j % 3 ≡ k → word old (f.cells + j) < 2 ^ 32
      by_rest j l zero ek =
          let h = cell_le (j / 3) (omega arith) in
          let at : f.cells + j ≡ f.cells + cell_size * (j / 3) = omega arith in
          subst (λ x. word old x < 2 ^ 32) (sym at) (omega (arith, h.0))
      by_rest j l (suc zero) ek =
          let h = cell_le (j / 3) (omega arith) in
          let at : f.cells + j ≡ suc (f.cells + cell_size * (j / 3)) = omega arith in
          subst (λ x. word old x < 2 ^ 32) (sym at) (omega (arith, h.1.0))
      by_rest j l (suc (suc zero)) ek =
          let h = cell_le (j / 3) (omega arith) in
          let at : f.cells + j ≡ suc (suc (f.cells + cell_size * (j / 3))) = omega arith in
          subst (λ x. word old x < 2 ^ 32) (sym at) (omega (arith, h.1.1.0, few))
      by_rest j l (suc (suc (suc k))) ek = absurd (omega arith)

  module _ (i : ℕ) (l : i < s.threads) where
    from : ℕ
    from = f.threads + 33 * i

    passes : thread_readable old_counter_size s old from ≡ true
    unfolding from frame_of_width
    passes = g.threads i l

    thread_le : AllLe (thread_carried old from) (thread_maxima counter_size s)
    unfolding from
    thread_le =
        let c = copy_maxima old_counter_size s.cells in
        let m = copy_maxima counter_size s.cells in
        let all = copies_pass one_word s r old from passes in
        let rest = and_right (bounded old (from + 15) c) (bounded old (from + 21) c && bounded old (from + 27) c) all in
        all_both (words_at old from 15) (field_maxima s)
        (copy_carried old (from + 15) ++ (copy_carried old (from + 21) ++ copy_carried old (from + 27))) (m ++ (m ++ m))
        (bounded_le old (field_maxima s) from (fields_pass one_word s r old from passes))
        (all_both (copy_carried old (from + 15)) m (copy_carried old (from + 21) ++ copy_carried old (from + 27)) (m ++ m)
        (copy_le s.cells old (from + 15) (and_left (bounded old (from + 15) c) (bounded old (from + 21) c && bounded old (from + 27) c) all))
        (all_both (copy_carried old (from + 21)) m (copy_carried old (from + 27)) m
        (copy_le s.cells old (from + 21) (and_left (bounded old (from + 21) c) (bounded old (from + 27) c) rest))
        (copy_le s.cells old (from + 27) (and_right (bounded old (from + 21) c) (bounded old (from + 27) c) rest))))

    copies_fit : Fit (copy_maxima counter_size s.cells)
    copies_fit = (few, (omega arith, (omega arith, (omega arith, (omega arith, (omega arith, (few, tt)))))))

    thread_fit : Fit (thread_carried old from)
    thread_fit =
        let m = copy_maxima counter_size s.cells in
        all_fit (thread_carried old from) (thread_maxima counter_size s) thread_le
        (fit_both (field_maxima s) (m ++ (m ++ m)) (maxima_fit s r) (fit_both m (m ++ m) copies_fit (fit_both m m copies_fit copies_fit)))

  abbrev hs : List ℕ
  hs = words_at old 0 head_size

  abbrev ns : List ℕ
  ns = all_carried node_carried 3 old f.nodes (node_count s)

  abbrev cs : List ℕ
  cs = words_at old f.cells (cell_size * s.cells)

  abbrev ts : List ℕ
  ts = all_carried thread_carried 33 old f.threads s.threads

  all_words : converted_words f old ≡ hs ++ (ns ++ (cs ++ ts))
  unfolding converted_words frame_of_width
  all_words = refl

  words_fit : Fit (hs ++ (ns ++ (cs ++ ts)))
  unfolding from
  words_fit =
      fit_both hs (ns ++ (cs ++ ts)) head_fit
      (fit_both ns (cs ++ ts) (fit_records node_carried 3 4 node_size_lem old f.nodes (node_count s) node_fit)
      (fit_both cs ts cells_fit (fit_records thread_carried 33 36 thread_size_lem old f.threads s.threads thread_fit)))

  -- the new slice holds them all
  held : Held after 0 (hs ++ (ns ++ (cs ++ ts)))
  unfolding frame_of_width region_words_of_width
  held =
      let ln = length_all node_carried 3 4 node_size_lem old f.nodes (node_count s) in
      let lc = length_words old f.cells (cell_size * s.cells) in
      let lt = length_all thread_carried 33 36 thread_size_lem old f.threads s.threads in
      let l₁ = length-append cs ts in
      let l₂ = length-append ns (cs ++ ts) in
      let room : 4 * (0 + length (hs ++ (ns ++ (cs ++ ts)))) ≤ length new = omega (arith, ln, lc, lt, l₁, l₂, accepted_length old (length new) e) in
      subst (λ ws. Held (set_words new 0 ws) 0 (hs ++ (ns ++ (cs ++ ts)))) (sym all_words)
      (held_stored (hs ++ (ns ++ (cs ++ ts))) new 0 room words_fit)

  head_word : (i : ℕ) → i < head_size → word after i ≡ word old i
  head_word i l =
      let k : i ≡ 0 + i = omega arith in
      ap (word after) k ∙ held_copied old 0 head_size after 0 (held_first hs (ns ++ (cs ++ ts)) after 0 held) i l ∙ ap (word old) (sym k)

  same_shape : shape_in after ≡ s
  same_shape = λ i. record {
    depth = head_word 0 (omega arith) i;
    cells = head_word 1 (omega arith) i;
    threads = head_word 2 (omega arith) i;
    threshold = head_word 3 (omega arith) i;
  }

  abbrev h : Frame
  h = frame_of s

  nodes_held : Held after h.nodes ns
  unfolding frame_of_width
  nodes_held =
      held_first ns (cs ++ ts) after h.nodes
      (subst (λ k. Held after k (ns ++ (cs ++ ts))) (omega arith) (held_second hs (ns ++ (cs ++ ts)) after 0 held))

  cells_held : Held after h.cells (cs ++ ts)
  unfolding frame_of_width
  cells_held =
      let ln = length_all node_carried 3 4 node_size_lem old f.nodes (node_count s) in
      subst (λ k. Held after k (cs ++ ts)) (omega (arith, ln))
      (held_second ns (cs ++ ts) after (0 + length hs) (held_second hs (ns ++ (cs ++ ts)) after 0 held))

  threads_held : Held after h.threads ts
  unfolding frame_of_width
  threads_held =
      let lc = length_words old f.cells (cell_size * s.cells) in
      subst (λ k. Held after k ts) (omega (arith, lc)) (held_second cs ts after h.cells cells_held)

  node_same : (i : ℕ) → i < node_count s → node_at counter_size after (h.nodes + 4 * i) ≡ node_at old_counter_size old (f.nodes + 3 * i)
  unfolding node_at
  node_same i l =
      ap (λ ws. node_of counter_size ws 0)
      (held_words (node_carried old (f.nodes + 3 * i)) after (h.nodes + 4 * i)
      (held_record node_carried 3 4 node_size_lem old f.nodes (node_count s) after h.nodes nodes_held i l))

  cell_same : (i : ℕ) → i < s.cells → cell_at after (h.cells + cell_size * i) ≡ cell_at old (f.cells + cell_size * i)
  unfolding cell_at
  cell_same i l =
      let moved : (j : ℕ) → j < 3 → word after (h.cells + cell_size * i + j) ≡ word old (f.cells + cell_size * i + j) =
      λ j u. (let k : h.cells + cell_size * i + j ≡ h.cells + (cell_size * i + j) = omega arith in
      let m : f.cells + (cell_size * i + j) ≡ f.cells + cell_size * i + j = omega arith in
      ap (word after) k
      ∙ held_copied old f.cells (cell_size * s.cells) after h.cells (held_first cs ts after h.cells cells_held) (cell_size * i + j) (omega arith)
      ∙ ap (word old) m) in
      ap (λ ws. cell_of ws 0) (words_same after old (h.cells + cell_size * i) (f.cells + cell_size * i) 3 moved)

  record_held : (i : ℕ) → i < s.threads → Held after (h.threads + 36 * i) (thread_carried old (f.threads + 33 * i))
  record_held i l = held_record thread_carried 33 36 thread_size_lem old f.threads s.threads after h.threads threads_held i l

  thread_same : (i : ℕ) → i < s.threads → thread_at counter_size after (h.threads + 36 * i) ≡ thread_at old_counter_size old (f.threads + 33 * i)
  unfolding thread_at
  thread_same i l =
      ap (thread_of counter_size) (held_words (thread_carried old (f.threads + 33 * i)) after (h.threads + 36 * i) (record_held i l))
      ∙ thread_carried_lem old (f.threads + 33 * i)

  -- shared memory and the threads' records, read through both frames
  shared_same : shared_in h after ≡ shared_in f old
  unfolding shared_in node_in cell_in frame_of_width
  shared_same = λ i. record {
    node = fun_ext (same_loads (node_at old_counter_size) (node_at counter_size) empty_node (nodes_of f) (nodes_of h) old after refl node_same) i;
    cell = fun_ext (same_loads cell_at cell_at zero_cell (cells_of f) (cells_of h) old after refl cell_same) i;
    depth = head_word 4 (omega arith) i;
    free = head_word 5 (omega arith) i;
  }

  threads_same : thread_in h after ≡ thread_in f old
  unfolding thread_in frame_of_width
  threads_same =
      fun_ext (same_loads (thread_at old_counter_size) (thread_at counter_size) (idle_thread 0) (threads_of f) (threads_of h) old after refl thread_same)

  -- Readable: shared memory is in range as it was, and each thread's record passes.
  shared_good : SharedGood counter_size s (shared_in h after)
  unfolding frame_of_width
  shared_good =
      subst (SharedGood counter_size s) (sym shared_same)
      (let m = good_shared f old g in
      record {
        node = λ n. (let q = m.node n in
            record { first = q.first; dirty = q.dirty; low = q.low; high = q.high; narrow = q.high });
        cell = m.cell;
        depth_least = m.depth_least;
        depth_most = m.depth_most;
        free = m.free;
      })

  module _ (i : ℕ) (l : i < s.threads) where
    to : ℕ
    to = h.threads + 36 * i

    field_same : (j : ℕ) → j < 15 → word after (to + j) ≡ word old (from i l + j)
    unfolding to from
    field_same j u =
        held_copied old (from i l) 15 after to
        (held_first (words_at old (from i l) 15)
        (copy_carried old (from i l + 15) ++ (copy_carried old (from i l + 21) ++ copy_carried old (from i l + 27))) after to (record_held i l)) j u

    thread_passes_lem : thread_readable counter_size s after to ≡ true
    unfolding to from thread_passes
    thread_passes_lem =
        let place = sym (field_same place_word (omega arith)) in
        let ms = thread_maxima counter_size s in
        and_both
        (and_both
        (bounded_all after ms to λ j u.
        subst (λ x. x ≤ get_or ms j 0) (sym (held_word (thread_carried old (from i l)) after to (record_held i l) j u))
        (all_at (thread_carried old (from i l)) ms j (thread_le i l)))
        (le-leb _ _
        (subst₂ (λ x y. x ≤ greatest_tries s y) (sym (field_same tries_word (omega arith))) place
        (tries_pass one_word s r old (from i l) (passes i l)))))
        (le-leb _ _
        (subst₃ (λ x y z. x ≤ greatest_waiting y z) (sym (field_same waiting_word (omega arith))) place (sym (field_same node_word (omega arith)))
        (waiting_pass one_word s r old (from i l) (passes i l))))

  after_good : Good h after
  unfolding to frame_of_width
  after_good = make_good h after refl r (frame_framed two_words s (length after) long) shared_good thread_passes_lem

  after-readable : readable after ≡ true
  after-readable = readable_good s after same_shape long after_good

  reads : ReadsAs old after
  reads =
      record {
        ready = after-readable;
        shape = same_shape;
        shared = ap (λ x. shared_in (frame_of x) after) same_shape ∙ shared_same;
        threads = ap (λ x. thread_in (frame_of x) after) same_shape ∙ threads_same;
      }

pub no_value_lost : NoValueLost
no_value_lost old new e = subst (ReadsAs old) (sym (bytes_are old new e)) (reads old new e)
