-- The thread's record and its words: what loading and storing one need, over plain variables, and that the words of a record
-- are read as that record. Assumes nothing.
use Prim.Native.Nat.{ℕ, suc, ◌+◌, ◌≤◌, ◌<◌}
use native.Mathlib.Omega.{arith}
use mathlib.Core.Path.{◌≡◌, refl, sym, ap, ◌∙◌}
use mathlib.Core.List.{List, [], ◌∷◌, ◌++◌}
use lib.ListN.{length, get_or}
use Rattle.words.specs.Word.{word, words_at}
use Rattle.words.specs.Inner.{Fit}
use Rattle.words.proofs.Laws.{word_among}
use Rattle.region.specs.Place.{place_of}
use Rattle.region.specs.Inner.{CopyFits, NodeFits, ThreadFits, Width, one_word, two_words}
use Rattle.region.specs.Record.{counter_size, node_size, copy_size, high_of, node_of, node_words, node_at, cell_at, item_of, cell_words, copy_of, copy_words, copy_at}
use Rattle.region.specs.Thread.{thread_size, place_word, waiting_word, first_copy_word, second_copy_word, third_copy_word, search_of, field_words, thread_of, thread_words, thread_at}
use Rattle.region.specs.declared.place.Place.{Place}
use Rattle.region.specs.declared.record.Node.{Node}
use Rattle.region.specs.declared.record.NodeCopy.{NodeCopy}
use Rattle.region.specs.declared.thread.Thread.{Thread}
use Rattle.region.specs.Laws.{place_again, thread_back}

-- the record that the words a make, its place and its copies given
abbrev pub loaded : List ℕ → Place → NodeCopy → NodeCopy → NodeCopy → Thread
loaded a p q r s =
    record {
      permission = get_or a 0 0;
      place = p;
      item = item_of a 2;
      own = get_or a 4 0;
      depth = get_or a 5 0;
      search_state = search_of a 6 7 8 9;
      node = get_or a 10 0;
      after = get_or a 12 0;
      result = item_of a 13;
      copies = record { first = q; second = r; third = s };
    }

-- a node copy is its node, and its head cell behind it
pub copy_parts : {w : ℕ} → Width w → (b : List ℕ) (at : ℕ) → copy_at w b at ≡ record { node = node_at w b at; head = cell_at b (at + node_size w) }
unfolding copy_at node_at cell_at
copy_parts one_word b at =
    let behind : suc (suc (suc at)) ≡ at + 3 = omega arith in
    λ i. record { node = node_at 1 b at; head = cell_at b (behind i) }
copy_parts two_words b at =
    let behind : suc (suc (suc (suc at))) ≡ at + 4 = omega arith in
    λ i. record { node = node_at 2 b at; head = cell_at b (behind i) }

-- the high word of a counter is the same where its words are
high_same : {w : ℕ} → Width w → (ws vs : List ℕ) (j k : ℕ) → (1 < w → get_or ws (j + 1) 0 ≡ get_or vs (k + 1) 0) → high_of w ws j ≡ high_of w vs k
high_same one_word ws vs j k e = refl
high_same two_words ws vs j k e = e (omega arith)

-- a node copy among words that are read is the copy at its own word
pub copy_among : {w : ℕ} → Width w → (b : List ℕ) (at n k : ℕ) → k + copy_size w ≤ n → copy_at w b (at + k) ≡ copy_of w (words_at b at n) k
unfolding copy_at
copy_among {w} wide b at n k h =
    let high = high_same wide (words_at b (at + k) (copy_size w)) (words_at b at n) (0 + 2) (k + 2)
    (λ l. is (0 + 2 + 1) (k + 2 + 1) (omega arith) (omega arith)) in
    λ i. record {
      node =
          record {
            first = is 0 k (omega arith) (omega arith) i;
            dirty = is (0 + 1) (k + 1) (omega arith) (omega arith) i;
            low = is (0 + 2) (k + 2) (omega arith) (omega arith) i;
            high = high i;
          };
      head =
          record {
            item =
                record {
                  key = is (0 + node_size w) (k + node_size w) (omega arith) (omega arith) i;
                  tag = is (0 + node_size w + 1) (k + node_size w + 1) (omega arith) (omega arith) i;
                };
            next = is (0 + node_size w + 2) (k + node_size w + 2) (omega arith) (omega arith) i;
          };
    }
  where
    is : (j x : ℕ) → x ≡ k + j → j < copy_size w → get_or (words_at b (at + k) (copy_size w)) j 0 ≡ get_or (words_at b at n) x 0
    is j x ex l =
        let e : at + k + j ≡ at + x = omega arith in
        word_among b (at + k) (copy_size w) j l ∙ ap (word b) e ∙ sym (word_among b at n x (omega arith))

pub thread_loaded : {w : ℕ} → Width w → (b a : List ℕ) (at : ℕ) (p : Place) (q r s : NodeCopy) → a ≡ words_at b at first_copy_word
    → p ≡ place_of (get_or a place_word 0) (get_or a waiting_word 0) → q ≡ copy_at w b (at + first_copy_word) → r ≡ copy_at w b (at + second_copy_word w)
    → s ≡ copy_at w b (at + third_copy_word w) → loaded a p q r s ≡ thread_at w b at
unfolding thread_at
thread_loaded {w} wide b a at p q r s ea ep eq er es =
    let ws = words_at b at (thread_size w) in
    let eq' = eq ∙ copy_among wide b at (thread_size w) first_copy_word (omega arith) in
    let er' = er ∙ copy_among wide b at (thread_size w) (second_copy_word w) (omega arith) in
    let es' = es ∙ copy_among wide b at (thread_size w) (third_copy_word w) (omega arith) in
    (λ i. loaded a (ep i) (eq' i) (er' i) (es' i))
    ∙ ap (λ x. loaded x (place_of (get_or x place_word 0) (get_or x waiting_word 0)) (copy_of w ws first_copy_word) (copy_of w ws (second_copy_word w))
    (copy_of w ws (third_copy_word w))) ea
    ∙ fields_among wide b at (copy_of w ws first_copy_word) (copy_of w ws (second_copy_word w)) (copy_of w ws (third_copy_word w))
  where
    fields_among : {w : ℕ} → Width w → (b : List ℕ) (at : ℕ) (x y z : NodeCopy)
        → loaded (words_at b at first_copy_word) (place_of (get_or (words_at b at first_copy_word) place_word 0) (get_or (words_at b at first_copy_word) waiting_word 0)) x y z
        ≡ loaded (words_at b at (thread_size w)) (place_of (get_or (words_at b at (thread_size w)) place_word 0) (get_or (words_at b at (thread_size w)) waiting_word 0)) x y z
    fields_among one_word b at x y z = refl
    fields_among two_words b at x y z = refl

-- The words of a record: how many there are, and that they fit.
pub node_long : {w : ℕ} → Width w → (n : Node) → length (node_words w n) ≡ node_size w
node_long one_word n = refl
node_long two_words n = refl

pub copy_long : {w : ℕ} → Width w → (q : NodeCopy) → length (copy_words w q) ≡ copy_size w
copy_long one_word q = refl
copy_long two_words q = refl

pub thread_long : {w : ℕ} → Width w → (t : Thread) → length (thread_words w t) ≡ thread_size w
thread_long one_word t = refl
thread_long two_words t = refl

pub node_fit : {w : ℕ} → Width w → (n : Node) → NodeFits w n → Fit (node_words w n)
node_fit one_word n h = (h.words.0, (h.words.1.0, (h.words.1.1.0, tt)))
node_fit two_words n h = h.words

pub fit_both : (xs ys : List ℕ) → Fit xs → Fit ys → Fit (xs ++ ys)
fit_both [] ys f g = g
fit_both (x ∷ xs) ys f g = (f.0, fit_both xs ys f.1 g)

copy_fit : {w : ℕ} → Width w → (q : NodeCopy) → CopyFits w q → Fit (copy_words w q)
copy_fit {w} wide q h = fit_both (node_words w q.node) (cell_words q.head) (node_fit wide q.node h.node) h.head

pub thread_words_fit : {w : ℕ} → Width w → (t : Thread) → ThreadFits w t → Fit (thread_words w t)
thread_words_fit {w} wide t h =
    let q = copy_words w t.copies.first in
    let r = copy_words w t.copies.second in
    let s = copy_words w t.copies.third in
    fit_both (field_words t) (q ++ (r ++ s)) h.fields
    (fit_both q (r ++ s) (copy_fit wide t.copies.first h.first)
    (fit_both r s (copy_fit wide t.copies.second h.second) (copy_fit wide t.copies.third h.third)))

-- The words of a record are read as that record, where they fit.
pub node_again : {w : ℕ} → Width w → (n : Node) → NodeFits w n → node_of w (node_words w n) 0 ≡ n
node_again one_word n h =
    let none : 0 ≡ n.high = omega (arith, h.high) in
    λ i. record { first = n.first; dirty = n.dirty; low = n.low; high = none i }
node_again two_words n h = refl

-- a node copy whose node was read back
read_back : (q : NodeCopy) (n : Node) → n ≡ q.node → record { node = n; head = q.head } ≡ q
read_back q n e = λ i. record { node = e i; head = q.head }

pub thread_again : {w : ℕ} → Width w → (t : Thread) → ThreadFits w t → thread_of w (thread_words w t) ≡ t
thread_again one_word t h =
    let q = t.copies in
    let first = read_back q.first _ (node_again one_word q.first.node h.first.node) in
    let second = read_back q.second _ (node_again one_word q.second.node h.second.node) in
    let third = read_back q.third _ (node_again one_word q.third.node h.third.node) in
    λ i. loaded (field_words t) (place_again t.place i) (first i) (second i) (third i)
thread_again two_words t h = thread_back t
