-- One pass of each loop and each way out of the functions, over plain variables. Assumes nothing.
use Prim.Native.Nat.{ℕ, zero, suc, ◌+◌, ◌-◌, ◌*◌, ◌/◌, ◌%◌, ◌^◌, ◌≤◌, ◌<◌}
use native.Mathlib.Nat.{add-suc, mul-le-mul_left}
use native.Mathlib.Numerals.{add-one}
use native.Mathlib.Omega.{arith}
use mathlib.Core.Path.{◌≡◌, refl, sym, ap, subst, subst₂, ◌∙◌}
use mathlib.Core.Logic.{◌≢◌}
use mathlib.Core.Bool.{Bool, true, false, ◌&&◌}
use mathlib.Core.List.{List, [], ◌∷◌, ◌++◌}
use borrow.Author.Tests.{lt-leb, le-leb, eq-eqb, ne_eqb, eqb-true}
use lib.Dec.{leb, eqb}
use lib.ListN.{length, get_or, drop, drop_of_length-le}
use lib.Pow.{pow_pos}
use lib.Seq.{drop-cons}
use Rattle.words.specs.Inner.{Bytes}
use Rattle.words.specs.Word.{word}
use Rattle.words.proofs.Laws.{word_fits}
use Rattle.region.specs.Frame.{frame_of_width}
use Rattle.region.specs.Inner.{InRange, Width, one_word, two_words}
use Rattle.region.specs.Level.{level}
use Rattle.region.specs.Pick.{pick}
use Rattle.region.specs.Shape.{between, shape_fits, node_count, region_words_of_width}
use Rattle.region.specs.Record.{copy_size, node_size}
use Rattle.region.specs.Thread.{thread_size, place_word, tries_word, node_word, waiting_word}
use Rattle.region.specs.declared.frame.Frame.{Frame}
use Rattle.region.specs.declared.shape.Shape.{Shape}
use Rattle.region.proofs.Frames.{frame_framed}
use Rattle.region.proofs.Levels.{level_most}
use Rattle.region.proofs.Shapes.{and_left, and_right, in_range, shifted}
use Rattle.region.proofs.Threads.{copy_long, node_long}
use Rattle.readable.specs.Readable.{any_word, greatest_node, greatest_copy, node_maxima, cell_maxima, copy_maxima, field_maxima, greatest_tries, greatest_waiting, bounded, node_readable, cell_readable, thread_readable, thread_passes, all_records, fields_readable, shape_in, is_whole_of_width, readable_of_width}
use Rattle.readable.specs.Inner.{ThreadWithin, WithinOfWidth}
use Rattle.readable.proofs.Laws.{bounded_behind}

-- Words in a row: those not yet looked at decide.
pub record Passed (b : List ℕ) (at : ℕ) (ms : List ℕ) (i : ℕ) : Type 0 where
  pub within : i ≤ length ms
  pub left : bounded b (at + i) (drop i ms) ≡ bounded b at ms

module _ {b : List ℕ} {at : ℕ} {ms : List ℕ} {i : ℕ} (e : Passed b at ms i) where
  pub pass_more : (w : ℕ) → i < length ms → w ≡ word b (at + i) → w ≤ get_or ms i 0 → Passed b at ms (i + 1)
  unfolding bounded
  pass_more w h ew l =
      record {
        within = omega arith;
        left =
            ap (λ k. bounded b (at + k) (drop k ms)) (add-one i)
            ∙ ap (λ k. bounded b k (drop (suc i) ms)) (add-suc at i)
            ∙ (rw (drop-cons ms i 0 h, ← ew, le-leb w (get_or ms i 0) l) at e.left);
      }

  pub pass_bad : (w : ℕ) → i < length ms → w ≡ word b (at + i) → get_or ms i 0 < w → false ≡ bounded b at ms
  unfolding bounded
  pass_bad w h ew l = rw (drop-cons ms i 0 h, ← ew, lt-leb w (get_or ms i 0) l) at e.left

  pub pass_end : length ms ≤ i → true ≡ bounded b at ms
  unfolding bounded
  pass_end h = rw (drop_of_length-le ms h) at e.left

-- Records: those not yet looked at, from record i on, decide.
pub record Scanned (test : List ℕ → ℕ → Bool) (stride : ℕ) (b : List ℕ) (at n i : ℕ) : Type 0 where
  pub within : i ≤ n
  pub left : all_records test stride b (at + stride * i) (n - i) ≡ all_records test stride b at n

pub scan_start : (test : List ℕ → ℕ → Bool) (stride : ℕ) (b : List ℕ) (at n : ℕ) → Scanned test stride b at n 0
scan_start test stride b at n =
    let k : at + stride * 0 ≡ at = omega arith in
    let m : n - 0 ≡ n = omega arith in
    record { within = omega arith; left = λ j. all_records test stride b (k j) (m j) }

module _ {test : List ℕ → ℕ → Bool} {stride : ℕ} {b : List ℕ} {at n i : ℕ} (e : Scanned test stride b at n i) where
  scan_step : i < n
      → test b (at + stride * i) && all_records test stride b (at + stride * i + stride) (n - (i + 1)) ≡ all_records test stride b at n
  unfolding all_records
  scan_step h =
      let m : n - i ≡ suc (n - (i + 1)) = omega arith in
      ap (all_records test stride b (at + stride * i)) (sym m) ∙ e.left

  pub scan_more : (q : Bool) → i < n → q ≡ test b (at + stride * i) → q ≡ true → Scanned test stride b at n (i + 1)
  scan_more q h eq g =
      let k : at + stride * (i + 1) ≡ at + stride * i + stride = omega arith in
      record {
        within = omega arith;
        left = ap (λ x. all_records test stride b x (n - (i + 1))) k ∙ (rw (← eq, g) at (scan_step h));
      }

  pub scan_bad : (q : Bool) → i < n → q ≡ test b (at + stride * i) → q ≡ false → false ≡ all_records test stride b at n
  scan_bad q h eq g = rw (← eq, g) at (scan_step h)

  pub scan_end : n ≤ i → true ≡ all_records test stride b at n
  unfolding all_records
  scan_end h =
      let m : 0 ≡ n - i = omega arith in
      ap (all_records test stride b (at + stride * i)) m ∙ e.left

pub scan_last : {test : List ℕ → ℕ → Bool} {stride : ℕ} {b : List ℕ} {at n i : ℕ} → Scanned test stride b at n i → i < n → n ≤ i + 1
    → (r : Bool) → r ≡ test b (at + stride * i) → r ≡ all_records test stride b at n
scan_last e h l true er = scan_end (scan_more e true h er refl) l
scan_last e h l false er = scan_bad e false h er refl

-- two records in a pass
module _ {test : List ℕ → ℕ → Bool} {stride : ℕ} {b : List ℕ} {at n i : ℕ} (e : Scanned test stride b at n (2 * i)) where
  module _ (h : i < n / 2) (q : Bool) (eq : q ≡ test b (at + stride * (2 * i))) (gq : q ≡ true) (p : Bool)
      (ep : p ≡ test b (at + stride * (2 * i) + stride)) where
    one_more : Scanned test stride b at n (2 * i + 1)
    one_more = scan_more e q (omega arith) eq gq

    second : p ≡ test b (at + stride * (2 * i + 1))
    second =
        let k : at + stride * (2 * i) + stride ≡ at + stride * (2 * i + 1) = omega arith in
        ep ∙ ap (test b) k

    pub second_bad : p ≡ false → false ≡ all_records test stride b at n
    second_bad = scan_bad one_more p (omega arith) second

    pub two_more : p ≡ true → Scanned test stride b at n (2 * (i + 1))
    two_more gp =
        let j : 2 * i + 1 + 1 ≡ 2 * (i + 1) = omega arith in
        subst (Scanned test stride b at n) j (scan_more one_more p (omega arith) second gp)

  pub last_decides : n / 2 ≤ i → n % 2 ≢ 0 → (r : Bool) → r ≡ test b (at + stride * (n - 1)) → r ≡ all_records test stride b at n
  last_decides l o r er =
      let within = e.within in
      let k : n - 1 ≡ 2 * i = omega arith in
      scan_last e (omega arith) (omega arith) r (er ∙ ap (λ x. test b (at + stride * x)) k)

-- two records that end within l bytes, and the last of an odd number
module _ (l at stride n m : ℕ) (room : 4 * (at + stride * n) ≤ l) (words : m ≤ stride) where
  pub two_end : (i : ℕ) → i < n / 2 → 4 * (at + stride * (2 * i) + stride + m) ≤ l
  two_end i h =
      let some : 2 * i + 2 ≤ n = omega arith in
      omega (arith, room, mul-le-mul_left stride some)

  pub last_ends : n % 2 ≢ 0 → 4 * (at + stride * (n - 1) + m) ≤ l
  last_ends h =
      let some : n - 1 + 1 ≤ n = omega arith in
      omega (arith, room, mul-le-mul_left stride some)

-- a record of a part that ends within l bytes ends there too
pub record_ends : (l at stride size n i : ℕ) → stride ≡ size → i < n → 4 * (at + size * n) ≤ l → 4 * (at + stride * i + size) ≤ l
record_ends l at stride size n i e h r =
    let some : suc i ≤ n = omega arith in
    subst (λ k. 4 * (at + k * i + size) ≤ l) (sym e) (omega (arith, r, mul-le-mul_left size some))

-- The rules that depend on the place.
module _ (s : Shape) (place : ℕ) where
  pub tries_leaf : place ≡ 2 → s.threshold - 1 ≡ greatest_tries s place
  unfolding greatest_tries pick
  tries_leaf e = rw (eq-eqb place 2 e) refl

  pub tries_else : (place ≡ 2 → ⊥) → s.threshold ≡ greatest_tries s place
  unfolding greatest_tries pick
  tries_else n = rw (ne_eqb place 2 n) refl

module _ (place node : ℕ) (q : Bool) (eq : q ≡ between 11 place 16) where
  pub not_mending : q ≡ false → 0 ≡ greatest_waiting place node
  unfolding greatest_waiting pick
  not_mending h = rw (← eq, h) refl

  module _ (h : q ≡ true) (l : ℕ) (e : l ≡ level node) where
    few_levels : l ≤ 32
    few_levels = omega (arith, level_most node)

    pub mending_none : l ≡ 0 → 0 ≡ greatest_waiting place node
    unfolding greatest_waiting pick
    mending_none z = rw (← eq, h, ← e, z) refl

    module _ (n : l ≡ 0 → ⊥) where
      pub mark_shift : l - 1 < 32
      mark_shift = omega (arith, few_levels)

      pub mark_some : 1 ≤ (1 * 2 ^ (l - 1)) % 2 ^ 32
      mark_some = rw (shifted 32 (l - 1) mark_shift) (pow_pos (l - 1))

      pub mending_marks : (1 * 2 ^ (l - 1)) % 2 ^ 32 - 1 ≡ greatest_waiting place node
      unfolding greatest_waiting pick
      mending_marks = rw (shifted 32 (l - 1) mark_shift, ← eq, h, ← e) refl

-- "Counters .. are free": a node's counter passes, of one word or of two, so its first three words decide.
any_high : (cells : ℕ) (b : List ℕ) → Bytes b → (at : ℕ)
    → bounded b at (cells ∷ 1 ∷ any_word ∷ any_word ∷ []) ≡ bounded b at (cells ∷ 1 ∷ any_word ∷ [])
unfolding bounded
any_high cells b h at =
    let fits = word_fits b (suc (suc (suc at))) h in
    rw (le-leb (word b (suc (suc (suc at)))) any_word (omega arith)) refl

pub node_test : {w : ℕ} → Width w → (cells : ℕ) (b : List ℕ) → Bytes b → (at : ℕ)
    → bounded b at (cells ∷ 1 ∷ any_word ∷ []) ≡ node_readable w cells b at
node_test one_word cells b h at = refl
node_test two_words cells b h at = sym (any_high cells b h at)

all_same : (test other : List ℕ → ℕ → Bool) (stride : ℕ) (b : List ℕ) → ((at : ℕ) → test b at ≡ other b at) → (at n : ℕ)
    → all_records test stride b at n ≡ all_records other stride b at n
unfolding all_records
all_same test other stride b h at zero = refl
all_same test other stride b h at (suc n) = λ i. h at i && all_same test other stride b h (at + stride) n i

-- A node copy is a node and a cell behind it; three stand one behind the other.
pub copy_test : {w : ℕ} → Width w → (cells : ℕ) (b : List ℕ) (at : ℕ)
    → node_readable w cells b at && cell_readable cells b (at + node_size w) ≡ bounded b at (copy_maxima w cells)
copy_test {w} wide cells b at =
    ap (λ k. node_readable w cells b at && cell_readable cells b (at + k)) (sym (node_long wide (greatest_node cells)))
    ∙ sym (bounded_behind b (node_maxima w cells) (cell_maxima cells) at)

pub copies_test : {w : ℕ} → Width w → (cells : ℕ) (b : List ℕ) (at : ℕ) → let c = copy_maxima w cells in
    bounded b at c && (bounded b (at + copy_size w) c && bounded b (at + 2 * copy_size w) c) ≡ bounded b at (c ++ (c ++ c))
copies_test {w} wide cells b at =
    let c = copy_maxima w cells in
    let long : length c ≡ copy_size w = copy_long wide (greatest_copy cells) in
    let second : at + length c ≡ at + copy_size w = ap (λ k. at + k) long in
    let third : at + length c + length c ≡ at + 2 * copy_size w = omega (arith, long) in
    sym
    (bounded_behind b c (c ++ c) at
    ∙ ap (λ q. bounded b at c && q)
    (bounded_behind b c c (at + length c) ∙ (λ i. bounded b (second i) c && bounded b (third i) c)))

module _ {w : ℕ} (wide : Width w) (cells : ℕ) (b : List ℕ) (at : ℕ) (q : Bool) (eq : q ≡ bounded b at (copy_maxima w cells)) where
  abbrev three : List ℕ
  three = copy_maxima w cells ++ (copy_maxima w cells ++ copy_maxima w cells)

  abbrev third : Bool
  third = bounded b (at + 2 * copy_size w) (copy_maxima w cells)

  pub first_copy_bad : q ≡ false → false ≡ bounded b at three
  first_copy_bad n =
      ap (λ x. x && (bounded b (at + copy_size w) (copy_maxima w cells) && third)) (sym n ∙ eq) ∙ copies_test wide cells b at

  module _ (gq : q ≡ true) (k : Bool) (ek : k ≡ bounded b (at + copy_size w) (copy_maxima w cells)) where
    pub second_copy_bad : k ≡ false → false ≡ bounded b at three
    second_copy_bad n = (λ i. (sym gq ∙ eq) i && ((sym n ∙ ek) i && third)) ∙ copies_test wide cells b at

    pub third_copy_decides : k ≡ true → (r : Bool) → r ≡ third → r ≡ bounded b at three
    third_copy_decides gk r er = (λ i. (sym gq ∙ eq) i && ((sym gk ∙ ek) i && er i)) ∙ copies_test wide cells b at

-- Two tests, the second of which is made where the first passes.
pub first_decides : {a s p : Bool} (z : Bool) → a && z ≡ s → p ≡ a → p ≡ false → p ≡ s
first_decides z e ep f = f ∙ ap (λ x. x && z) (sym f ∙ ep) ∙ e

pub second_decides : {a z s p r : Bool} → a && z ≡ s → p ≡ a → p ≡ true → r ≡ z → r ≡ s
second_decides e ep t er = (λ i. (sym t ∙ ep) i && er i) ∙ e

-- A thread's record: the first test that fails decides.
module _ (w : ℕ) (s : Shape) (b : List ℕ) (at : ℕ) where
  abbrev copies : List ℕ
  copies = copy_maxima w s.cells ++ (copy_maxima w s.cells ++ copy_maxima w s.cells)

  abbrev tries : Bool
  tries = leb (word b (at + tries_word)) (greatest_tries s (word b (at + place_word)))

  abbrev waiting : Bool
  waiting = leb (word b (at + waiting_word)) (greatest_waiting (word b (at + place_word)) (word b (at + node_word)))

  parts : bounded b at (field_maxima s) && bounded b (at + 15) copies && tries && waiting ≡ thread_readable w s b at
  unfolding thread_passes
  parts = ap (λ x. x && tries && waiting) (sym (bounded_behind b (field_maxima s) copies at))

  module _ (q : Bool) (eq : q ≡ bounded b at (field_maxima s)) where
    pub fields_bad : q ≡ false → false ≡ thread_readable w s b at
    fields_bad n = ap (λ x. x && bounded b (at + 15) copies && tries && waiting) (sym n ∙ eq) ∙ parts

    module _ (gq : q ≡ true) (k : Bool) (ek : k ≡ bounded b (at + 15) copies) where
      pub copies_bad : k ≡ false → false ≡ thread_readable w s b at
      copies_bad n = (λ i. (sym gq ∙ eq) i && (sym n ∙ ek) i && tries && waiting) ∙ parts

      module _ (gk : k ≡ true) (p : ℕ) (ep : p ≡ word b (at + place_word)) (m : ℕ) (em : m ≡ greatest_tries s p) (t : ℕ)
          (et : t ≡ word b (at + tries_word)) where
        tries_test : leb t m ≡ tries
        tries_test = λ i. leb (et i) ((em ∙ ap (greatest_tries s) ep) i)

        pub tries_bad : m < t → false ≡ thread_readable w s b at
        tries_bad h =
            (λ i. (sym gq ∙ eq) i && (sym gk ∙ ek) i && (sym (lt-leb t m h) ∙ tries_test) i && waiting) ∙ parts

        pub thread_rest : t ≤ m → (v : ℕ) → v ≡ word b (at + waiting_word) → (n : ℕ) → n ≡ word b (at + node_word) → (x : ℕ)
            → x ≡ greatest_waiting p n → leb v x ≡ thread_readable w s b at
        thread_rest h v ev n en x ex =
            (λ i. (sym gq ∙ eq) i && (sym gk ∙ ek) i && (sym (le-leb t m h) ∙ tries_test) i
            && leb (ev i) ((ex ∙ (λ j. greatest_waiting (ep j) (en j))) i))
            ∙ parts

-- The parts of a frame whose counters have w words, in the code's terms.
module _ {w : ℕ} (f : Frame) (b : List ℕ) (g : WithinOfWidth w f (length b)) where
  pub width_of : Width w
  width_of = subst Width g.width g.within.width

  module _ (size i : ℕ) where
    pub thread_ends : size ≡ thread_size w → i < f.shape.threads → ThreadWithin w f.shape (length b) (f.threads + size * i)
    thread_ends e h =
        record {
          width = width_of;
          shape = g.within.shape;
          within =
              record_ends (length b) f.threads size (thread_size w) f.shape.threads i e h
              (subst (λ k. 4 * (f.threads + k * f.shape.threads) ≤ length b) (g.within.stride ∙ ap thread_size g.width) g.within.threads);
        }

  pub nodes_end : (size n : ℕ) → size ≡ node_size w → n ≡ node_count f.shape → 4 * (f.nodes + size * n) ≤ length b
  nodes_end size n e en =
      subst₂ (λ k m. 4 * (f.nodes + k * m) ≤ length b) (ap node_size g.width ∙ sym e) (sym en) g.within.nodes

  module _ (r : Bool) (size : ℕ) where
    pub nodes_decide : Bytes b → size ≡ node_size w → (n : ℕ) → n ≡ node_count f.shape
        → r ≡ all_records (λ l k. bounded l k (f.shape.cells ∷ 1 ∷ any_word ∷ [])) size b f.nodes n
        → r ≡ all_records (node_readable f.width f.shape.cells) (node_size f.width) b f.nodes (node_count f.shape)
    nodes_decide bytes e n en er =
        er
        ∙ (λ i. all_records (λ l k. bounded l k (f.shape.cells ∷ 1 ∷ any_word ∷ [])) (e i) b f.nodes (en i))
        ∙ all_same (λ l k. bounded l k (f.shape.cells ∷ 1 ∷ any_word ∷ [])) (node_readable w f.shape.cells) (node_size w) b
        (node_test width_of f.shape.cells b bytes) f.nodes (node_count f.shape)
        ∙ ap (λ v. all_records (node_readable v f.shape.cells) (node_size v) b f.nodes (node_count f.shape)) (sym g.width)

    pub threads_decide : size ≡ thread_size w → r ≡ all_records (thread_readable w f.shape) size b f.threads f.shape.threads
        → r ≡ all_records (thread_readable f.width f.shape) f.stride b f.threads f.shape.threads
    threads_decide e er =
        er
        ∙ (λ i. all_records (thread_readable (sym g.width i) f.shape) ((e ∙ ap thread_size (sym g.width) ∙ sym g.within.stride) i) b f.threads f.shape.threads)

-- The shape and the length, in a region whose counters have w words: the first test that fails decides.
pub too_short : (w : ℕ) (b : List ℕ) → length b < 16 → false ≡ is_whole_of_width w b
unfolding region_words_of_width
too_short w b h = go (shape_fits (shape_in b)) (eqb (length b) (4 * region_words_of_width w (shape_in b))) refl
  where
    go : (q m : Bool) → eqb (length b) (4 * region_words_of_width w (shape_in b)) ≡ m → false ≡ q && m
    go true true e = absurd (let l = eqb-true (length b) (4 * region_words_of_width w (shape_in b)) e in omega arith)
    go true false e = refl
    go false m e = refl

-- The whole region: the shape and the length, then the fields.
module _ {w : ℕ} (wide : Width w) (b : List ℕ) (q : Bool) (eq : q ≡ is_whole_of_width w b) where
  pub not_whole : q ≡ false → false ≡ readable_of_width w b
  unfolding readable_of_width
  not_whole n = rw (← eq, n) refl

  module _ (gq : q ≡ true) where
    whole : is_whole_of_width w b ≡ true
    whole = sym eq ∙ gq

    exact_length : length b ≡ 4 * region_words_of_width w (shape_in b)
    exact_length =
        eqb-true (length b) (4 * region_words_of_width w (shape_in b))
        (and_right (shape_fits (shape_in b)) (eqb (length b) (4 * region_words_of_width w (shape_in b))) whole)

    pub long_enough : 16 ≤ length b
    unfolding region_words_of_width
    long_enough = omega (arith, exact_length)

    module _ (s : Shape) (es : s ≡ shape_in b) where
      pub shape_in_range : InRange s
      shape_in_range =
          subst InRange (sym es)
          (in_range (shape_in b) (and_left (shape_fits (shape_in b)) (eqb (length b) (4 * region_words_of_width w (shape_in b))) whole))

      module _ (f : Frame) (ef : f ≡ frame_of_width w s) where
        frame_is : f ≡ frame_of_width w (shape_in b)
        frame_is = ef ∙ ap (frame_of_width w) es

        pub fields_within : WithinOfWidth w f (length b)
        unfolding frame_of_width
        fields_within =
            subst (λ x. WithinOfWidth w x (length b)) (sym frame_is)
            (let framed = frame_framed wide (shape_in b) (length b) exact_length in
            record {
              width = refl;
              within =
                  record {
                    width = wide;
                    shape = subst InRange es shape_in_range;
                    depth = omega (arith, framed.depth);
                    free = omega (arith, framed.free);
                    nodes = framed.nodes;
                    cells = framed.cells;
                    threads = framed.threads;
                    stride = refl;
                  };
            })

        pub readable_rest : (r : Bool) → r ≡ fields_readable f b → r ≡ readable_of_width w b
        unfolding readable_of_width
        readable_rest r er = rw (← eq, gq) (er ∙ ap (λ x. fields_readable x b) frame_is)
