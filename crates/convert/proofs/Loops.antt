-- One pass of each loop and each way out of the functions, over plain variables. Assumes nothing.
use Prim.Native.Nat.{ℕ, zero, suc, ◌+◌, ◌-◌, ◌*◌, ◌≤◌, ◌<◌}
use native.Mathlib.Omega.{arith}
use mathlib.Core.Path.{◌≡◌, refl, sym, ap, subst, ◌∙◌}
use mathlib.Core.Bool.{Bool, true, false, not}
use mathlib.Core.List.{List, ◌++◌}
use borrow.Author.Tests.{eq-eqb, eqb-true, ne_eqb, not-true, not-false}
use lib.Dec.{eqb}
use lib.ListN.{length, length-append}
use Rattle.words.specs.Word.{words_at, set_words}
use Rattle.words.proofs.Laws.{length-set_words, set_words_behind}
use Rattle.region.specs.Frame.{frame_of, frame_of_width}
use Rattle.region.specs.Inner.{InRange, one_word}
use Rattle.std.specs.Prelude.{Ok}
use Rattle.region.specs.Refusal.{Checked, code_of}
use Rattle.region.specs.Pick.{pick}
use Rattle.region.specs.Record.{old_counter_size, cell_size}
use Rattle.region.specs.Shape.{head_size, node_count, region_words, region_words_of_width}
use Rattle.region.specs.declared.frame.Frame.{Frame}
use Rattle.region.specs.declared.shape.Shape.{Shape}
use Rattle.region.proofs.Shapes.{words_most}
use Rattle.readable.specs.Readable.{shape_in}
use Rattle.readable.proofs.Laws.{length_of_width, shape_of_width}
use Rattle.convert.specs.Convert.{Converted, all_carried, convert_check, convert_refusal, converted_bytes, converted_words, copy_carried, node_carried, old_readable, thread_carried}
use Rattle.convert.specs.Inner.{Exact, Room, cell_carried}

-- Words that are stored one after the other: those left from here on, stored in b, make the whole, xs stored in b₀ from word `to` on.
pub record Stored (b₀ b : List ℕ) (to : ℕ) (xs : List ℕ) (at : ℕ) (left : List ℕ) : Type 0 where
  pub rest : set_words b at left ≡ set_words b₀ to xs
  pub long : length b ≡ length b₀

-- some of the words left are stored
stored_more : {b₀ b : List ℕ} {to : ℕ} {xs : List ℕ} {at : ℕ} (ws left : List ℕ) (b' : List ℕ) (next : ℕ) → Stored b₀ b to xs at (ws ++ left)
    → b' ≡ set_words b at ws → next ≡ at + length ws → Stored b₀ b' to xs next left
stored_more {b = b} {at = at} ws left b' next e eb en =
    record {
      rest = (λ i. set_words (eb i) (en i) left) ∙ sym (set_words_behind ws left b at) ∙ e.rest;
      long = ap length eb ∙ length-set_words ws b at ∙ e.long;
    }

-- Records carried over, i of them stored: `stride` words from one old record to the next, `size` words each in the new region.
pub record Carrying (words : List ℕ → ℕ → List ℕ) (stride size : ℕ) (old : List ℕ) (from : ℕ) (b₀ b : List ℕ) (to count i : ℕ) : Type 0 where
  pub within : i ≤ count
  pub stored : Stored b₀ b to (all_carried words stride old from count) (to + size * i) (all_carried words stride old (from + stride * i) (count - i))

module _ (words : List ℕ → ℕ → List ℕ) (stride size : ℕ) (long : (b : List ℕ) (k : ℕ) → length (words b k) ≡ size) where
  module _ {old : List ℕ} {from : ℕ} {b₀ b : List ℕ} {to count i : ℕ} (e : Carrying words stride size old from b₀ b to count i) where
    pub carry_more : (b' : List ℕ) → i < count → b' ≡ set_words b (to + size * i) (words old (from + stride * i))
        → Carrying words stride size old from b₀ b' to count (i + 1)
    unfolding all_carried
    carry_more b' h eb =
        let n : count - i ≡ suc (count - (i + 1)) = omega arith in
        let k : from + stride * i + stride ≡ from + stride * (i + 1) = omega arith in
        let s = subst (λ m. Stored b₀ b to (all_carried words stride old from count) (to + size * i) (all_carried words stride old (from + stride * i) m)) n e.stored in
        record {
          within = omega arith;
          stored =
              subst (λ j. Stored b₀ b' to (all_carried words stride old from count) (to + size * (i + 1)) (all_carried words stride old j (count - (i + 1)))) k
              (stored_more (words old (from + stride * i)) _ b' (to + size * (i + 1)) s eb (omega (arith, long old (from + stride * i))));
        }

    pub carry_end : count ≤ i → b ≡ set_words b₀ to (all_carried words stride old from count)
    unfolding all_carried
    carry_end h =
        let none : count - i ≡ 0 = omega arith in
        subst (λ m. set_words b (to + size * i) (all_carried words stride old (from + stride * i) m) ≡ set_words b₀ to (all_carried words stride old from count))
        none e.stored.rest

-- how many words each record has
pub node_size_lem : (b : List ℕ) (k : ℕ) → length (node_carried b k) ≡ 4
node_size_lem b k = refl

pub cell_size_lem : (b : List ℕ) (k : ℕ) → length (cell_carried b k) ≡ 3
cell_size_lem b k = refl

pub thread_size_lem : (b : List ℕ) (k : ℕ) → length (thread_carried b k) ≡ 36
thread_size_lem b k = refl

-- three node copies behind the first words; `second` and `third` are where the code finds them
pub thread_stored : (old b b₁ b₂ b₃ b₄ : List ℕ) (from to k₁ k₂ k₃ j₁ j₂ j₃ : ℕ) → b₁ ≡ set_words b to (words_at old from 15)
    → b₂ ≡ set_words b₁ j₁ (copy_carried old k₁) → b₃ ≡ set_words b₂ j₂ (copy_carried old k₂) → b₄ ≡ set_words b₃ j₃ (copy_carried old k₃)
    → k₁ ≡ from + 15 → k₂ ≡ from + 21 → k₃ ≡ from + 27 → j₁ ≡ to + 15 → j₂ ≡ to + 15 + 7 → j₃ ≡ to + 15 + 7 + 7
    → b₄ ≡ set_words b to (thread_carried old from)
thread_stored old b b₁ b₂ b₃ b₄ from to k₁ k₂ k₃ j₁ j₂ j₃ e₁ e₂ e₃ e₄ f₁ f₂ f₃ t₁ t₂ t₃ =
    let ws = words_at old from 15 in
    let q = copy_carried old (from + 15) in
    let r = copy_carried old (from + 21) in
    let s = copy_carried old (from + 27) in
    let g₂ : b₂ ≡ set_words (set_words b to ws) (to + 15) q = e₂ ∙ (λ i. set_words (e₁ i) (t₁ i) (copy_carried old (f₁ i))) in
    let g₃ : b₃ ≡ set_words (set_words (set_words b to ws) (to + 15) q) (to + 15 + 7) r =
    e₃ ∙ (λ i. set_words (g₂ i) (t₂ i) (copy_carried old (f₂ i))) in
    e₄
    ∙ (λ i. set_words (g₃ i) (t₃ i) (copy_carried old (f₃ i)))
    ∙ sym
    (set_words_behind ws (q ++ (r ++ s)) b to
    ∙ set_words_behind q (r ++ s) (set_words b to ws) (to + 15)
    ∙ set_words_behind r s (set_words (set_words b to ws) (to + 15) q) (to + 15 + 7))

-- where the parts of a new region lie
pub length_words : (b : List ℕ) (at n : ℕ) → length (words_at b at n) ≡ n
length_words b at zero = refl
length_words b at (suc n) = ap suc (length_words b (suc at) n)

pub length_all : (words : List ℕ → ℕ → List ℕ) (stride size : ℕ) → ((b : List ℕ) (k : ℕ) → length (words b k) ≡ size)
    → (b : List ℕ) (at n : ℕ) → length (all_carried words stride b at n) ≡ size * n
unfolding all_carried
length_all words stride size long b at zero = omega arith
length_all words stride size long b at (suc n) =
    length-append (words b at) (all_carried words stride b (at + stride) n)
    ∙ omega (arith, long b at, length_all words stride size long b (at + stride) n)

-- cells carried over are their words, one behind the other
cells_words : (b : List ℕ) (at n : ℕ) → all_carried cell_carried 3 b at n ≡ words_at b at (cell_size * n)
unfolding all_carried
cells_words b at zero = refl
cells_words b at (suc n) =
    let k : at + 3 ≡ suc (suc (suc at)) = omega arith in
    let m : suc (suc (suc (3 * n))) ≡ cell_size * suc n = omega arith in
    ap (λ xs. cell_carried b at ++ xs) (cells_words b (at + 3) n)
    ∙ (λ i. cell_carried b at ++ words_at b (k i) (cell_size * n))
    ∙ ap (words_at b at) m

pub all_stored : (s : Shape) (old b b₁ b₂ b₃ b₄ : List ℕ) (f g : Frame) (n m t : ℕ) → f ≡ frame_of_width old_counter_size s → g ≡ frame_of s
    → n ≡ node_count s → m ≡ s.cells → t ≡ s.threads → b₁ ≡ set_words b 0 (words_at old 0 head_size)
    → b₂ ≡ set_words b₁ g.nodes (all_carried node_carried 3 old f.nodes n) → b₃ ≡ set_words b₂ g.cells (all_carried cell_carried 3 old f.cells m)
    → b₄ ≡ set_words b₃ g.threads (all_carried thread_carried 33 old f.threads t)
    → b₄ ≡ set_words b 0 (converted_words (frame_of_width old_counter_size s) old)
unfolding converted_words frame_of_width
all_stored s old b b₁ b₂ b₃ b₄ f g n m t ef eg en em et e₁ e₂ e₃ e₄ =
    let o = frame_of_width old_counter_size s in
    let hs = words_at old 0 head_size in
    let ns = all_carried node_carried 3 old o.nodes (node_count s) in
    let cs = words_at old o.cells (cell_size * s.cells) in
    let ts = all_carried thread_carried 33 old o.threads s.threads in
    let ln = length_all node_carried 3 4 node_size_lem old o.nodes (node_count s) in
    let lc = length_words old o.cells (cell_size * s.cells) in
    let k₂ : (frame_of s).nodes ≡ 0 + length hs = refl in
    let k₃ : (frame_of s).cells ≡ 0 + length hs + length ns = omega (arith, ln) in
    let k₄ : (frame_of s).threads ≡ 0 + length hs + length ns + length cs = omega (arith, ln, lc) in
    let g₂ : b₂ ≡ set_words (set_words b 0 hs) (0 + length hs) ns =
    e₂ ∙ (λ i. set_words (e₁ i) (eg i).nodes (all_carried node_carried 3 old (ef i).nodes (en i))) ∙ (λ i. set_words (set_words b 0 hs) (k₂ i) ns) in
    let g₃ : b₃ ≡ set_words (set_words (set_words b 0 hs) (0 + length hs) ns) (0 + length hs + length ns) cs =
    e₃ ∙ (λ i. set_words (g₂ i) (eg i).cells (all_carried cell_carried 3 old (ef i).cells (em i)))
    ∙ (λ i. set_words (set_words (set_words b 0 hs) (0 + length hs) ns) (frame_of s).cells (cells_words old o.cells s.cells i))
    ∙ (λ i. set_words (set_words (set_words b 0 hs) (0 + length hs) ns) (k₃ i) cs) in
    e₄
    ∙ (λ i. set_words (g₃ i) (eg i).threads (all_carried thread_carried 33 old (ef i).threads (et i)))
    ∙ (λ i. set_words (set_words (set_words (set_words b 0 hs) (0 + length hs) ns) (0 + length hs + length ns) cs) (k₄ i) ts)
    ∙ sym
    (set_words_behind hs (ns ++ (cs ++ ts)) b 0
    ∙ set_words_behind ns (cs ++ ts) (set_words b 0 hs) (0 + length hs)
    ∙ set_words_behind cs ts (set_words (set_words b 0 hs) (0 + length hs) ns) (0 + length hs + length ns))

-- the room of each part
module _ (s : Shape) (l r : ℕ) (e : Exact s l r) (f g : Frame) (ef : f ≡ frame_of_width old_counter_size s) (eg : g ≡ frame_of s) where
  pub nodes_room : (n : ℕ) → n ≡ node_count s → Room l f.nodes (3 * n) r g.nodes (4 * n)
  unfolding frame_of_width region_words_of_width
  nodes_room n en =
      record {
        source = omega (arith, e.source, en, ap (λ x. x.nodes) ef);
        target = omega (arith, e.target, en, ap (λ x. x.nodes) eg);
      }

  pub cells_room : (m : ℕ) → m ≡ s.cells → Room l f.cells (3 * m) r g.cells (3 * m)
  unfolding frame_of_width region_words_of_width
  cells_room m em =
      record {
        source = omega (arith, e.source, em, ap (λ x. x.cells) ef);
        target = omega (arith, e.target, em, ap (λ x. x.cells) eg);
      }

  pub threads_room : (t : ℕ) → t ≡ s.threads → Room l f.threads (33 * t) r g.threads (36 * t)
  unfolding frame_of_width region_words_of_width
  threads_room t et =
      record {
        source = omega (arith, e.source, et, ap (λ x. x.threads) ef);
        target = omega (arith, e.target, et, ap (λ x. x.threads) eg);
      }

pub head_room : (s : Shape) (l r : ℕ) → Exact s l r → Room l 0 head_size r 0 head_size
unfolding region_words_of_width
head_room s l r e = record { source = omega (arith, e.source); target = omega (arith, e.target) }

-- The refusals in order.
module _ (old : List ℕ) (l : ℕ) (q : Bool) (eq : q ≡ old_readable old) where
  module _ (gq : not q ≡ false) where
    pub can_be_read : old_readable old ≡ true
    can_be_read = sym eq ∙ not-false q gq

    pub old_long : 16 ≤ length old
    unfolding region_words_of_width
    old_long = omega (arith, length_of_width one_word old can_be_read)

    module _ (s : Shape) (es : s ≡ shape_in old) where
      pub old_shape : InRange s
      old_shape = subst InRange (sym es) (shape_of_width one_word old can_be_read)

-- a conversion that is not refused has an old region that can be read and a slice of the right length
module _ (old : List ℕ) (l : ℕ) (e : convert_refusal old l ≡ 0) where
  passed : (q : Bool) → old_readable old ≡ q → old_readable old ≡ true
  unfolding convert_refusal pick
  passed true h = h
  passed false h = absurd (let z : 7 ≡ 0 = rw h at e in omega (arith, z))

  pub accepted_readable : old_readable old ≡ true
  accepted_readable = passed (old_readable old) refl

  fits : (q : Bool) → eqb l (4 * region_words (shape_in old)) ≡ q → l ≡ 4 * region_words (shape_in old)
  unfolding convert_refusal pick
  fits true h = eqb-true l (4 * region_words (shape_in old)) h
  fits false h = absurd (let z : 2 ≡ 0 = rw (accepted_readable, h) at e in omega (arith, z))

  pub accepted_length : l ≡ 4 * region_words (shape_in old)
  accepted_length = fits (eqb l (4 * region_words (shape_in old))) refl

module _ (old b : List ℕ) {r : Checked} {x : Unit {0}} (e : r ≡ convert_check old (length b)) (z : r ≡ Ok x) where
  accepted : convert_refusal old (length b) ≡ 0
  unfolding convert_refusal
  accepted = ap code_of (sym e ∙ z)

  pub accepted_long : 16 ≤ length old
  unfolding region_words_of_width
  accepted_long = omega (arith, length_of_width one_word old (accepted_readable old (length b) accepted))

  module _ (s : Shape) (es : s ≡ shape_in old) where
    pub exact : Exact s (length old) (length b)
    exact =
        subst (λ x. Exact x (length old) (length b)) (sym es)
        (let ready = accepted_readable old (length b) accepted in
        record {
          shape = shape_of_width one_word old ready;
          source = length_of_width one_word old ready;
          target = accepted_length old (length b) accepted;
        })
