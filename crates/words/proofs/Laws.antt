-- The laws of words, one or several in a row: what was stored is read back, other words and the length stay, and what is read fits 32 bits.
-- Assumes nothing.
use Prim.Native.Nat.{ℕ, zero, suc, ◌+◌, ◌*◌, ◌/◌, ◌%◌, ◌^◌, ◌≤◌, ◌<◌}
use native.Mathlib.Nat.{add-zero, add-suc, suc-add, div-div-eq-div-mul}
use native.Mathlib.Omega.{arith}
use mathlib.Core.Path.{◌≡◌, refl, sym, ap, ◌∙◌}
use mathlib.Core.Logic.{◌≢◌, ◌⊎◌, inl, inr, ⊎_elim}
use mathlib.Core.List.{List, [], ◌∷◌, ◌++◌}
use lib.ListN.{length, get_or, set, length-set}
use lib.Seq.{get_or-set_same, get_or-set_other}
use Rattle.words.specs.Word.{word, set_word, words_at, set_words}
use Rattle.words.specs.Inner.{Bytes, Fit}

-- Lengths stay.
pub length-set_word : (b : List ℕ) (k v : ℕ) → length (set_word b k v) ≡ length b
unfolding set_word
length-set_word b k v = simp length-set

pub length-set_words : (vs b : List ℕ) (at : ℕ) → length (set_words b at vs) ≡ length b
length-set_words [] b at = refl
length-set_words (v ∷ vs) b at = length-set_words vs (set_word b at v) (suc at) ∙ length-set_word b at v

-- A number is the sum of its four bytes.
bytes_sum : (v : ℕ) → v < 2 ^ 32
    → v % 256 + 256 * (v / 256 % 256) + 65536 * (v / 65536 % 256) + 16777216 * (v / 16777216 % 256) ≡ v
bytes_sum v h = rw (← div-div-eq-div-mul v 256 256, ← div-div-eq-div-mul v 65536 256, ← div-div-eq-div-mul v 256 256) (omega arith)

-- Four stores in a row: what they leave elsewhere, and what is read back.
one : List ℕ → ℕ → ℕ → List ℕ
one b i p = set b i p

two : List ℕ → ℕ → ℕ → ℕ → List ℕ
unfolding one
two b i p q = set (one b i p) (i + 1) q

three : List ℕ → ℕ → ℕ → ℕ → ℕ → List ℕ
unfolding two
three b i p q r = set (two b i p q) (i + 2) r

four : List ℕ → ℕ → ℕ → ℕ → ℕ → ℕ → List ℕ
unfolding three
four b i p q r s = set (three b i p q r) (i + 3) s

module _ (b : List ℕ) (i p q r s : ℕ) where
  four_other : (j : ℕ) → j ≢ i → j ≢ i + 1 → j ≢ i + 2 → j ≢ i + 3 → get_or (four b i p q r s) j 0 ≡ get_or b j 0
  unfolding four
  four_other j h₀ h₁ h₂ h₃ =
      get_or-set_other (three b i p q r) (i + 3) j s 0 h₃
      ∙ get_or-set_other (two b i p q) (i + 2) j r 0 h₂
      ∙ get_or-set_other (one b i p) (i + 1) j q 0 h₁
      ∙ get_or-set_other b i j p 0 h₀

  module _ (h : i + 4 ≤ length b) where
    four_0 : get_or (four b i p q r s) i 0 ≡ p
    unfolding four
    four_0 =
        get_or-set_other (three b i p q r) (i + 3) i s 0 (omega arith)
        ∙ get_or-set_other (two b i p q) (i + 2) i r 0 (omega arith)
        ∙ get_or-set_other (one b i p) (i + 1) i q 0 (omega arith)
        ∙ get_or-set_same b i p 0 (omega arith)

    four_1 : get_or (four b i p q r s) (i + 1) 0 ≡ q
    unfolding four
    four_1 =
        get_or-set_other (three b i p q r) (i + 3) (i + 1) s 0 (omega arith)
        ∙ get_or-set_other (two b i p q) (i + 2) (i + 1) r 0 (omega arith)
        ∙ get_or-set_same (one b i p) (i + 1) q 0 (simp length-set (omega arith))

    four_2 : get_or (four b i p q r s) (i + 2) 0 ≡ r
    unfolding four
    four_2 =
        get_or-set_other (three b i p q r) (i + 3) (i + 2) s 0 (omega arith)
        ∙ get_or-set_same (two b i p q) (i + 2) r 0 (simp length-set (omega arith))

    four_3 : get_or (four b i p q r s) (i + 3) 0 ≡ s
    unfolding four
    four_3 = get_or-set_same (three b i p q r) (i + 3) s 0 (simp length-set (omega arith))

-- Byte by byte.
module _ (b : List ℕ) (k v : ℕ) where
  pub byte_other : (j : ℕ) → j ≢ 4 * k → j ≢ 4 * k + 1 → j ≢ 4 * k + 2 → j ≢ 4 * k + 3 → get_or (set_word b k v) j 0 ≡ get_or b j 0
  unfolding set_word four
  byte_other j = four_other b (4 * k) (v % 256) (v / 256 % 256) (v / 65536 % 256) (v / 16777216 % 256) j

  module _ (h : 4 * k + 4 ≤ length b) where
    pub byte_0 : get_or (set_word b k v) (4 * k) 0 ≡ v % 256
    unfolding set_word four
    byte_0 = four_0 b (4 * k) (v % 256) (v / 256 % 256) (v / 65536 % 256) (v / 16777216 % 256) h

    pub byte_1 : get_or (set_word b k v) (4 * k + 1) 0 ≡ v / 256 % 256
    unfolding set_word four
    byte_1 = four_1 b (4 * k) (v % 256) (v / 256 % 256) (v / 65536 % 256) (v / 16777216 % 256) h

    pub byte_2 : get_or (set_word b k v) (4 * k + 2) 0 ≡ v / 65536 % 256
    unfolding set_word four
    byte_2 = four_2 b (4 * k) (v % 256) (v / 256 % 256) (v / 65536 % 256) (v / 16777216 % 256) h

    pub byte_3 : get_or (set_word b k v) (4 * k + 3) 0 ≡ v / 16777216 % 256
    unfolding set_word four
    byte_3 = four_3 b (4 * k) (v % 256) (v / 256 % 256) (v / 65536 % 256) (v / 16777216 % 256) h

-- What was stored is read back.
pub word_same : (b : List ℕ) (k v : ℕ) → 4 * k + 4 ≤ length b → v < 2 ^ 32 → word (set_word b k v) k ≡ v
unfolding word set_word four
word_same b k v h f =
    let p = v % 256 in
    let q = v / 256 % 256 in
    let r = v / 65536 % 256 in
    let s = v / 16777216 % 256 in
    rw
    (four_0 b (4 * k) p q r s h, four_1 b (4 * k) p q r s h, four_2 b (4 * k) p q r s h, four_3 b (4 * k) p q r s h)
    (bytes_sum v f)

-- What lies apart is left alone.
pub word_other : (b : List ℕ) (k j v : ℕ) → j ≢ k → word (set_word b k v) j ≡ word b j
unfolding word set_word four
word_other b k j v n =
    let p = v % 256 in
    let q = v / 256 % 256 in
    let r = v / 65536 % 256 in
    let s = v / 16777216 % 256 in
    rw (
      four_other b (4 * k) p q r s (4 * j) (omega arith) (omega arith) (omega arith) (omega arith),
      four_other b (4 * k) p q r s (4 * j + 1) (omega arith) (omega arith) (omega arith) (omega arith),
      four_other b (4 * k) p q r s (4 * j + 2) (omega arith) (omega arith) (omega arith) (omega arith),
      four_other b (4 * k) p q r s (4 * j + 3) (omega arith) (omega arith) (omega arith) (omega arith),
    )
    refl

-- What is read fits 32 bits.
pub word_fits : (b : List ℕ) (k : ℕ) → Bytes b → word b k < 2 ^ 32
unfolding word
word_fits b k h = omega (arith, h (4 * k), h (4 * k + 1), h (4 * k + 2), h (4 * k + 3))

-- Several words in a row. A word before the stored ones or behind them is left alone.
pub word_apart : (vs b : List ℕ) (at k : ℕ) → (k < at) ⊎ (at + length vs ≤ k) → word (set_words b at vs) k ≡ word b k
word_apart [] b at k o = refl
word_apart (v ∷ vs) b at k o =
    word_apart vs (set_word b at v) (suc at) k (⊎_elim (λ h. inl (omega arith)) (λ h. inr (omega arith)) o)
    ∙ word_other b at k v (⊎_elim (λ h. omega arith) (λ h. omega arith) o)

-- What is read depends on the words that are read alone.
pub words_at_reads : (b b' : List ℕ) (at n : ℕ) → ((i : ℕ) → at ≤ i → i < at + n → word b i ≡ word b' i)
    → words_at b at n ≡ words_at b' at n
words_at_reads b b' at zero h = refl
words_at_reads b b' at (suc n) h =
    cc (h at (omega arith) (omega arith), words_at_reads b b' (suc at) n (λ i l u. h i (omega arith) (omega arith)))

-- Words stored in a row are read back,
pub words_at_same : (vs b : List ℕ) (at : ℕ) → 4 * (at + length vs) ≤ length b → Fit vs
    → words_at (set_words b at vs) at (length vs) ≡ vs
words_at_same [] b at h f = refl
words_at_same (v ∷ vs) b at h f =
    cc (
      word_apart vs (set_word b at v) (suc at) at (inl (omega arith)),
      word_same b at v (omega arith) f.0,
      words_at_same vs (set_word b at v) (suc at) (rw length-set_word (omega arith)) f.1,
    )

-- and so is each of them.
pub word_stored : (vs b : List ℕ) (at i : ℕ) → 4 * (at + length vs) ≤ length b → Fit vs → i < length vs
    → word (set_words b at vs) (at + i) ≡ get_or vs i 0
word_stored (v ∷ vs) b at zero h f l =
    ap (word (set_words (set_word b at v) (suc at) vs)) (add-zero at)
    ∙ word_apart vs (set_word b at v) (suc at) at (inl (omega arith))
    ∙ word_same b at v (omega arith) f.0
word_stored (v ∷ vs) b at (suc i) h f l =
    ap (word (set_words (set_word b at v) (suc at) vs)) (add-suc at i ∙ sym (suc-add at i))
    ∙ word_stored vs (set_word b at v) (suc at) i (rw length-set_word (omega arith)) f.1 (omega arith)
word_stored [] b at i h f l = absurd (omega arith)

-- Words read in a row are the words one by one, and two lists stored one behind the other are stored as one list.
pub word_among : (b : List ℕ) (at n i : ℕ) → i < n → get_or (words_at b at n) i 0 ≡ word b (at + i)
word_among b at zero i l = absurd (omega arith)
word_among b at (suc n) zero l = ap (word b) (sym (add-zero at))
word_among b at (suc n) (suc i) l = word_among b (suc at) n i (omega arith) ∙ ap (word b) (suc-add at i ∙ sym (add-suc at i))

pub set_words_behind : (vs ws b : List ℕ) (at : ℕ) → set_words b at (vs ++ ws) ≡ set_words (set_words b at vs) (at + length vs) ws
set_words_behind [] ws b at = ap (λ k. set_words b k ws) (sym (add-zero at))
set_words_behind (v ∷ vs) ws b at =
    set_words_behind vs ws (set_word b at v) (suc at)
    ∙ ap (λ k. set_words (set_words (set_word b at v) (suc at) vs) k ws) (suc-add at (length vs) ∙ sym (add-suc at (length vs)))
