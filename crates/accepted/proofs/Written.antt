-- A slice that is written from records has them, where their words fit, and is bytes. Assumes nothing.
use Prim.Native.Nat.{ℕ, zero, suc, ◌+◌, ◌*◌, ◌/◌, ◌%◌, ◌<◌}
use native.Mathlib.Omega.{arith}
use mathlib.Core.Path.{◌≡◌, refl, ap, ◌∙◌}
use mathlib.Core.List.{List, [], ◌∷◌, ◌++◌}
use lib.ListN.{length, get_or, replicate, set, length-replicate, get_or-append}
use lib.Seq.{get_or-append-add}
use Rattle.words.specs.Inner.{Bytes, Fit}
use Rattle.words.specs.Word.{set_word, set_words, word}
use Rattle.words.proofs.Laws.{length-set_words, word_stored}
use Rattle.records.specs.Recorded.{recorded_at}
use Rattle.records.specs.declared.form.Recorded.{Recorded}
use Rattle.accepted.specs.Slices.{HasRecords, no_record, all_words, record_words, written}

length_words : (rs : List Recorded) → length (all_words rs) ≡ 7 * length rs
unfolding all_words
length_words [] = refl
length_words (r ∷ rs) = let e = length_words rs in omega (arith, e)

-- word j of record k
word_of : (rs : List Recorded) (k j : ℕ) → k < length rs → j < 7
    → get_or (all_words rs) (7 * k + j) 0 ≡ get_or (record_words (get_or rs k no_record)) j 0
unfolding all_words
word_of [] k j l m = absurd (omega arith)
word_of (r ∷ rs) zero j l m =
    let e : 7 * 0 + j ≡ j = omega arith in
    ap (λ i. get_or (record_words r ++ all_words rs) i 0) e ∙ get_or-append (record_words r) (all_words rs) 0 j m
word_of (r ∷ rs) (suc k) j l m =
    let e : 7 * suc k + j ≡ 7 + (7 * k + j) = omega arith in
    ap (λ i. get_or (record_words r ++ all_words rs) i 0) e
    ∙ get_or-append-add (record_words r) (all_words rs) (7 * k + j) 0
    ∙ word_of rs k j (omega arith) m

-- every record's words fit
abbrev pub AllFit : List Recorded → Type 0
AllFit [] = Unit
AllFit (r ∷ rs) = Fit (record_words r) × AllFit rs

all_fit : (rs : List Recorded) → AllFit rs → Fit (all_words rs)
unfolding all_words
all_fit [] f = tt
all_fit (r ∷ rs) f =
    let w = f.0 in
    (w.0, (w.1.0, (w.1.1.0, (w.1.1.1.0, (w.1.1.1.1.0, (w.1.1.1.1.1.0, (w.1.1.1.1.1.1.0, all_fit rs f.1)))))))

module _ (rs : List Recorded) (f : AllFit rs) where
  long : length (written rs) ≡ 28 * length rs
  long = length-set_words (all_words rs) (replicate (28 * length rs) 0) 0 ∙ length-replicate (28 * length rs) 0

  read : (k j i : ℕ) → k < length rs → j < 7 → i ≡ 7 * k + j → word (written rs) i ≡ get_or (record_words (get_or rs k no_record)) j 0
  read k j i l m e =
      let at : i ≡ 0 + (7 * k + j) = omega (arith, e) in
      ap (word (written rs)) at
      ∙ word_stored (all_words rs) (replicate (28 * length rs) 0) 0 (7 * k + j)
      (let a = length_words rs in let b = length-replicate {A = ℕ} (28 * length rs) 0 in omega (arith, a, b)) (all_fit rs f)
      (let a = length_words rs in omega (arith, a, l, m))
      ∙ word_of rs k j l m

  pub has_written : HasRecords (written rs) rs
  unfolding recorded_at
  has_written =
      record {
        long = long;
        order =
            record {
              which = λ k. k;
              when = λ i. i;
              which_below = λ k h. h;
              when_below = λ i h. h;
              when_which = λ k h. refl;
              which_when = λ i h. refl;
            };
        each = λ k l x. record {
          kind = read k 0 (7 * k) l (omega arith) (omega arith) x;
          thread = read k 1 (suc (7 * k)) l (omega arith) (omega arith) x;
          begin = read k 2 (suc (suc (7 * k))) l (omega arith) (omega arith) x;
          answer = read k 3 (suc (suc (suc (7 * k)))) l (omega arith) (omega arith) x;
          position = read k 4 (suc (suc (suc (suc (7 * k))))) l (omega arith) (omega arith) x;
          item = record {
            key = read k 5 (suc (suc (suc (suc (suc (7 * k)))))) l (omega arith) (omega arith) x;
            tag = read k 6 (suc (suc (suc (suc (suc (suc (7 * k))))))) l (omega arith) (omega arith) x;
          };
        };
      }

-- it is bytes
set_byte : (b : List ℕ) (k v : ℕ) → Bytes b → v < 256 → Bytes (set b k v)
set_byte [] k v h l i = h i
set_byte (x ∷ xs) zero v h l zero = l
set_byte (x ∷ xs) zero v h l (suc i) = h (suc i)
set_byte (x ∷ xs) (suc k) v h l zero = h zero
set_byte (x ∷ xs) (suc k) v h l (suc i) = set_byte xs k v (λ j. h (suc j)) l i

set_word_lem : (b : List ℕ) (k v : ℕ) → Bytes b → Bytes (set_word b k v)
unfolding set_word
set_word_lem b k v h =
    let b₁ = set b (4 * k) (v % 256) in
    let b₂ = set b₁ (4 * k + 1) (v / 256 % 256) in
    let b₃ = set b₂ (4 * k + 2) (v / 65536 % 256) in
    let h₁ = set_byte b (4 * k) (v % 256) h (omega arith) in
    let h₂ = set_byte b₁ (4 * k + 1) (v / 256 % 256) h₁ (omega arith) in
    let h₃ = set_byte b₂ (4 * k + 2) (v / 65536 % 256) h₂ (omega arith) in
    set_byte b₃ (4 * k + 3) (v / 16777216 % 256) h₃ (omega arith)

set_words_lem : (vs b : List ℕ) (at : ℕ) → Bytes b → Bytes (set_words b at vs)
set_words_lem [] b at h = h
set_words_lem (v ∷ vs) b at h = set_words_lem vs (set_word b at v) (suc at) (set_word_lem b at v h)

zero_bytes : (n : ℕ) → Bytes (replicate n 0)
zero_bytes zero i = omega arith
zero_bytes (suc n) zero = omega arith
zero_bytes (suc n) (suc i) = zero_bytes n i

pub written_bytes : (rs : List Recorded) → Bytes (written rs)
written_bytes rs = set_words_lem (all_words rs) (replicate (28 * length rs) 0) 0 (zero_bytes (28 * length rs))
