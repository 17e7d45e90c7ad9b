-- A row printed: sums of figures, quotient and remainder, and the loops over columns and rows, over plain variables. Assumes nothing.
use Prim.Native.Nat.{ℕ, zero, suc, ◌+◌, ◌*◌, ◌^◌, ◌≤◌, ◌<◌}
use native.Mathlib.Numerals.{add-one}
use native.Mathlib.Omega.{arith}
use mathlib.Core.Path.{◌≡◌, refl, sym, ap, subst, ◌∙◌}
use mathlib.Core.List.{List, [], ◌∷◌, ◌++◌}
use lib.ListN.{length, get_or, take, drop, length-append, length-take, drop_of_length-le}
use lib.Seq.{drop-cons}
use Rattle.std.specs.Prelude.{sum as list_sum}
use Rattle.std.proofs.lemmas.List.Sums.{sum_by-cons}
use Rattle.script.specs.Inner.{Appends}
use Rattle.script.specs.Printing.{number_text}
use Rattle.script.proofs.Decimals.{number_most}
use Rattle.script.specs.declared.text.Text.{Text}
use Rattle.script.proofs.Texts.{Appending, append_end, append_more, append_start, appends_length, appends_more}
use Rattle.figures.specs.Figures.{accesses, operations, rest, sum, whole}
use Rattle.figures.specs.Report.{ratio_text, row_text, spaced}
use Rattle.figures.specs.Inner.{Most, RowRoom, RowsRoom, figures_text, rows_text}

-- Sums: of few figures, none of them great; and as the definitions add them up.
pub most_sum : (xs : List ℕ) → Most 60000 xs → sum xs ≤ 60000 * length xs
most_sum [] h = omega arith
most_sum (x ∷ xs) h = omega (arith, h.each 0, most_sum xs (record { each = λ k. h.each (suc k) }))

pub same_sum : (xs : List ℕ) → list_sum xs ≡ sum xs
same_sum [] = refl
same_sum (x ∷ xs) = omega (arith, sum_by-cons (λ n. n) x xs, same_sum xs)

pub take_most : (n : ℕ) (l : List ℕ) → Most 60000 l → Most 60000 (take n l)
take_most n l h = record { each = λ k. go n l (λ j. h.each j) k }
  where
    go : (n : ℕ) (l : List ℕ) → ((k : ℕ) → get_or l k 0 ≤ 60000) → (k : ℕ) → get_or (take n l) k 0 ≤ 60000
    go zero l h k = omega arith
    go (suc n) [] h k = omega arith
    go (suc n) (x ∷ l) h zero = h zero
    go (suc n) (x ∷ l) h (suc k) = go n l (λ j. h (suc j)) k

pub drop_most : (n : ℕ) (l : List ℕ) → Most 60000 l → Most 60000 (drop n l)
drop_most zero l h = h
drop_most (suc n) [] h = record { each = λ k. omega arith }
drop_most (suc n) (x ∷ l) h = drop_most n l (record { each = λ k. h.each (suc k) })

-- the sum of some figures of a row
part_sum : (xs : List ℕ) → length xs ≤ 11 → Most 60000 xs → list_sum xs < 2 ^ 32
part_sum xs few h = omega (arith, most_sum xs h, same_sum xs)

module _ {n : ℕ} {t : Text} {l : List ℕ} (h : RowRoom n t l) where
  pub access_sum : list_sum (take 6 l) < 2 ^ 32
  access_sum = part_sum (take 6 l) (omega (arith, length-take 6 l)) (take_most 6 l h.few)

  pub operation_sum : list_sum (take 4 (drop 7 l)) < 2 ^ 32
  operation_sum = part_sum (take 4 (drop 7 l)) (omega (arith, length-take 4 (drop 7 l))) (take_most 4 (drop 7 l) (drop_most 7 l h.few))

pub rest_room : {t t₁ : Text} (w : ℕ) → Appends t t₁ (number_text w 32) → t.len + 22 ≤ length t.out.now → t₁.len + 11 ≤ length t₁.out.now
rest_room w g h = omega (arith, number_most w 32, g.wrote.next, appends_length g)

pub ratio_wrote : {t t₁ t₂ : Text} (a n w r : ℕ) → Appends t₁ t₂ (number_text r 10) → r ≡ rest a n → Appends t t₁ (number_text w 32)
    → w ≡ whole a n → Appends t t₂ (ratio_text a n)
unfolding ratio_text
ratio_wrote {t} {t₁} {t₂} a n w r g er f ew =
    appends_more
    (subst (λ x. Appends t t₁ (number_text x 32)) ew f)
    (subst (λ x. Appends t₁ t₂ (number_text x 10)) er g)

pub ratio_most : (a n : ℕ) → length (ratio_text a n) ≤ 22
unfolding ratio_text
ratio_most a n =
    omega (arith, length-append (number_text (whole a n) 32) (number_text (rest a n) 10), number_most (whole a n) 32, number_most (rest a n) 10)

-- The columns: what is left of them, written from here, gives the whole.
pub spaced_most : (ns : List ℕ) → length (spaced ns) ≤ 11 * length ns
unfolding spaced
spaced_most [] = omega arith
spaced_most (n ∷ ns) = omega (arith, length-append (number_text n 32) (spaced ns), number_most n 32, spaced_most ns)

pub record Columns (t₀ : Text) (l : List ℕ) (t : Text) (k : ℕ) : Type 0 where
  pub able : RowRoom 121 t₀ l
  pub within : k ≤ 11
  pub used : t.len ≤ t₀.len + 11 * k
  pub appending : Appending t₀ (spaced l) t (spaced (drop k l))

pub columns_start : (t : Text) (l : List ℕ) → RowRoom 121 t l → Columns t l t 0
columns_start t l h =
    record { able = h; within = omega arith; used = omega arith; appending = append_start t (spaced l) (omega (arith, h.room)) }

module _ {t₀ : Text} {l : List ℕ} {t : Text} {k : ℕ} (e : Columns t₀ l t k) where
  pub columns_end : 11 ≤ k → Appends t₀ t (spaced l)
  unfolding spaced
  columns_end h = append_end e.appending (ap spaced (drop_of_length-le l (omega (arith, e.able.columns))))

  module _ (h : k < 11) where
    left_spaced : spaced (drop k l) ≡ number_text (get_or l k 0) 32 ++ spaced (drop (k + 1) l)
    unfolding spaced
    left_spaced =
        ap spaced (drop-cons l k 0 (omega (arith, e.able.columns))) ∙ ap (λ m. number_text (get_or l k 0) 32 ++ spaced (drop m l)) (sym (add-one k))

    pub column_room : t.len + 11 ≤ length t.out.now
    column_room = omega (arith, e.used, e.able.room, e.appending.printing.same)

    pub columns_more : {t' : Text} → Appends t t' (number_text (get_or l k 0) 32) → Columns t₀ l t' (k + 1)
    columns_more w =
        record {
          able = e.able;
          within = omega (arith, e.able.columns);
          used = omega (arith, e.used, w.wrote.next, number_most (get_or l k 0) 32);
          appending = append_more e.appending _ _ left_spaced w;
        }

-- A row: its figures and its ratio, behind script and thread.
module _ (l : List ℕ) where
  pub ratio_room : {t t₁ : Text} → Appends t t₁ (spaced l) → RowRoom 143 t l → t₁.len + 22 ≤ length t₁.out.now
  ratio_room w h = omega (arith, spaced_most l, h.columns, w.wrote.next, appends_length w, h.room)

  pub figures_wrote : {t t₁ t₂ : Text} (x y : ℕ) → Appends t₁ t₂ (ratio_text x y) → Appends t t₁ (spaced l)
      → y ≡ list_sum (take 4 (drop 7 l)) → x ≡ list_sum (take 6 l) → Appends t t₂ (figures_text l)
  unfolding figures_text
  figures_wrote {t} {t₁} {t₂} x y w₂ w₁ ey ex =
      appends_more w₁
      (subst (λ z. Appends t₁ t₂ (ratio_text z (operations l))) (ex ∙ same_sum (take 6 l))
      (subst (λ z. Appends t₁ t₂ (ratio_text x z)) (ey ∙ same_sum (take 4 (drop 7 l))) w₂))

pub figures_most : (fs : List ℕ) → length fs ≤ 11 → length (figures_text fs) ≤ 143
unfolding figures_text
figures_most fs h =
    omega
    (arith, length-append (spaced fs) (ratio_text (accesses fs) (operations fs)), spaced_most fs, ratio_most (accesses fs) (operations fs))

pub thread_room : {t t₁ : Text} (l : List ℕ) (n : ℕ) → Appends t t₁ (number_text n 32) → RowRoom 165 t l → t₁.len + 11 ≤ length t₁.out.now
thread_room l n w h = omega (arith, number_most n 32, w.wrote.next, appends_length w, h.room)

pub figures_room : {t t₁ t₂ : Text} (l : List ℕ) (thread n : ℕ) → Appends t₁ t₂ (number_text thread 32) → Appends t t₁ (number_text n 32)
    → RowRoom 165 t l → RowRoom 143 t₂ l
figures_room l thread n w₂ w₁ h =
    record {
      room =
          omega (
            arith,
            number_most n 32,
            w₁.wrote.next,
            appends_length w₁,
            number_most thread 32,
            w₂.wrote.next,
            appends_length w₂,
            h.room,
          );
      columns = h.columns;
      few = h.few;
    }

pub row_wrote : {t t₁ t₂ t₃ : Text} (script thread : ℕ) (fs : List ℕ) → Appends t₂ t₃ (figures_text fs)
    → Appends t₁ t₂ (number_text thread 32) → Appends t t₁ (number_text script 32) → Appends t t₃ (row_text script thread fs)
unfolding row_text figures_text
row_wrote script thread fs w₃ w₂ w₁ = appends_more w₁ (appends_more w₂ w₃)

pub row_most : (script thread : ℕ) (fs : List ℕ) → length fs ≤ 11 → length (row_text script thread fs) ≤ 165
unfolding row_text figures_text
row_most script thread fs h =
    omega (
      arith,
      length-append (number_text script 32) (number_text thread 32 ++ figures_text fs),
      length-append (number_text thread 32) (figures_text fs),
      number_most script 32,
      number_most thread 32,
      figures_most fs h,
    )

-- The rows: what is left of them, written from here, gives the whole.
pub record Rows (t₀ : Text) (script : ℕ) (rs : List (List ℕ)) (t : Text) (k : ℕ) : Type 0 where
  pub able : RowsRoom t₀ rs
  pub within : k ≤ length rs
  pub used : t.len ≤ t₀.len + 165 * k
  pub appending : Appending t₀ (rows_text script 0 rs) t (rows_text script k (drop k rs))

pub rows_start : (t : Text) (script : ℕ) (rs : List (List ℕ)) → RowsRoom t rs → Rows t script rs t 0
rows_start t script rs h =
    record {
      able = h;
      within = omega arith;
      used = omega arith;
      appending = append_start t (rows_text script 0 rs) (omega (arith, h.room));
    }

module _ {t₀ : Text} {script : ℕ} {rs : List (List ℕ)} {t : Text} {k : ℕ} (e : Rows t₀ script rs t k) where
  pub rows_end : length rs ≤ k → Appends t₀ t (rows_text script 0 rs)
  unfolding rows_text
  rows_end h = append_end e.appending (ap (rows_text script k) (drop_of_length-le rs h))

  module _ (h : k < length rs) where
    left_rows : rows_text script k (drop k rs) ≡ row_text script (k + 1) (get_or rs k []) ++ rows_text script (k + 1) (drop (k + 1) rs)
    unfolding rows_text
    left_rows =
        ap (rows_text script k) (drop-cons rs k [] h)
        ∙ ap (λ m. row_text script m (get_or rs k []) ++ rows_text script m (drop m rs)) (sym (add-one k))

    pub row_room : RowRoom 165 t (get_or rs k [])
    row_room =
        record {
          room = omega (arith, e.used, e.able.room, e.appending.printing.same);
          columns = e.able.columns k h;
          few = e.able.few k;
        }

    pub rows_more : {t' : Text} → Appends t t' (row_text script (k + 1) (get_or rs k [])) → Rows t₀ script rs t' (k + 1)
    rows_more w =
        record {
          able = e.able;
          within = omega arith;
          used = omega (arith, e.used, w.wrote.next, row_most script (k + 1) (get_or rs k []) (omega (arith, e.able.columns k h)));
          appending = append_more e.appending _ _ left_rows w;
        }
