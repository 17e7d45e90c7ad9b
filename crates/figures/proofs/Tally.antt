-- Counting turns in rows of figures: the lengths stay, no figure grows by more than three a turn, and each figure is the count of the turns
-- that pass its column's test. The columns in which a turn counts come to one or none for each test, so a row's figure grows by one where
-- the test is passed; by induction over the turns. A row of the table counts its thread's turns. Assumes nothing.
use Prim.Native.Nat.{ℕ, zero, suc, ◌+◌, ◌-◌, ◌≤◌, ◌<◌}
use native.Mathlib.Nat.{add-zero, zero-add}
use native.Mathlib.Omega.{arith}
use mathlib.Core.Path.{◌≡◌, refl, sym, ap, subst, ◌∙◌}
use mathlib.Core.Bool.{Bool, true, false, not, ◌&&◌, true≢false}
use mathlib.Core.List.{List, [], ◌∷◌, ◌++◌}
use borrow.Author.Tests.{eqb-true, eqb-false, ne_eqb, ltb-true, ltb-false}
use lib.Dec.{eqb, ltb}
use lib.ListN.{length, get_or, set, take, drop, replicate, length-set, length-replicate, drop_of_length-le}
use lib.Seq.{drop-cons, get_or-set_same, get_or-set_other}
use Rattle.region.specs.Pick.{pick}
use Rattle.region.specs.Shape.{between}
use Rattle.region.specs.Thread.{is_idle}
use Rattle.region.specs.declared.answer.Answer.{Answer}
use Rattle.region.specs.declared.answer.Answer.TheVariants.{Moved, Idle, Inserted, Took, Empty, Refused, Withdrawn}
use Rattle.region.specs.declared.place.Place.{Place}
use Rattle.region.specs.declared.record.Item.{Item}
use Rattle.region.specs.declared.thread.Thread.{Thread}
use Rattle.region.proofs.Picks.{pick_good}
use Rattle.region.proofs.Shapes.{and_right, between_least, between_most, is_between}
use Rattle.access.specs.declared.plan.Plan.{Plan}
use Rattle.kinds.specs.Kind.{access_kind, failed_update, makes_access}
use Rattle.figures.specs.Turns.{TurnMade}
use Rattle.figures.specs.Figures.{Test, answered_empty, answered_list, answered_put, answered_take, count, counts, figures, of_thread, is_empty, is_hand_out, is_inserted, is_of_kind, is_took, tests}
use Rattle.figures.specs.Report.{group_rows, row_text, thread_groups}
use Rattle.figures.specs.Inner.{Most, Table, access_column, added, answer_column, column_of, counted, failed_column, rows_text, tallied, tally, thread_rows, took_column, totalled}

-- The lengths stay.
pub added-length : (l : List ℕ) (k : ℕ) → length (added l k) ≡ length l
unfolding added
added-length l k = pick_good (λ (x : List ℕ). length x ≡ length l) (ltb k 11) (λ e. length-set l k (get_or l k 0 + 1)) (λ e. refl)

-- a row once a turn's access is counted, and once its failure is
abbrev first : List ℕ → Place → Plan → List ℕ
first l p q = added l (access_column p q)

abbrev second : List ℕ → Place → Plan → List ℕ
second l p q = added (first l p q) (failed_column p q)

pub counted-length : (l : List ℕ) (p : Place) (q : Plan) → length (counted l p q) ≡ length l
unfolding counted
counted-length l p q =
    added-length (second l p q) (answer_column p q) ∙ added-length (first l p q) (failed_column p q) ∙ added-length l (access_column p q)

pub totalled-length : (l : List ℕ) (vs : List TurnMade) → length (totalled l vs) ≡ length l
unfolding totalled
totalled-length l [] = refl
totalled-length l (v ∷ vs) = totalled-length (counted l v.place v.plan) vs ∙ counted-length l v.place v.plan

-- How far a figure grows.
pub most_more : {m n : ℕ} {l : List ℕ} → m ≤ n → Most m l → Most n l
most_more h f = record { each = λ k. omega (arith, f.each k) }

set_most : (n : ℕ) (l : List ℕ) (i a j : ℕ) → a ≤ n → get_or l j 0 ≤ n → get_or (set l i a) j 0 ≤ n
set_most n [] i a j ha hl = hl
set_most n (x ∷ xs) zero a zero ha hl = ha
set_most n (x ∷ xs) zero a (suc j) ha hl = hl
set_most n (x ∷ xs) (suc i) a zero ha hl = hl
set_most n (x ∷ xs) (suc i) a (suc j) ha hl = set_most n xs i a j ha hl

pub most_added : {m : ℕ} {l : List ℕ} (k : ℕ) → Most m l → Most (suc m) (added l k)
unfolding added
most_added {m} {l} k f =
    record {
      each = λ j. pick_good (λ x. get_or x j 0 ≤ suc m) (ltb k 11)
          (λ e. set_most (suc m) l k _ j (omega (arith, f.each k)) (omega (arith, f.each j)))
          (λ e. omega (arith, f.each j));
    }

pub most_counted : {m : ℕ} {l : List ℕ} (p : Place) (q : Plan) → Most m l → Most (m + 3) (counted l p q)
unfolding counted
most_counted p q f =
    most_more (omega arith)
    (most_added (answer_column p q) (most_added (failed_column p q) (most_added (access_column p q) f)))

-- A turn in the table: it counts in its thread's row, and the other rows stay.
row_tallied : (t : List (List ℕ)) (v : TurnMade) (i : ℕ) → i < 64 → length t ≡ 64
    → get_or (tallied t v) i [] ≡ pick (eqb v.thread (suc i)) (counted (get_or t i []) v.place v.plan) (get_or t i [])
unfolding tallied pick
row_tallied t v i few long =
    pick_good
    (λ (x : List (List ℕ)). get_or x i [] ≡ pick (eqb v.thread (suc i)) (counted (get_or t i []) v.place v.plan) (get_or t i []))
    (between 1 v.thread 64)
    (λ e. inside (between_least 1 v.thread 64 e) (between_most 1 v.thread 64 e) (eqb v.thread (suc i)) refl)
    (λ e. outside e (eqb v.thread (suc i)) refl)
  where
    inside : 1 ≤ v.thread → v.thread ≤ 64 → (q : Bool) → eqb v.thread (suc i) ≡ q
        → get_or (set t (v.thread - 1) (counted (get_or t (v.thread - 1) []) v.place v.plan)) i []
        ≡ pick q (counted (get_or t i []) v.place v.plan) (get_or t i [])
    inside least most true e =
        let same : v.thread - 1 ≡ i = omega (arith, eqb-true v.thread (suc i) e) in
        ap (λ n. get_or (set t n (counted (get_or t n []) v.place v.plan)) i []) same
        ∙ get_or-set_same t i (counted (get_or t i []) v.place v.plan) [] (omega arith)
    inside least most false e =
        get_or-set_other t (v.thread - 1) i (counted (get_or t (v.thread - 1) []) v.place v.plan) []
        (λ s. eqb-false v.thread (suc i) e (omega arith))

    outside : between 1 v.thread 64 ≡ false → (q : Bool) → eqb v.thread (suc i) ≡ q
        → get_or t i [] ≡ pick q (counted (get_or t i []) v.place v.plan) (get_or t i [])
    outside e true g =
        let own : v.thread ≡ suc i = eqb-true v.thread (suc i) g in
        absurd (true≢false (sym (is_between 1 v.thread 64 (omega arith) (omega arith)) ∙ e))
    outside e false g = refl

pub tallied-length : (t : List (List ℕ)) (v : TurnMade) → length (tallied t v) ≡ length t
unfolding tallied
tallied-length t v =
    pick_good (λ (x : List (List ℕ)). length x ≡ length t) (between 1 v.thread 64)
    (λ e. length-set t (v.thread - 1) (counted (get_or t (v.thread - 1) []) v.place v.plan))
    (λ e. refl)

pub no_row : (t : List (List ℕ)) (i : ℕ) → length t ≤ i → get_or t i [] ≡ []
no_row [] i h = refl
no_row (r ∷ t) zero h = absurd (omega arith)
no_row (r ∷ t) (suc i) h = no_row t i (omega arith)

pub table_more : {m n : ℕ} {t : List (List ℕ)} → m ≤ n → Table m t → Table n t
table_more h f = record { rows = f.rows; few = λ i. most_more h (f.few i); columns = f.columns }

pub table_tallied : {m : ℕ} {t : List (List ℕ)} (v : TurnMade) → Table m t → Table (m + 3) (tallied t v)
table_tallied {m} {t} v f =
    record {
      rows = tallied-length t v ∙ f.rows;
      few = λ i. few i (ltb i 64) refl;
      columns = λ i h.
          ap length (row_tallied t v i h f.rows)
          ∙ pick_good (λ (x : List ℕ). length x ≡ 11) (eqb v.thread (suc i))
          (λ e. counted-length (get_or t i []) v.place v.plan ∙ f.columns i h)
          (λ e. f.columns i h);
    }
  where
    few : (i : ℕ) (q : Bool) → ltb i 64 ≡ q → Most (m + 3) (get_or (tallied t v) i [])
    few i true e =
        subst (Most (m + 3)) (sym (row_tallied t v i (ltb-true i 64 e) f.rows))
        (pick_good (Most (m + 3)) (eqb v.thread (suc i)) (λ g. most_counted v.place v.plan (f.few i)) (λ g. most_more (omega arith) (f.few i)))
    few i false e =
        subst (Most (m + 3)) (sym (no_row (tallied t v) i (omega (arith, ltb-false i 64 e, tallied-length t v, f.rows))))
        (record { each = λ k. omega arith })

entry_zeros : (n k : ℕ) → get_or {A = ℕ} (replicate n 0) k 0 ≡ 0
entry_zeros zero k = refl
entry_zeros (suc n) zero = refl
entry_zeros (suc n) (suc k) = entry_zeros n k

pub most_zeros : (m n : ℕ) → Most m (replicate n 0)
most_zeros m n = record { each = λ k. omega (arith, entry_zeros n k) }

pub zero_row : (n i : ℕ) → i < n → get_or (replicate n (replicate 11 zero)) i [] ≡ replicate 11 0
zero_row zero i h = absurd (omega arith)
zero_row (suc n) zero h = refl
zero_row (suc n) (suc i) h = zero_row n i (omega arith)

pub table_zeros : (m : ℕ) → Table m (replicate 64 (replicate 11 zero))
table_zeros m =
    record {
      rows = length-replicate 64 (replicate 11 zero);
      few = λ i. few i (ltb i 64) refl;
      columns = λ i h. ap length (zero_row 64 i h) ∙ length-replicate 11 zero;
    }
  where
    few : (i : ℕ) (q : Bool) → ltb i 64 ≡ q → Most m (get_or (replicate 64 (replicate 11 zero)) i [])
    few i true e = subst (Most m) (sym (zero_row 64 i (ltb-true i 64 e))) (most_zeros m 11)
    few i false e =
        subst (Most m)
        (sym (no_row (replicate 64 (replicate 11 zero)) i (omega (arith, ltb-false i 64 e, length-replicate 64 (replicate 11 zero)))))
        (record { each = λ k. omega arith })

-- Counting goes on where it stopped.
pub tally-append : (l : List (List ℕ)) (vs ws : List TurnMade) → tally l (vs ++ ws) ≡ tally (tally l vs) ws
unfolding tally
tally-append l [] ws = refl
tally-append l (v ∷ vs) ws = tally-append (tallied l v) vs ws

pub totalled-append : (l : List ℕ) (vs ws : List TurnMade) → totalled l (vs ++ ws) ≡ totalled (totalled l vs) ws
unfolding totalled
totalled-append l [] ws = refl
totalled-append l (v ∷ vs) ws = totalled-append (counted l v.place v.plan) vs ws

-- An entry of a row: one more in its own column, and nothing elsewhere.
added_at : (l : List ℕ) (k j : ℕ) → j < 11 → length l ≡ 11 → get_or (added l k) j 0 ≡ get_or l j 0 + pick (eqb k j) 1 0
unfolding added
added_at l k j h room =
    pick_good (λ (n : ℕ). get_or (added l k) j 0 ≡ get_or l j 0 + n) (eqb k j)
    (λ e. subst (λ i. get_or (added l i) j 0 ≡ get_or l j 0 + 1) (sym (eqb-true k j e)) own)
    (λ e. other (eqb-false k j e))
  where
    own : get_or (added l j) j 0 ≡ get_or l j 0 + 1
    own =
        pick_good (λ (x : List ℕ). get_or x j 0 ≡ get_or l j 0 + 1) (ltb j 11)
        (λ e. get_or-set_same l j _ 0 (omega arith))
        (λ e. absurd (omega (arith, ltb-false j 11 e)))

    other : (k ≡ j → ⊥) → get_or (added l k) j 0 ≡ get_or l j 0 + 0
    other n =
        pick_good (λ (x : List ℕ). get_or x j 0 ≡ get_or l j 0 + 0) (ltb k 11)
        (λ e. get_or-set_other l k j _ 0 (λ s. n (sym s)) ∙ sym (add-zero _))
        (λ e. sym (add-zero _))

-- A column counts a test: of the columns in which a turn counts, it is one where the test is passed, else none.
record Column (k : ℕ) (test : Test) : Type 0 where
  few : k < 11
  same : (p : Place) (q : Plan)
      → pick (eqb (access_column p q) k) 1 0 + pick (eqb (failed_column p q) k) 1 0 + pick (eqb (answer_column p q) k) 1 0
      ≡ pick (test p q) 1 0

counted_at : {k : ℕ} {test : Test} → Column k test → (l : List ℕ) (p : Place) (q : Plan) → length l ≡ 11
    → get_or (counted l p q) k 0 ≡ get_or l k 0 + pick (test p q) 1 0
unfolding counted
counted_at {k} c l p q room =
    let long = added-length l (access_column p q) in
    let longer = added-length (first l p q) (failed_column p q) in
    omega (
      arith,
      added_at l (access_column p q) k c.few room,
      added_at (first l p q) (failed_column p q) k c.few (omega arith),
      added_at (second l p q) (answer_column p q) k c.few (omega arith),
      c.same p q,
    )

-- The columns in which a turn does not count.
no_kind : (p : Place) (q : Plan) (k : ℕ) → 6 ≤ k → k < 11 → access_column p q ≡ k → ⊥
unfolding access_column
no_kind p q k l h =
    pick_good (λ (c : ℕ). c ≡ k → ⊥) (makes_access q.answer && ltb (access_kind p) 6)
    (λ e s. omega (arith, ltb-true (access_kind p) 6 (and_right (makes_access q.answer) (ltb (access_kind p) 6) e)))
    (λ e s. omega arith)

no_failure : (p : Place) (q : Plan) (k : ℕ) → (6 ≡ k → ⊥) → k < 11 → failed_column p q ≡ k → ⊥
unfolding failed_column
no_failure p q k n h = pick_good (λ (c : ℕ). c ≡ k → ⊥) (failed_update p q) (λ e s. n s) (λ e s. omega arith)

took_from : (p : Place) (t : Thread) → 7 ≤ took_column p t
unfolding took_column
took_from p t =
    pick_good (λ (c : ℕ). 7 ≤ c) (is_hand_out p)
    (λ e. pick_good (λ (c : ℕ). 7 ≤ c) (is_idle t) (λ e. omega arith) (λ e. omega arith))
    (λ e. omega arith)

answer_from : (a : Answer) (p : Place) (t : Thread) → 7 ≤ column_of a p t
answer_from Moved p t = omega arith
answer_from Idle p t = omega arith
answer_from Inserted p t = omega arith
answer_from (Took i) p t = took_from p t
answer_from Empty p t = omega arith
answer_from (Refused n) p t = omega arith
answer_from Withdrawn p t = omega arith

no_answer : (p : Place) (q : Plan) (k : ℕ) → k < 7 → answer_column p q ≡ k → ⊥
unfolding answer_column
no_answer p q k h s = omega (arith, answer_from q.answer p q.thread)

none : {c : ℕ} (k : ℕ) → (c ≡ k → ⊥) → pick (eqb c k) 1 0 ≡ zero
unfolding pick
none {c} k h = rw (ne_eqb c k h) refl

-- The access's column, that of a failed update, and those of the answers.
of_kind : (m : Bool) (n k : ℕ) → k < 6 → eqb (pick (m && ltb n 6) n 11) k ≡ m && eqb n k
unfolding pick
of_kind false n k h = ne_eqb 11 k (omega arith)
of_kind true n k h =
    pick_good (λ (c : ℕ). eqb c k ≡ eqb n k) (ltb n 6) (λ e. refl)
    (λ e. ne_eqb 11 k (omega arith) ∙ sym (ne_eqb n k (omega (arith, ltb-false n 6 e))))

kind_column : (k : ℕ) → k < 6 → Column k (is_of_kind k)
unfolding access_column is_of_kind
kind_column k h =
    record {
      few = omega arith;
      same = λ p q.
          omega (
            arith,
            ap (λ b. pick b 1 zero) (of_kind (makes_access q.answer) (access_kind p) k h),
            none k (no_failure p q k (omega arith) (omega arith)),
            none k (no_answer p q k (omega arith)),
          );
    }

failure : (q : Bool) → eqb (pick q 6 11) 6 ≡ q
unfolding pick
failure true = refl
failure false = refl

failed_column_lem : Column 6 failed_update
unfolding failed_column
failed_column_lem =
    record {
      few = omega arith;
      same = λ p q.
          omega (
            arith,
            ap (λ b. pick b 1 zero) (failure (failed_update p q)),
            none 6 (no_kind p q 6 (omega arith) (omega arith)),
            none 6 (no_answer p q 6 (omega arith)),
          );
    }

answered_column : (k : ℕ) (test : Test) → 7 ≤ k → k < 11 → ((p : Place) (q : Plan) → eqb (answer_column p q) k ≡ test p q)
    → Column k test
answered_column k test l h e =
    record {
      few = h;
      same = λ p q.
          omega (
            arith,
            ap (λ b. pick b 1 zero) (e p q),
            none k (no_kind p q k (omega arith) h),
            none k (no_failure p q k (omega arith) h),
          );
    }

record Answers (c : ℕ) (a : Answer) (hands_out idle : Bool) : Type 0 where
  put : eqb c 7 ≡ is_inserted a
  one : eqb c 8 ≡ is_took a && not hands_out
  list : eqb c 9 ≡ is_took a && hands_out && idle
  empty : eqb c 10 ≡ is_empty a

took_answers : (i : Item) (h d : Bool) → Answers (pick h (pick d 9 11) 8) (Took i) h d
unfolding pick
took_answers i true true = search
took_answers i true false = search
took_answers i false d = search

answers : (a : Answer) (p : Place) (t : Thread) → Answers (column_of a p t) a (is_hand_out p) (is_idle t)
unfolding took_column
answers Moved p t = search
answers Idle p t = search
answers Inserted p t = search
answers (Took i) p t = took_answers i (is_hand_out p) (is_idle t)
answers Empty p t = search
answers (Refused n) p t = search
answers Withdrawn p t = search

put_column : Column 7 answered_put
unfolding answer_column answered_put
put_column = answered_column 7 answered_put (omega arith) (omega arith) λ p q. (answers q.answer p q.thread).put

take_column : Column 8 answered_take
unfolding answer_column answered_take
take_column = answered_column 8 answered_take (omega arith) (omega arith) λ p q. (answers q.answer p q.thread).one

list_column : Column 9 answered_list
unfolding answer_column answered_list
list_column = answered_column 9 answered_list (omega arith) (omega arith) λ p q. (answers q.answer p q.thread).list

empty_column : Column 10 answered_empty
unfolding answer_column answered_empty
empty_column = answered_column 10 answered_empty (omega arith) (omega arith) λ p q. (answers q.answer p q.thread).empty

-- These tests are counted in the columns from k on.
data Columns : ℕ → List Test → Type 0 where
  no_more : {k : ℕ} → Columns k []
  then : {k : ℕ} {test : Test} {ts : List Test} → Column k test → Columns (suc k) ts → Columns k (test ∷ ts)

columns : Columns 0 tests
columns =
    then (kind_column 0 (omega arith))
    (then (kind_column 1 (omega arith))
    (then (kind_column 2 (omega arith))
    (then (kind_column 3 (omega arith))
    (then (kind_column 4 (omega arith))
    (then (kind_column 5 (omega arith))
    (then failed_column_lem (then put_column (then take_column (then list_column (then empty_column no_more))))))))))

-- A row whose figures are the counts of its columns' tests is their list.
row_counts : {k : ℕ} {ts : List Test} → Columns k ts → (l : List ℕ) (vs : List TurnMade) → length l ≡ k + length ts
    → ((j : ℕ) (test : Test) → Column j test → get_or l j 0 ≡ count test vs) → drop k l ≡ counts ts vs
unfolding counts
row_counts no_more l vs room f = drop_of_length-le l (omega arith)
row_counts {k} (then {test = test} {ts = ts} c cs) l vs room f =
    drop-cons l k 0 (omega arith)
    ∙ ap (λ (x : ℕ). x ∷ drop (suc k) l) (f k test c)
    ∙ ap (λ (xs : List ℕ). count test vs ∷ xs) (row_counts cs l vs (omega arith) f)

-- A row: each figure is the count of all turns that pass the column's test.
totalled_at : {k : ℕ} {test : Test} → Column k test → (l : List ℕ) (vs : List TurnMade) → length l ≡ 11
    → get_or (totalled l vs) k 0 ≡ get_or l k 0 + count test vs
unfolding totalled count
totalled_at c l [] long = sym (add-zero _)
totalled_at {k} {test} c l (v ∷ vs) long =
    let one = counted_at c l v.place v.plan long in
    let more = totalled_at c (counted l v.place v.plan) vs (counted-length l v.place v.plan ∙ long) in
    omega (arith, one, more)

pub total_figures : (vs : List TurnMade) → totalled (replicate 11 0) vs ≡ figures vs
unfolding figures
total_figures vs =
    row_counts columns (totalled (replicate 11 0) vs) vs (totalled-length (replicate 11 0) vs ∙ length-replicate 11 zero)
    (λ j test c. omega (arith, totalled_at c (replicate 11 0) vs (length-replicate 11 zero), entry_zeros 11 j))

-- Turns of one thread, counted.
pub count_none : (test : Test) (t : ℕ) → count test (of_thread t []) ≡ 0
unfolding count of_thread
count_none test t = refl

pub count_group : (test : Test) (t : ℕ) (v : TurnMade) (vs : List TurnMade)
    → count test (of_thread t (v ∷ vs)) ≡ pick (eqb v.thread t) (pick (test v.place v.plan) 1 0) 0 + count test (of_thread t vs)
unfolding count of_thread pick
count_group test t v vs = chosen (eqb v.thread t)
  where
    chosen : (q : Bool)
        → count test (pick q (v ∷ of_thread t vs) (of_thread t vs)) ≡ pick q (pick (test v.place v.plan) 1 0) 0 + count test (of_thread t vs)
    chosen true = refl
    chosen false = sym (zero-add _)

-- A row of the table: the turns of its thread, counted.
row_tally : (t : List (List ℕ)) (vs : List TurnMade) (i : ℕ) → i < 64 → length t ≡ 64
    → get_or (tally t vs) i [] ≡ totalled (get_or t i []) (of_thread (suc i) vs)
unfolding tally totalled of_thread pick
row_tally t [] i few long = refl
row_tally t (v ∷ vs) i few long =
    row_tally (tallied t v) vs i few (tallied-length t v ∙ long)
    ∙ ap (λ r. totalled r (of_thread (suc i) vs)) (row_tallied t v i few long)
    ∙ ways (eqb v.thread (suc i))
  where
    ways : (q : Bool)
        → totalled (pick q (counted (get_or t i []) v.place v.plan) (get_or t i [])) (of_thread (suc i) vs)
        ≡ totalled (get_or t i []) (pick q (v ∷ of_thread (suc i) vs) (of_thread (suc i) vs))
    ways true = refl
    ways false = refl

abbrev pub zero_table : List (List ℕ)
zero_table = replicate 64 (replicate 11 zero)

table_row : (vs : List TurnMade) (i : ℕ) → i < 64 → get_or (tally zero_table vs) i [] ≡ figures (of_thread (suc i) vs)
table_row vs i few =
    row_tally zero_table vs i few (length-replicate 64 (replicate 11 zero))
    ∙ ap (λ r. totalled r (of_thread (suc i) vs)) (zero_row 64 i few)
    ∙ total_figures (of_thread (suc i) vs)

tally-length : (t : List (List ℕ)) (vs : List TurnMade) → length (tally t vs) ≡ length t
unfolding tally
tally-length t [] = refl
tally-length t (v ∷ vs) = tally-length (tallied t v) vs ∙ tallied-length t v

-- The rows as they stand in the table are those of the threads.
rows_from : (script : ℕ) (vs : List TurnMade) (i n : ℕ) → i + n ≤ 64
    → rows_text script i (take n (drop i (tally zero_table vs))) ≡ thread_rows script vs (suc i) n
unfolding rows_text thread_rows group_rows thread_groups
rows_from script vs i zero h = refl
rows_from script vs i (suc n) h =
    let there : i < length (tally zero_table vs) = omega (arith, tally-length zero_table vs, length-replicate 64 (replicate 11 zero)) in
    ap (λ rs. rows_text script i (take (suc n) rs)) (drop-cons (tally zero_table vs) i [] there)
    ∙ ap (λ r. row_text script (suc i) r ++ rows_text script (suc i) (take n (drop (suc i) (tally zero_table vs)))) (table_row vs i (omega arith))
    ∙ ap (λ xs. row_text script (suc i) (figures (of_thread (suc i) vs)) ++ xs) (rows_from script vs (suc i) n (omega arith))

pub table_rows : (script : ℕ) (vs : List TurnMade) (n : ℕ) → n ≤ 64
    → rows_text script 0 (take n (tally zero_table vs)) ≡ thread_rows script vs 1 n
table_rows script vs n h = rows_from script vs 0 n (omega arith)
