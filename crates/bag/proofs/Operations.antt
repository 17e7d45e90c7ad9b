-- How often an operation decides, from the ledger alone: where a thread's operation stands in the ledger says how many deciding accesses
-- may still come before the thread's next beginning. Assumes nothing.
use Prim.Native.Nat.{ℕ, ◌+◌, ◌≤◌}
use native.Mathlib.Omega.{arith}
use mathlib.Core.Path.{◌≡◌, refl, sym, ap, subst, ◌∙◌}
use mathlib.Core.Bool.{Bool, true, false, true≢false}
use mathlib.Core.Logic.{◌⊎◌, ⊎_elim, inl, inr}
use mathlib.Core.List.{List, [], ◌∷◌, ◌++◌}
use borrow.Author.Tests.{eqb-true}
use lib.Dec.{eqb}
use Rattle.region.specs.Pick.{pick, upd}
use Rattle.region.specs.declared.answer.Answer.{Answer}
use Rattle.region.specs.declared.record.Item.{Item}
use Rattle.region.proofs.Shapes.{and_left, and_right}
use Rattle.access.specs.Plan.{answers_operation}
use Rattle.theory.specs.Ledger.{Ledger, Operation, Undecided, UndecidedTake, a_put, a_take, none, one_item, owing, putting, listing, still_owing, taking, whole_list, Follows, still, put_begins, take_begins, list_begins, put_decides, take_decides, list_decides, empty_decides, take_answers, ends_withdrawn}
use Rattle.theory.specs.Told.{Told}
use Rattle.bag.specs.Demand3.{AnswerSays, Says, moved, removed, list_removed, idle, inserted, took, empty, refused, withdrawn as says_withdrawn}
use Rattle.bag.specs.History.{Event, called, turned, Moment}
use Rattle.bag.specs.Operations.{AnsweredDecidesOnce, DecidesAtMostOnce, WithdrawnNeverDecides, answered, beginning, begins, count, deciding, decides, withdrawing, withdrawn}
use Rattle.bag.specs.Told.{tells}

-- Counting one in the middle.
count_middle : (test : Event → Bool) (xs ys : List Moment) (m : Moment)
    → count test (xs ++ m ∷ ys) ≡ count test xs + pick (test m.event) 1 0 + count test ys
unfolding count
count_middle test [] ys m = omega arith
count_middle test (x ∷ xs) ys m = omega (arith, count_middle test xs ys m)

-- How many deciding accesses may come before the next beginning.
abbrev remaining : Operation → ℕ
remaining none = 0
remaining (putting i) = 1
remaining taking = 1
remaining listing = 1
remaining (owing i is) = 0

none_remains : (is : List Item) → remaining (still_owing is) ≡ 0
none_remains [] = refl
none_remains (i ∷ is) = refl

take_remains : (o : Operation) → UndecidedTake o → remaining o ≡ 1
take_remains o one_item = refl
take_remains o whole_list = refl

one_remains : (o : Operation) → Undecided o → remaining o ≡ 1
one_remains o a_put = refl
one_remains o (a_take h) = take_remains o h

-- Whether one is under way.
abbrev busy : Operation → ℕ
busy none = 0
busy (putting i) = 1
busy taking = 1
busy listing = 1
busy (owing i is) = 1

busy_most : (o : Operation) → busy o ≤ 1
busy_most none = omega arith
busy_most (putting i) = omega arith
busy_most taking = omega arith
busy_most listing = omega arith
busy_most (owing i is) = omega arith

remaining-busy : (o : Operation) → remaining o ≤ busy o
remaining-busy none = omega arith
remaining-busy (putting i) = omega arith
remaining-busy taking = omega arith
remaining-busy listing = omega arith
remaining-busy (owing i is) = omega arith

-- the ledger follows every moment, and every answer says what was told
abbrev pub Followed : Ledger → List Moment → Type 0
Followed l [] = Unit
Followed l (m ∷ ms) = (l' : Ledger) × Follows (tells m.event) l l' × AnswerSays m.event × Followed l' ms

-- u's moment lowers what remains of u's operation by k, and leaves what remains of another's
remains : (op : ℕ → Operation) (u : ℕ) (o o' : Operation) (k : ℕ) → op u ≡ o → k + remaining o' ≡ remaining o
    → (t : ℕ) → pick (eqb t u) k 0 + remaining (upd op u o' t) ≡ remaining (op t)
unfolding upd pick
remains op u o o' k e h t = go (eqb t u) refl
  where
    go : (q : Bool) → eqb t u ≡ q → pick q k 0 + remaining (pick q o' (op t)) ≡ remaining (op t)
    go true f = h ∙ ap remaining (sym e ∙ ap op (sym (eqb-true t u f)))
    go false f = omega arith

rests : (op : ℕ → Operation) (u : ℕ) (o o' : Operation) (k : ℕ) → op u ≡ o → k + busy o' ≤ busy o
    → (t : ℕ) → pick (eqb t u) k 0 + busy (upd op u o' t) ≤ busy (op t)
unfolding upd pick
rests op u o o' k e h t = go (eqb t u) refl
  where
    go : (q : Bool) → eqb t u ≡ q → pick q k 0 + busy (pick q o' (op t)) ≤ busy (op t)
    go true f = omega (arith, h, ap busy (sym e ∙ ap op (sym (eqb-true t u f))))
    go false f = omega arith

none_taken : (q : Bool) → ◌≡◌ {A = ℕ} (pick q 0 0) 0
unfolding pick
none_taken true = refl
none_taken false = refl

none_if : (q : Bool) → (q ≡ true → ⊥) → pick {A = ℕ} q 1 0 ≡ 0
unfolding pick
none_if true h = absurd (h refl)
none_if false h = refl

pub none_here : (q : Bool) (k : ℕ) → pick q 1 0 + k ≡ 0 → q ≡ false
unfolding pick
none_here true k e = absurd (omega arith)
none_here false k e = refl

module _ (t : ℕ) where
  pub elsewhere : (op : ℕ → Operation) (u : ℕ) (o : Operation) → eqb t u ≡ false → upd op u o t ≡ op t
  unfolding pick upd
  elsewhere op u o ne = ap (λ q. pick q o (op t)) ne

  -- what begins no operation of t's lets it decide or be withdrawn, where it had not
  told_takes : (x : Told) (l l' : Ledger) → Follows x l l' → beginning t x ≡ false
      → pick (deciding t x) 1 0 + pick (withdrawing t x) 1 0 + remaining (l'.operation t) ≡ remaining (l.operation t)
  unfolding pick upd
  told_takes x l l' still ne = omega arith
  told_takes x l l' (put_begins {t = u} {i = i} e) ne = omega (arith, ap remaining (elsewhere l.operation u (putting i) ne))
  told_takes x l l' (take_begins {t = u} e) ne = omega (arith, ap remaining (elsewhere l.operation u taking ne))
  told_takes x l l' (list_begins {t = u} e) ne = omega (arith, ap remaining (elsewhere l.operation u listing ne))
  told_takes x l l' (put_decides {t = u} {i = i} e) ne = omega (arith, remains l.operation u (putting i) none 1 e refl t)
  told_takes x l l' (take_decides {t = u} {i = i} e _) ne = omega (arith, remains l.operation u taking (owing i []) 1 e refl t)
  told_takes x l l' (list_decides {t = u} {i = i} {is = is} e _ _) ne = omega (arith, remains l.operation u listing (owing i is) 1 e refl t)
  told_takes x l l' (empty_decides {t = u} {o = o} e un _) ne = omega (arith, remains l.operation u o none 1 e (sym (take_remains o un)) t)
  told_takes x l l' (take_answers {t = u} {i = i} {is = is} e) ne =
      omega (arith, remains l.operation u (owing i is) (still_owing is) 0 e (omega (arith, none_remains is)) t, none_taken (eqb t u))
  told_takes x l l' (ends_withdrawn {t = u} {o = o} e un) ne = omega (arith, remains l.operation u o none 1 e (sym (one_remains o un)) t)

  -- and begins no other: a withdrawn one is no longer under way
  told_rests : (x : Told) (l l' : Ledger) → Follows x l l' → beginning t x ≡ false
      → pick (withdrawing t x) 1 0 + busy (l'.operation t) ≤ busy (l.operation t)
  unfolding pick
  told_rests x l l' still ne = omega arith
  told_rests x l l' (put_begins {t = u} {i = i} e) ne = omega (arith, ap busy (elsewhere l.operation u (putting i) ne))
  told_rests x l l' (take_begins {t = u} e) ne = omega (arith, ap busy (elsewhere l.operation u taking ne))
  told_rests x l l' (list_begins {t = u} e) ne = omega (arith, ap busy (elsewhere l.operation u listing ne))
  told_rests x l l' (put_decides {t = u} {i = i} e) ne =
      omega (arith, rests l.operation u (putting i) none 0 e (omega arith) t, none_taken (eqb t u))
  told_rests x l l' (take_decides {t = u} {i = i} e _) ne =
      omega (arith, rests l.operation u taking (owing i []) 0 e (omega arith) t, none_taken (eqb t u))
  told_rests x l l' (list_decides {t = u} {i = i} {is = is} e _ _) ne =
      omega (arith, rests l.operation u listing (owing i is) 0 e (omega arith) t, none_taken (eqb t u))
  told_rests x l l' (empty_decides {t = u} {o = o} e un _) ne =
      omega (arith, rests l.operation u o none 0 e (omega arith) t, none_taken (eqb t u))
  told_rests x l l' (take_answers {t = u} {i = i} {is = is} e) ne =
      omega (arith, rests l.operation u (owing i is) (still_owing is) 0 e (omega (arith, busy_most (still_owing is))) t, none_taken (eqb t u))
  told_rests x l l' (ends_withdrawn {t = u} {o = o} e un) ne =
      rests l.operation u o none 1 e (omega (arith, one_remains o un, remaining-busy o)) t

  -- what begins one
  told_begins : (x : Told) (l l' : Ledger) → Follows x l l' → beginning t x ≡ true → remaining (l'.operation t) ≡ 1
  unfolding pick upd
  told_begins x l l' still b = absurd (true≢false (sym b))
  told_begins x l l' (put_begins {t = u} {i = i} e) b = ap (λ q. remaining (pick q (putting i) (l.operation t))) b
  told_begins x l l' (take_begins {t = u} e) b = ap (λ q. remaining (pick q taking (l.operation t))) b
  told_begins x l l' (list_begins {t = u} e) b = ap (λ q. remaining (pick q listing (l.operation t))) b
  told_begins x l l' (put_decides e) b = absurd (true≢false (sym b))
  told_begins x l l' (take_decides e _) b = absurd (true≢false (sym b))
  told_begins x l l' (list_decides e _ _) b = absurd (true≢false (sym b))
  told_begins x l l' (empty_decides e _ _) b = absurd (true≢false (sym b))
  told_begins x l l' (take_answers e) b = absurd (true≢false (sym b))
  told_begins x l l' (ends_withdrawn e un) b = absurd (true≢false (sym b))

  -- what answers one: it was under way, none remains afterwards, and it begins and withdraws none
  record Ended (x : Told) (l l' : Ledger) : Type 0 where
    under_way : busy (l.operation t) ≡ 1
    over : remaining (l'.operation t) ≡ 0
    begins_none : beginning t x ≡ false
    withdraws_none : withdrawing t x ≡ false

  -- u's operation o becomes o', and u is t
  ended : (x : Told) (l l' : Ledger) (u : ℕ) (o o' : Operation) → eqb t u ≡ true → l.operation u ≡ o → busy o ≡ 1 → remaining o' ≡ 0
      → l'.operation ≡ upd l.operation u o' → beginning t x ≡ false → withdrawing t x ≡ false → Ended x l l'
  unfolding pick upd
  ended x l l' u o o' e k some z after b w =
      record {
        under_way = ap (λ v. busy (l.operation v)) (eqb-true t u e) ∙ ap busy k ∙ some;
        over = ap (λ h. remaining (h t)) after ∙ ap (λ q. remaining (pick q o' (l.operation t))) e ∙ z;
        begins_none = b;
        withdraws_none = w;
      }

  says_ended : (u : ℕ) → eqb t u ≡ true → (a : Answer) (x : Told) → Says u a x → answers_operation a ≡ true → (l l' : Ledger) → Follows x l l'
      → Ended x l l'
  says_ended u e a x moved h l l' f = absurd (true≢false (sym h))
  says_ended u e a x removed h l l' f = absurd (true≢false (sym h))
  says_ended u e a x list_removed h l l' f = absurd (true≢false (sym h))
  says_ended u e a x idle h l l' f = absurd (true≢false (sym h))
  says_ended u e a x refused h l l' f = absurd (true≢false (sym h))
  says_ended u e a x says_withdrawn h l l' f = absurd (true≢false (sym h))
  says_ended u e a x inserted h l l' (put_decides {i = i} k) = ended x l l' u (putting i) none e k refl refl refl refl refl
  says_ended u e a x took h l l' (take_answers {i = i} {is = is} k) =
      ended x l l' u (owing i is) (still_owing is) e k refl (none_remains is) refl refl refl
  says_ended u e a x empty h l l' (empty_decides {o = o} k un _) =
      ended x l l' u o none e k (let r = take_remains o un in omega (arith, r, remaining-busy o, busy_most o)) refl refl refl refl

  answer_ends : (e : Event) (l l' : Ledger) → Follows (tells e) l l' → AnswerSays e → answered t e ≡ true → Ended (tells e) l l'
  answer_ends (called c r) l l' f s a = absurd (true≢false (sym a))
  answer_ends (turned x) l l' f s a =
      says_ended x.thread (and_left (eqb t x.thread) (answers_operation x.answer) a) x.answer (tells (turned x)) s
      (and_right (eqb t x.thread) (answers_operation x.answer) a) l l' f

  -- what withdraws one: it had not decided, and none is under way afterwards
  record Withdrew (x : Told) (l l' : Ledger) : Type 0 where
    undecided : remaining (l.operation t) ≡ 1
    at_rest : busy (l'.operation t) ≡ 0
    decides_none : deciding t x ≡ false

  told_withdraws : (x : Told) (l l' : Ledger) → Follows x l l' → withdrawing t x ≡ true → Withdrew x l l'
  unfolding pick upd
  told_withdraws x l l' (ends_withdrawn {t = u} {o = o} e un) h =
      record {
        undecided = ap (λ v. remaining (l.operation v)) (eqb-true t u h) ∙ ap remaining e ∙ one_remains o un;
        at_rest = ap (λ q. busy (pick q none (l.operation t))) h;
        decides_none = refl;
      }
  told_withdraws x l l' still h = absurd (true≢false (sym h))
  told_withdraws x l l' (put_begins e) h = absurd (true≢false (sym h))
  told_withdraws x l l' (take_begins e) h = absurd (true≢false (sym h))
  told_withdraws x l l' (list_begins e) h = absurd (true≢false (sym h))
  told_withdraws x l l' (put_decides e) h = absurd (true≢false (sym h))
  told_withdraws x l l' (take_decides e _) h = absurd (true≢false (sym h))
  told_withdraws x l l' (list_decides e _ _) h = absurd (true≢false (sym h))
  told_withdraws x l l' (empty_decides e _ _) h = absurd (true≢false (sym h))
  told_withdraws x l l' (take_answers e) h = absurd (true≢false (sym h))

  -- all moments before t's next beginning
  record AllTaken (ms later : List Moment) (l : Ledger) : Type 0 where
    ledger : Ledger
    onward : Followed ledger later
    taken : count (decides t) ms + count (withdrawn t) ms + remaining (ledger.operation t) ≡ remaining (l.operation t)
    rest : count (withdrawn t) ms + busy (ledger.operation t) ≤ busy (l.operation t)

  all_take : (ms later : List Moment) (l : Ledger) → Followed l (ms ++ later) → count (begins t) ms ≡ 0 → AllTaken ms later l
  unfolding count pick
  all_take [] later l f z = record { ledger = l; onward = f; taken = omega arith; rest = omega arith }
  all_take (m ∷ ms) later l f z =
      let n = none_here (begins t m.event) (count (begins t) ms) z in
      let r = all_take ms later f.0 f.3 (omega arith) in
      record {
        ledger = r.ledger;
        onward = r.onward;
        taken = omega (arith, r.taken, told_takes (tells m.event) l f.0 f.1 n);
        rest = omega (arith, r.rest, told_rests (tells m.event) l f.0 f.1 n);
      }

  -- none is answered while it has not decided, nor where none is under way
  unanswered : (ms later : List Moment) (l : Ledger) (f : Followed l (ms ++ later)) (z : count (begins t) ms ≡ 0)
      → (remaining ((all_take ms later l f z).ledger.operation t) ≡ 1) ⊎ (busy (l.operation t) ≡ 0) → count (answered t) ms ≡ 0
  unfolding count pick all_take
  unanswered [] later l f z h = refl
  unanswered (m ∷ ms) later l f z h =
      let n = none_here (begins t m.event) (count (begins t) ms) z in
      let r = all_take ms later f.0 f.3 (omega (arith, z)) in
      let more =
      unanswered ms later f.0 f.3 (omega (arith, z))
      (⊎_elim (λ k. inl k) (λ k. inr (omega (arith, k, told_rests (tells m.event) l f.0 f.1 n))) h)
      in
      omega (
        arith,
        more,
        none_if (answered t m.event) λ a.
            let end = answer_ends m.event l f.0 f.1 f.2 a in
            ⊎_elim (λ k. omega (arith, k, r.taken, end.over)) (λ k. omega (arith, k, end.under_way)) h,
      )

  -- what withdraws answers nothing
  not_answered : (x : Moment) (l l' : Ledger) → Follows (tells x.event) l l' → AnswerSays x.event → withdrawn t x.event ≡ true
      → pick {A = ℕ} (answered t x.event) 1 0 ≡ 0
  not_answered x l l' f s w = none_if (answered t x.event) λ a. true≢false (sym w ∙ (answer_ends x.event l l' f s a).withdraws_none)

-- the ledger somewhere on the way
followed_on : (before later : List Moment) (l : Ledger) → Followed l (before ++ later) → (l' : Ledger) × Followed l' later
followed_on [] later l f = (l, f)
followed_on (m ∷ before) later l f = followed_on before later f.0 f.3

module _ (l : Ledger) (all : List Moment) (f : Followed l all) where
  pub at_most_once : DecidesAtMostOnce all
  at_most_once t y before since later split b z =
      let g = (followed_on before (y ∷ (since ++ later)) l (subst (Followed l) split f)).1 in
      let r = all_take t since later g.0 g.3 z in
      omega (arith, r.taken, told_begins t (tells y.event) _ g.0 g.1 b)

  pub exactly_once : AnsweredDecidesOnce all
  unfolding count pick
  exactly_once t y x before since later split b z a =
      let g = (followed_on before (y ∷ (since ++ x ∷ later)) l (subst (Followed l) split f)).1 in
      let r = all_take t since (x ∷ later) g.0 g.3 z in
      let h = r.onward in
      let end = answer_ends t x.event r.ledger h.0 h.1 h.2 a in
      omega (
        arith,
        r.taken,
        told_begins t (tells y.event) _ g.0 g.1 b,
        told_takes t (tells x.event) r.ledger h.0 h.1 end.begins_none,
        end.over,
        ap (λ q. pick {A = ℕ} q 1 0) end.withdraws_none,
        r.rest,
        end.under_way,
        busy_most (g.0.operation t),
        count_middle (decides t) since [] x,
      )

  pub withdrawn_never : WithdrawnNeverDecides all
  unfolding pick
  withdrawn_never t y x before since after later split b z w z' =
      let g = (followed_on before (y ∷ (since ++ x ∷ (after ++ later))) l (subst (Followed l) split f)).1 in
      let r = all_take t since (x ∷ (after ++ later)) g.0 g.3 z in
      let h = r.onward in
      let o = told_withdraws t (tells x.event) r.ledger h.0 h.1 w in
      let k = all_take t after later h.0 h.3 z' in
      let here : pick {A = ℕ} (decides t x.event) 1 0 ≡ 0 = ap (λ q. pick {A = ℕ} q 1 0) o.decides_none in
      let began = told_begins t (tells y.event) _ g.0 g.1 b in
      let idle = remaining-busy (h.0.operation t) in (
        omega (arith, r.taken, began, o.undecided, here, k.taken, idle, o.at_rest, count_middle (decides t) since after x),
        omega (
          arith,
          unanswered t since (x ∷ (after ++ later)) g.0 g.3 z (inl o.undecided),
          not_answered t x r.ledger h.0 h.1 h.2 w,
          unanswered t after later h.0 h.3 z' (inr o.at_rest),
          count_middle (answered t) since after x,
        ),
      )
