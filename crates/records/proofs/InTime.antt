-- The walk by position that compares the times: its invariant, one pass, and the ways out, over plain variables. Of two records the one with the
-- smaller position may not begin after the other is answered, and begins first where both are of one thread. Assumes nothing.
use Prim.Native.Nat.{ℕ, suc, ◌+◌, ◌-◌, ◌≤◌, ◌<◌, max}
use native.Mathlib.Omega.{arith}
use mathlib.Core.Path.{◌≡◌, refl, sym, ap, subst, ◌∙◌}
use mathlib.Core.Bool.{Bool, true, false, ◌||◌, true≢false}
use mathlib.Core.Logic.{◌⊎◌, inl, inr, ⊎_elim}
use mathlib.Core.List.{List}
use borrow.Author.Tests.{eqb-true, eqb-false, ltb-true, ltb-false, eq-eqb}
use lib.Dec.{eqb, ltb}
use lib.ListN.{length, get_or, set, replicate, length-set, length-replicate}
use lib.Seq.{get_or-set_same, get_or-set_other}
use Rattle.records.specs.Accepts.{claimant, in_place}
use Rattle.records.specs.Inner.{InOrder, InTime, ended}
use Rattle.records.specs.declared.form.Recorded.{Recorded}
use Rattle.records.proofs.Accepted.{Accepted, InRealTime, OneByOne, all_in_real_time, all_one_by_one, by_place, not_accepted}
use Rattle.records.proofs.Every.{upto}
use Rattle.records.proofs.Ranges.{zero_at}

-- a record before position k + 1 with this begin; one of thread t with this answer
pub record Began (n : ℕ) (r : ℕ → Recorded) (k time : ℕ) : Type 0 where
  pub which : ℕ
  pub before : which < k
  pub begin : (in_place n r which).begin ≡ time

pub record Answered (n : ℕ) (r : ℕ → Recorded) (k t time : ℕ) : Type 0 where
  pub which : ℕ
  pub before : which < k
  pub thread : (in_place n r which).thread ≡ t
  pub answer : (in_place n r which).answer ≡ time

-- the first k positions are in time: `latest` is their greatest begin, and `last` has the last answer of each thread
pub record Timing (n : ℕ) (r : ℕ → Recorded) (latest : ℕ) (last : List ℕ) (k : ℕ) : Type 0 where
  pub within : k ≤ n
  pub long : length last ≡ 65
  pub latest_most : (a : ℕ) → a < k → (in_place n r a).begin ≤ latest
  pub latest_one : (latest ≡ 0) ⊎ Began n r k latest
  pub in_time : (c : ℕ) → c < k → (a : ℕ) → a < c → (in_place n r a).begin ≤ (in_place n r c).answer
  pub last_most : (a : ℕ) → a < k → (in_place n r a).answer ≤ get_or last (in_place n r a).thread 0
  pub last_one : (t : ℕ) → (get_or last t 0 ≡ 0) ⊎ Answered n r k t (get_or last t 0)
  pub one_by_one : (c : ℕ) → c < k → (a : ℕ) → a < c → (in_place n r a).thread ≡ (in_place n r c).thread → (in_place n r a).answer < (in_place n r c).begin

pub times_start : (n : ℕ) (r : ℕ → Recorded) → Timing n r 0 (replicate 65 0) 0
times_start n r =
    record {
      within = omega arith;
      long = length-replicate {A = ℕ} 65 0;
      latest_most = λ a h. absurd (omega arith);
      latest_one = inl refl;
      in_time = λ c h. absurd (omega arith);
      last_most = λ a h. absurd (omega arith);
      last_one = λ u. inl (zero_at 65 u);
      one_by_one = λ c h. absurd (omega arith);
    }

-- two of the records in order, one position before the other
module _ {n : ℕ} {r : ℕ → Recorded} {order : List ℕ} (o : InOrder n r order) where
  apart : (a c : ℕ) → a < c → c < n → claimant n r (suc a) ≡ claimant n r (suc c) → ⊥
  apart a c l h e = omega (arith, l, o.claims a (omega arith), o.claims c h, ap (λ y. (r y).position) e)

  -- the later one is answered before the earlier begins
  out_of_time : (a c : ℕ) → a < c → c < n → (in_place n r c).answer < (in_place n r a).begin → Accepted n r → ⊥
  out_of_time a c l h t w =
      let g = w.real_time (claimant n r (suc c)) (claimant n r (suc a)) (o.there c h) (o.there a (omega arith))
      (λ e. apart a c l h (sym e)) t in
      omega (arith, g, o.claims a (omega arith), o.claims c h)

  -- both are of one thread, and the earlier is not answered before the later begins
  crossing : (a c : ℕ) → a < c → c < n → (in_place n r a).thread ≡ (in_place n r c).thread → (in_place n r c).begin ≤ (in_place n r a).answer → Accepted n r → ⊥
  crossing a c l h e t w =
      ⊎_elim (λ g. omega (arith, g, t)) (λ g. out_of_time a c l h g w)
      (w.one_at_a_time (claimant n r (suc a)) (claimant n r (suc c)) (o.there a (omega arith)) (o.there c h) (apart a c l h) e)

  module _ {latest : ℕ} {last : List ℕ} {k : ℕ} (f : Timing n r latest last k) (h : k < n) (x : Recorded)
      (here : x ≡ in_place n r k) where
    fails : (Accepted n r → ⊥) → InTime n r false
    fails g =
        record {
          one_by_one = λ e. absurd (true≢false (sym e));
          real_time = λ e. absurd (true≢false (sym e));
          no = λ e. not_accepted n r g;
        }

    pub too_early : x.answer < latest → InTime n r false
    too_early l =
        fails (⊎_elim (λ z. absurd (omega (arith, l, z)))
        (λ g w. out_of_time g.which k g.before h (omega (arith, l, g.begin, ap (λ y. y.answer) here)) w) f.latest_one)

    module _ (w : Bool) (ew : w ≡ ended (get_or last x.thread 0) x.begin) where
      pub not_ended : w ≡ false → InTime n r false
      unfolding ended
      not_ended late =
          fails (⊎_elim (λ z. absurd (true≢false (sym (rw (eq-eqb (get_or last x.thread 0) 0 z) at ew) ∙ late))) crosses (f.last_one x.thread))
        where
          crosses : Answered n r k x.thread (get_or last x.thread 0) → Accepted n r → ⊥
          crosses g =
              crossing g.which k g.before h (g.thread ∙ ap (λ y. y.thread) here)
              (omega (arith, begins, g.answer, ap (λ y. y.begin) here))
            where
              begins : x.begin ≤ get_or last x.thread 0
              begins = go (eqb (get_or last x.thread 0) 0) (sym ew ∙ late)
                where
                  go : (q : Bool) → q || ltb (get_or last x.thread 0) x.begin ≡ false → x.begin ≤ get_or last x.thread 0
                  go true e = absurd (true≢false e)
                  go false e = ltb-false (get_or last x.thread 0) x.begin e

      module _ (yes : w ≡ true) (early : latest ≤ x.answer) (low : x.thread < 65) where
        -- whatever of its thread was answered before
        after_last : get_or last x.thread 0 ≡ 0 ⊎ (get_or last x.thread 0 < x.begin)
        unfolding ended
        after_last = go (eqb (get_or last x.thread 0) 0) refl (sym ew ∙ yes)
          where
            go : (q : Bool) → eqb (get_or last x.thread 0) 0 ≡ q → q || ltb (get_or last x.thread 0) x.begin ≡ true
                → get_or last x.thread 0 ≡ 0 ⊎ (get_or last x.thread 0 < x.begin)
            go true e g = inl (eqb-true (get_or last x.thread 0) 0 e)
            go false e g = inr (ltb-true (get_or last x.thread 0) x.begin g)

        begun : x.begin < x.answer
        begun = subst (λ y. y.begin < y.answer) (sym here) (o.begun (claimant n r (suc k)) (o.there k h))

        ends_before : (a : ℕ) → a < k → (in_place n r a).thread ≡ x.thread → (in_place n r a).answer < x.begin
        ends_before a l e =
            let m = subst (λ t. (in_place n r a).answer ≤ get_or last t 0) e (f.last_most a l) in
            let some = o.begun (claimant n r (suc a)) (o.there a (omega (arith, l, h))) in
            ⊎_elim (λ z. absurd (omega (arith, m, some, z))) (λ g. omega (arith, m, g)) after_last

        pub times_more : (next : ℕ) → next ≡ max latest x.begin → Timing n r next (set last x.thread x.answer) (k + 1)
        times_more next en =
            record {
              within = omega arith;
              long = length-set last x.thread x.answer ∙ f.long;
              latest_most =
                  upto k (λ a. (in_place n r a).begin ≤ next) (λ a l. let m = f.latest_most a l in omega (arith, m, least.0))
                  (subst (λ y. y.begin ≤ next) here least.1);
              latest_one = one (ltb latest x.begin) refl;
              in_time =
                  upto k (λ c. (a : ℕ) → a < c → (in_place n r a).begin ≤ (in_place n r c).answer) f.in_time
                  (λ a l. let m = f.latest_most a l in omega (arith, m, early, ap (λ y. y.answer) here));
              last_most =
                  upto k (λ a. (in_place n r a).answer ≤ get_or last' (in_place n r a).thread 0) last_most
                  (subst (λ y. y.answer ≤ get_or last' y.thread 0) here (omega (arith, now)));
              last_one = last_one;
              one_by_one =
                  upto k (λ c. (a : ℕ) → a < c → (in_place n r a).thread ≡ (in_place n r c).thread → (in_place n r a).answer < (in_place n r c).begin) f.one_by_one
                  (λ a l e. subst (λ y. (in_place n r a).answer < y.begin) here (ends_before a l (e ∙ sym (ap (λ y. y.thread) here))));
            }
          where
            last' : List ℕ
            last' = set last x.thread x.answer

            now : get_or last' x.thread 0 ≡ x.answer
            now = get_or-set_same last x.thread x.answer 0 (omega (arith, low, f.long))

            least : (latest ≤ next) × (x.begin ≤ next)
            least = (omega (arith, en), omega (arith, en))

            one : (q : Bool) → ltb latest x.begin ≡ q → (next ≡ 0) ⊎ Began n r (k + 1) next
            one true e =
                let l = ltb-true latest x.begin e in
                inr (record { which = k; before = omega arith; begin = sym (ap (λ y. y.begin) here) ∙ omega (arith, l, en) })
            one false e =
                let l = ltb-false latest x.begin e in
                let same : next ≡ latest = omega (arith, l, en) in
                ⊎_elim (λ z. inl (same ∙ z))
                (λ b. inr (record { which = b.which; before = omega (arith, b.before); begin = b.begin ∙ sym same })) f.latest_one

            last_most : (a : ℕ) → a < k → (in_place n r a).answer ≤ get_or last' (in_place n r a).thread 0
            last_most a l = go (eqb (in_place n r a).thread x.thread) refl
              where
                go : (q : Bool) → eqb (in_place n r a).thread x.thread ≡ q → (in_place n r a).answer ≤ get_or last' (in_place n r a).thread 0
                go true e =
                    let t = eqb-true (in_place n r a).thread x.thread e in
                    let m = ends_before a l t in
                    subst (λ y. (in_place n r a).answer ≤ get_or last' y 0) (sym t) (omega (arith, m, begun, now))
                go false e =
                    let m = f.last_most a l in
                    rw (get_or-set_other last x.thread (in_place n r a).thread x.answer 0 (eqb-false (in_place n r a).thread x.thread e)) m

            last_one : (t : ℕ) → (get_or last' t 0 ≡ 0) ⊎ Answered n r (k + 1) t (get_or last' t 0)
            last_one t = go (eqb t x.thread) refl
              where
                go : (q : Bool) → eqb t x.thread ≡ q → (get_or last' t 0 ≡ 0) ⊎ Answered n r (k + 1) t (get_or last' t 0)
                go true e =
                    let z = eqb-true t x.thread e in
                    inr (record {
                      which = k;
                      before = omega arith;
                      thread = sym (ap (λ y. y.thread) here) ∙ sym z;
                      answer = sym (ap (λ y. y.answer) here) ∙ sym now ∙ ap (λ y. get_or last' y 0) (sym z);
                    })
                go false e =
                    let s = get_or-set_other last x.thread t x.answer 0 (eqb-false t x.thread e) in
                    ⊎_elim (λ z. inl (s ∙ z))
                    (λ g. inr (record { which = g.which; before = omega (arith, g.before); thread = g.thread; answer = g.answer ∙ sym s }))
                    (f.last_one t)

  -- every two records, by their positions
  pub times_end : {latest : ℕ} {last : List ℕ} {k : ℕ} → Timing n r latest last k → n ≤ k → InTime n r true
  times_end {latest} {last} {k} f h =
      record {
        one_by_one = λ e. all_one_by_one n r (λ i j hi hj ne. by_position OneByOne i j hi hj ne one_first one_second);
        real_time = λ e. all_in_real_time n r (λ i j hi hj ne. by_position InRealTime i j hi hj ne real_first real_second);
        no = λ e. absurd (true≢false e);
      }
    where
      place : (i : ℕ) → i < n → in_place n r ((r i).position - 1) ≡ r i
      place i l =
          let e = o.first i l in ap (λ p. r (claimant n r p)) (omega (arith, e)) ∙ ap r (o.by_claim i l)

      below : (i : ℕ) → i < n → (r i).position - 1 < n
      below i l = omega (arith, o.first i l, o.last i l)

      own : (i j : ℕ) → i < n → j < n → (r i).position - 1 ≡ (r j).position - 1 → i ≡ j
      own i j hi hj e =
          let same : (r i).position ≡ (r j).position = omega (arith, e, o.first i hi, o.first j hj) in
          sym (o.by_claim i hi) ∙ ap (claimant n r) same ∙ o.by_claim j hj

      by_position : (P : Recorded → Recorded → Type 0) (i j : ℕ) → i < n → j < n → (i ≡ j → ⊥)
          → ((a c : ℕ) → a < c → c < n → P (in_place n r a) (in_place n r c)) → ((a c : ℕ) → a < c → c < n → P (in_place n r c) (in_place n r a))
          → P (r i) (r j)
      by_position = by_place n r (in_place n r) (λ i. (r i).position - 1) below place own

      one_first : (a c : ℕ) → a < c → c < n → OneByOne (in_place n r a) (in_place n r c)
      one_first a c l m e = inl (f.one_by_one c (omega (arith, m, h)) a l e)

      one_second : (a c : ℕ) → a < c → c < n → OneByOne (in_place n r c) (in_place n r a)
      one_second a c l m e = inr (f.one_by_one c (omega (arith, m, h)) a l (sym e))

      real_first : (a c : ℕ) → a < c → c < n → InRealTime (in_place n r a) (in_place n r c)
      real_first a c l m e = omega (arith, l, o.claims a (omega (arith, l, m)), o.claims c m)

      real_second : (a c : ℕ) → a < c → c < n → InRealTime (in_place n r c) (in_place n r a)
      real_second a c l m e = let g = f.in_time c (omega (arith, m, h)) a l in absurd (omega (arith, e, g))
