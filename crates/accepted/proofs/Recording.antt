-- The records of a history follow one another in the order of their positions: an operation begins before it decides and is answered no earlier,
-- a thread's next one begins after its answer, and the bag gives what the ledger followed. Assumes nothing.
use Prim.Native.Nat.{ℕ, suc, ◌+◌, ◌≤◌, ◌<◌}
use native.Mathlib.Omega.{arith}
use mathlib.Core.Path.{◌≡◌, refl, sym, ap, subst, ◌∙◌}
use mathlib.Core.Bool.{Bool, true, false}
use mathlib.Core.Logic.{⊎_elim}
use mathlib.Core.List.{List, [], ◌∷◌, ◌++◌}
use Rattle.region.specs.Pick.{pick}
use Rattle.region.specs.Record.{is_item, same_item, zero_item}
use Rattle.region.specs.Shape.{between}
use Rattle.region.specs.declared.record.Item.{Item}
use Rattle.region.proofs.Picks.{upd_same}
use Rattle.region.proofs.Shapes.{and_both, and_left}
use Rattle.theory.specs.Ledger.{Follows, Least, Ledger, empty_decides, ends_withdrawn, list_begins, list_decides, listing, none, one_item, one_less, one_more, owing, put_begins, put_decides, putting, still, take_answers, take_begins, take_decides, taking, whole_list}
use Rattle.theory.specs.Told.{Told, answers_took, begins_list, decides_empty, decides_put}
use Rattle.theory.proofs.Facts.{stage}
use Rattle.records.specs.Play.{bag_after, bag_gives, holds, is_least, none_less, plays}
use Rattle.records.specs.Recorded.{in_range}
use Rattle.records.specs.declared.form.Recorded.{Recorded}
use Rattle.bag.specs.Demand3.{AnswerSays}
use Rattle.bag.specs.History.{Moment}
use Rattle.bag.specs.Operations.{answered}
use Rattle.bag.specs.Told.{tells}
use Rattle.bag.proofs.Operations.{Followed}
use Rattle.accepted.specs.HistoryRecords.{Beginning, NoListBegins, begun_after, decided_record, position_after, records_at, records_from, until_answer}
use Rattle.accepted.proofs.Bags.{bag_of, counts_empty, counts_least, without_counts}
use Rattle.accepted.proofs.Begins.{AllBegin}
use Rattle.accepted.proofs.Steps.{EachOf, Fits, at_each, begun_later, decides_elsewhere, each_append, each_so, fits_next, none_stays, op_is, owing_stays, told_answered}

-- How long until the answer.
until_step : (t : ℕ) (m : Moment) (ms : List Moment) → until_answer t (m ∷ ms) ≤ suc (until_answer t ms)
unfolding until_answer pick
until_step t m ms = go (answered t m.event)
  where
    go : (q : Bool) → pick q 0 (suc (until_answer t ms)) ≤ suc (until_answer t ms)
    go true = omega arith
    go false = omega arith

until_now : (t : ℕ) (m : Moment) (ms : List Moment) → answered t m.event ≡ true → until_answer t (m ∷ ms) ≡ 0
unfolding until_answer pick
until_now t m ms e = rw e refl

-- thread t's records begin after number a
abbrev After : ℕ → ℕ → Recorded → Type 0
After t a r = r.thread ≡ t → a < r.begin

module _ (t : ℕ) where
  -- once thread t has begun after a, all its further records do
  begun_after_lem : (a : ℕ) (ms : List Moment) (begun : ℕ → Beginning) (k p : ℕ) → a < (begun t).number → a < k
      → EachOf (After t a) (records_from begun k p ms)
  unfolding records_from
  begun_after_lem a [] begun k p l h = tt
  begun_after_lem a (m ∷ ms) begun k p l h =
      let x = tells m.event in
      each_append (After t a) (records_at begun k p (m ∷ ms) x) _
      (at_each (After t a) begun k p (m ∷ ms) (λ kind u i e. subst (λ v. a < (begun v).number) (sym e) l) x)
      (begun_after_lem a ms (begun_after begun k x) (suc k) _ (begun_later t a begun k l h x) (omega (arith, h)))

  -- a thread without an operation has to begin one first
  none_after : (a : ℕ) (ms : List Moment) (l : Ledger) (begun : ℕ → Beginning) (k p : ℕ) → Followed l ms → NoListBegins ms
      → l.operation t ≡ none → a < k → EachOf (After t a) (records_from begun k p ms)
  unfolding records_from
  none_after a [] l begun k p f n e h = tt
  none_after a (m ∷ ms) l begun k p f n e h =
      let x = tells m.event in
      let z = ap stage e in
      each_append (After t a) (records_at begun k p (m ∷ ms) x) _
      (each_so (λ r. r.thread ≡ t → ⊥) (After t a) (records_at begun k p (m ∷ ms) x) (λ r g s. absurd (g s))
      (decides_elsewhere t begun k p (m ∷ ms) x l f.0 f.1 (λ s. omega (arith, s, z)) (λ s. omega (arith, s, z)) (λ s. omega (arith, s, z))))
      (⊎_elim
      (λ s. begun_after_lem a ms (begun_after begun k x) (suc k) _ (omega (arith, s, h)) (omega (arith, h)))
      (λ s. none_after a ms f.0 (begun_after begun k x) (suc k) _ f.3 n.1 s (omega (arith, h)))
      (none_stays t begun k x l f.0 f.1 n.0 e))

  -- a thread that owes an item has to answer it first
  owing_after : (i : Item) (ms : List Moment) (l : Ledger) (begun : ℕ → Beginning) (k p : ℕ) → Followed l ms → NoListBegins ms
      → l.operation t ≡ owing i [] → EachOf (After t (k + until_answer t ms)) (records_from begun k p ms)
  unfolding records_from
  owing_after i [] l begun k p f n e = tt
  owing_after i (m ∷ ms) l begun k p f n e =
      let x = tells m.event in
      let a = k + until_answer t (m ∷ ms) in
      let z = ap stage e in
      let begun' = begun_after begun k x in
      let p' = position_after p (records_at begun k p (m ∷ ms) x) in
      each_append (After t a) (records_at begun k p (m ∷ ms) x) _
      (each_so (λ r. r.thread ≡ t → ⊥) (After t a) (records_at begun k p (m ∷ ms) x) (λ r g s. absurd (g s))
      (decides_elsewhere t begun k p (m ∷ ms) x l f.0 f.1 (λ s. omega (arith, s, z)) (λ s. omega (arith, s, z)) (λ s. omega (arith, s, z))))
      (⊎_elim
      (λ s. none_after a ms f.0 begun' (suc k) p' f.3 n.1 s.2
      (let now = until_now t m ms (told_answered m.event f.2 (answers_took t s.0) s.1 refl) in omega (arith, now)))
      (λ s. each_so (After t (suc k + until_answer t ms)) (After t a) (records_from begun' (suc k) p' ms)
      (λ r g q. let v = g q in let w = until_step t m ms in omega (arith, v, w))
      (owing_after i ms f.0 begun' (suc k) p' f.3 n.1 s))
      (owing_stays t x l f.0 f.1 i e))

-- Lists in order.
abbrev pub Numbered : ℕ → List Recorded → Type 0
Numbered p [] = Unit
Numbered p (r ∷ rs) = (r.position ≡ suc p) × Numbered (suc p) rs

abbrev pub Pairs : (Recorded → Recorded → Type 0) → List Recorded → Type 0
Pairs P [] = Unit
Pairs P (r ∷ rs) = EachOf (P r) rs × Pairs P rs

-- the records from moment k on; p positions came before, and l is the ledger then
pub record Recording (l : Ledger) (k p : ℕ) (rs : List Recorded) : Type 0 where
  pub ranged : EachOf (λ r. in_range r ≡ true) rs
  pub numbered : Numbered p rs
  pub begun : EachOf (λ r. r.begin < r.answer) rs
  pub after : EachOf (λ r. k ≤ r.answer) rs
  pub in_time : Pairs (λ a c. a.begin ≤ c.answer) rs
  pub one_by_one : Pairs (λ a c. a.thread ≡ c.thread → a.answer < c.begin) rs
  pub played : (bag : List Item) → l.bag ≡ bag_of bag → plays bag rs ≡ true

-- a moment that decides nothing
quiet : {l l' : Ledger} {k p : ℕ} {rs : List Recorded} → l.bag ≡ l'.bag → Recording l' (suc k) p rs → Recording l k p rs
quiet {l} {l'} {k} {p} {rs} e r =
    record {
      ranged = r.ranged;
      numbered = r.numbered;
      begun = r.begun;
      after = each_so (λ x. suc k ≤ x.answer) (λ x. k ≤ x.answer) rs (λ x h. omega (arith, h)) r.after;
      in_time = r.in_time;
      one_by_one = r.one_by_one;
      played = λ bag h. r.played bag (sym e ∙ h);
    }

-- one that decides
record Decides (l l' : Ledger) (k p : ℕ) (r : Recorded) (rs : List Recorded) : Type 0 where
  ranged : in_range r ≡ true
  position : r.position ≡ suc p
  begun : r.begin < k
  after : k ≤ r.answer
  later : EachOf (After r.thread r.answer) rs
  given : (bag : List Item) → l.bag ≡ bag_of bag → bag_gives bag r ≡ true
  left : (bag : List Item) → l.bag ≡ bag_of bag → l'.bag ≡ bag_of (bag_after bag r)

more : {l l' : Ledger} {k p : ℕ} {r : Recorded} {rs : List Recorded} → Decides l l' k p r rs → Recording l' (suc k) (suc p) rs
    → Recording l k p (r ∷ rs)
unfolding plays
more {l} {l'} {k} {p} {r} {rs} d t =
    record {
      ranged = (d.ranged, t.ranged);
      numbered = (d.position, t.numbered);
      begun = (omega (arith, d.begun, d.after), t.begun);
      after = (d.after, each_so (λ x. suc k ≤ x.answer) (λ x. k ≤ x.answer) rs (λ x h. omega (arith, h)) t.after);
      in_time = (each_so (λ x. suc k ≤ x.answer) (λ x. r.begin ≤ x.answer) rs (λ x h. omega (arith, h, d.begun)) t.after, t.in_time);
      one_by_one = (each_so (After r.thread r.answer) (λ c. r.thread ≡ c.thread → r.answer < c.begin) rs (λ c h e. h (sym e)) d.later, t.one_by_one);
      played = λ bag h. and_both (d.given bag h) (t.played (bag_after bag r) (d.left bag h));
    }

-- The three kinds of deciding access.
module _ (l : Ledger) (begun : ℕ → Beginning) (k p : ℕ) (g : Fits l begun k) (m : Moment) (ms : List Moment) (l' : Ledger)
    (says : AnswerSays m.event) (f : Followed l' ms) (n : NoListBegins ms) where
  abbrev tail : List Recorded
  tail = records_from begun (suc k) (suc p) ms

  -- answered at once
  ends_now : (t : ℕ) (x : Told) → tells m.event ≡ x → answered t m.event ≡ true → l'.operation t ≡ none
      → EachOf (After t (k + until_answer t (m ∷ ms))) tail
  ends_now t x ex a e =
      none_after t (k + until_answer t (m ∷ ms)) ms l' begun (suc k) (suc p) f n e (let z = until_now t m ms a in omega (arith, z))

  put_decided : (t : ℕ) (i : Item) → tells m.event ≡ decides_put t → l.operation t ≡ putting i → l'.operation t ≡ none
      → l'.bag ≡ one_more l.bag i → Decides l l' k p (decided_record begun k p (m ∷ ms) 1 t (begun t).item) tail
  unfolding in_range between pick bag_gives bag_after bag_of
  put_decided t i ex e e' eb =
      let o = op_is l begun k g t (putting i) e in
      record {
        ranged = and_both (and_both refl o.0) (subst (λ y. is_item y ≡ true) (sym o.2) o.1);
        position = refl;
        begun = o.3;
        after = omega arith;
        later = ends_now t (decides_put t) ex (told_answered m.event says (decides_put t) ex refl) e';
        given = λ bag h. refl;
        left = λ bag h. eb ∙ ap (λ b. one_more b i) h ∙ ap (one_more (bag_of bag)) (sym o.2);
      }

  take_decided : (t : ℕ) (i : Item) → l.operation t ≡ taking → l'.operation t ≡ owing i [] → Least l.bag i
      → l'.bag ≡ one_less l.bag i → Decides l l' k p (decided_record begun k p (m ∷ ms) 2 t i) tail
  unfolding in_range between pick bag_gives bag_after
  take_decided t i e e' least eb =
      let o = op_is l begun k g t taking e in
      record {
        ranged = and_both (and_both refl o.0) (g.items i least.held);
        position = refl;
        begun = o.1;
        after = omega arith;
        later =
            each_so (After t (suc k + until_answer t ms)) (After t (k + until_answer t (m ∷ ms))) tail
            (λ r h s. let v = h s in let w = until_step t m ms in omega (arith, v, w)) (owing_after t i ms l' begun (suc k) (suc p) f n e');
        given = λ bag h. is_least_lem bag h;
        left = λ bag h.
            eb ∙ ap (λ b. one_less b i) h ∙ sym (without_counts i bag (and_left (holds bag i) (none_less bag i) (is_least_lem bag h)));
      }
    where
      is_least_lem : (bag : List Item) → l.bag ≡ bag_of bag → is_least bag i ≡ true
      is_least_lem bag h = counts_least bag i (subst (λ b. Least b i) h least)

  empty_decided : (t : ℕ) → tells m.event ≡ decides_empty t → l.operation t ≡ taking → l'.operation t ≡ none → ((j : Item) → l.bag j ≡ 0)
      → l'.bag ≡ l.bag → Decides l l' k p (decided_record begun k p (m ∷ ms) 3 t zero_item) tail
  unfolding in_range between pick bag_gives bag_after same_item
  empty_decided t ex e e' z eb =
      let o = op_is l begun k g t taking e in
      record {
        ranged = and_both (and_both refl o.0) refl;
        position = refl;
        begun = o.1;
        after = omega arith;
        later = ends_now t (decides_empty t) ex (told_answered m.event says (decides_empty t) ex refl) e';
        given = λ bag h. counts_empty bag (λ j. ap (λ b. b j) (sym h) ∙ z j);
        left = λ bag h. eb ∙ h;
      }

-- One moment, and all.
module _ (begun : ℕ → Beginning) (k p : ℕ) (m : Moment) (ms : List Moment) (says : AnswerSays m.event) (n : NoListBegins ms) where
  one : (x : Told) → tells m.event ≡ x → (l l' : Ledger) → Follows x l l' → Fits l begun k → Followed l' ms
      → ((t : ℕ) → x ≡ begins_list t → ⊥)
      → Recording l' (suc k) (position_after p (records_at begun k p (m ∷ ms) x))
      (records_from (begun_after begun k x) (suc k) (position_after p (records_at begun k p (m ∷ ms) x)) ms)
      → Recording l k p
      (records_at begun k p (m ∷ ms) x
      ++ records_from (begun_after begun k x) (suc k) (position_after p (records_at begun k p (m ∷ ms) x)) ms)
  one x ex l l' still g f never r = quiet refl r
  one x ex l l' (put_begins e) g f never r = quiet refl r
  one x ex l l' (take_begins e) g f never r = quiet refl r
  one x ex l l' (list_begins {t = t} e) g f never r = absurd (never t refl)
  one x ex l l' (put_decides {t = t} {i = i} e) g f never r =
      more (put_decided l begun k p g m ms l' says f n t i ex e (upd_same l.operation t none) refl) r
  one x ex l l' (take_decides {t = t} {i = i} e least) g f never r =
      more (take_decided l begun k p g m ms l' says f n t i e (upd_same l.operation t (owing i [])) least refl) r
  one x ex l l' (list_decides {t = t} e least all) g f never r = absurd (op_is l begun k g t listing e)
  one x ex l l' (empty_decides {t = t} e one_item z) g f never r =
      more (empty_decided l begun k p g m ms l' says f n t ex e (upd_same l.operation t none) z refl) r
  one x ex l l' (empty_decides {t = t} e whole_list z) g f never r = absurd (op_is l begun k g t listing e)
  one x ex l l' (take_answers e) g f never r = quiet refl r
  one x ex l l' (ends_withdrawn e un) g f never r = quiet refl r

pub recording : (ms : List Moment) (l : Ledger) (begun : ℕ → Beginning) (k p : ℕ) → Followed l ms → AllBegin ms → NoListBegins ms → Fits l begun k
    → Recording l k p (records_from begun k p ms)
unfolding records_from plays
recording [] l begun k p f b n g =
    record {
      ranged = tt;
      numbered = tt;
      begun = tt;
      after = tt;
      in_time = tt;
      one_by_one = tt;
      played = λ bag h. refl;
    }
recording (m ∷ ms) l begun k p f b n g =
    let x = tells m.event in
    let p' = position_after p (records_at begun k p (m ∷ ms) x) in
    one begun k p m ms f.2 n.1 x refl l f.0 f.1 g f.3 n.0
    (recording ms f.0 (begun_after begun k x) (suc k) p' f.3 b.1 n.1
    (fits_next l begun k g x f.0 f.1 b.0 n.0))
