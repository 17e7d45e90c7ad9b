-- What one moment leaves of each thread's operation, its beginning and the records, from the ledger alone. Assumes nothing.
use Prim.Native.Nat.{ℕ, suc, ◌+◌, ◌-◌, ◌≤◌, ◌<◌}
use native.Mathlib.Omega.{arith}
use mathlib.Core.Path.{◌≡◌, refl, sym, ap, subst, ◌∙◌}
use mathlib.Core.Bool.{Bool, true, false, ◌&&◌, true≢false}
use mathlib.Core.Logic.{◌⊎◌, inl, inr}
use mathlib.Core.List.{List, [], ◌∷◌, ◌++◌}
use borrow.Author.Tests.{eqb-true, eqb-false, eq-eqb}
use lib.Dec.{eqb}
use Rattle.region.specs.Pick.{pick, upd}
use Rattle.region.specs.Record.{is_item, same_item, zero_item}
use Rattle.region.specs.Shape.{between}
use Rattle.region.specs.declared.answer.Answer.{Answer}
use Rattle.region.specs.declared.record.Item.{Item}
use Rattle.region.proofs.Items.{same_item_lem}
use Rattle.region.proofs.Picks.{upd_other, upd_same}
use Rattle.access.specs.Plan.{answers_operation}
use Rattle.theory.specs.Ledger.{Follows, Ledger, Operation, a_take, empty_decides, ends_withdrawn, list_begins, list_decides, listing, none, one_item, one_less, one_more, owing, put_begins, put_decides, putting, still, still_owing, take_answers, take_begins, take_decides, taking, whole_list}
use Rattle.theory.specs.Told.{Told, nothing, begins_put, begins_take, begins_list, decides_put, decides_take, decides_list, decides_empty, answers_took, withdraws}
use Rattle.theory.proofs.Facts.{stage, undecided_stage}
use Rattle.records.specs.declared.form.Recorded.{Recorded}
use Rattle.bag.specs.Demand3.{AnswerSays, Says, empty, idle, inserted, list_removed, moved, refused, removed, took, withdrawn}
use Rattle.bag.specs.History.{Event, Moment, called, turned}
use Rattle.bag.specs.Operations.{answered}
use Rattle.bag.specs.Told.{tells}
use Rattle.bag.proofs.Histories.{called_so}
use Rattle.accepted.specs.HistoryRecords.{Beginning, begun_after, decided_record, records_at}
use Rattle.accepted.proofs.Bags.{owed_rest}
use Rattle.accepted.proofs.Begins.{BeginsInRange}

-- Lists of records.
abbrev pub EachOf : (Recorded → Type 0) → List Recorded → Type 0
EachOf P [] = Unit
EachOf P (r ∷ rs) = P r × EachOf P rs

pub each_append : (P : Recorded → Type 0) (xs ys : List Recorded) → EachOf P xs → EachOf P ys → EachOf P (xs ++ ys)
each_append P [] ys a b = b
each_append P (x ∷ xs) ys a b = (a.0, each_append P xs ys a.1 b)

pub each_so : (P Q : Recorded → Type 0) (rs : List Recorded) → ((r : Recorded) → P r → Q r) → EachOf P rs → EachOf Q rs
each_so P Q [] h a = tt
each_so P Q (r ∷ rs) h a = (h r a.0, each_so P Q rs h a.1)

-- whatever is recorded at a moment, what holds of every deciding access's record holds of it
pub at_each : (P : Recorded → Type 0) (begun : ℕ → Beginning) (k p : ℕ) (ms : List Moment)
    → ((kind t : ℕ) (i : Item) → P (decided_record begun k p ms kind t i)) → (x : Told) → EachOf P (records_at begun k p ms x)
at_each P begun k p ms h nothing = tt
at_each P begun k p ms h (begins_put t i) = tt
at_each P begun k p ms h (begins_take t) = tt
at_each P begun k p ms h (begins_list t) = tt
at_each P begun k p ms h (decides_put t) = (h 1 t (begun t).item, tt)
at_each P begun k p ms h (decides_take t i) = (h 2 t i, tt)
at_each P begun k p ms h (decides_list t is) = tt
at_each P begun k p ms h (decides_empty t) = (h 3 t _, tt)
at_each P begun k p ms h (answers_took t i) = tt
at_each P begun k p ms h (withdraws t) = tt

-- A beginning at moment k is behind every number before k.
module _ (t a : ℕ) (begun : ℕ → Beginning) (k : ℕ) (later : a < (begun t).number) (now : a < k) where
  upd_later : (u : ℕ) (i : Item) → a < (upd begun u (record { number = k; item = i }) t).number
  unfolding upd pick
  upd_later u i = go (eqb t u)
    where
      go : (q : Bool) → a < (pick q (record { number = k; item = i }) (begun t)).number
      go true = now
      go false = later

  pub begun_later : (x : Told) → a < (begun_after begun k x t).number
  begun_later nothing = later
  begun_later (begins_put u i) = upd_later u i
  begun_later (begins_take u) = upd_later u _
  begun_later (begins_list u) = later
  begun_later (decides_put u) = later
  begun_later (decides_take u i) = later
  begun_later (decides_list u is) = later
  begun_later (decides_empty u) = later
  begun_later (answers_took u i) = later
  begun_later (withdraws u) = later

-- Thread t's operation at a moment.
module _ (t : ℕ) where
  -- another thread's moment leaves it
  aside : (op : ℕ → Operation) (u : ℕ) (o o' : Operation) → op u ≡ o → (stage (op t) ≡ stage o → ⊥) → upd op u o' t ≡ op t
  aside op u o o' e n = upd_other op u t o' (λ s. n (ap (λ v. stage (op v)) s ∙ ap stage e))

  -- a thread without an operation begins one, or has none afterwards
  pub none_stays : (begun : ℕ → Beginning) (k : ℕ) (x : Told) (l l' : Ledger) → Follows x l l' → ((u : ℕ) → x ≡ begins_list u → ⊥)
      → l.operation t ≡ none → ((begun_after begun k x t).number ≡ k) ⊎ (l'.operation t ≡ none)
  unfolding upd pick
  none_stays begun k x l l' still never e = inr e
  none_stays begun k x l l' (put_begins {t = u} {i = i} f) never e = go (eqb t u)
    where
      go : (q : Bool) → ((pick q (record { number = k; item = i }) (begun t)).number ≡ k) ⊎ (pick q (putting i) (l.operation t) ≡ none)
      go true = inl refl
      go false = inr e
  none_stays begun k x l l' (take_begins {t = u} f) never e = go (eqb t u)
    where
      go : (q : Bool) → ((pick q (record { number = k; item = zero_item }) (begun t)).number ≡ k) ⊎ (pick q taking (l.operation t) ≡ none)
      go true = inl refl
      go false = inr e
  none_stays begun k x l l' (list_begins {t = u} f) never e = absurd (never u refl)
  none_stays begun k x l l' (put_decides {t = u} {i = i} f) never e =
      inr (aside l.operation u (putting i) none f (λ s. let z = ap stage e in omega (arith, s, z)) ∙ e)
  none_stays begun k x l l' (take_decides {t = u} {i = i} f _) never e =
      inr (aside l.operation u taking (owing i []) f (λ s. let z = ap stage e in omega (arith, s, z)) ∙ e)
  none_stays begun k x l l' (list_decides {t = u} {i = i} {is = is} f _ _) never e =
      inr (aside l.operation u listing (owing i is) f (λ s. let z = ap stage e in omega (arith, s, z)) ∙ e)
  none_stays begun k x l l' (empty_decides {t = u} {o = o} f un _) never e =
      let b = undecided_stage o (a_take un) in
      inr (aside l.operation u o none f (λ s. let z = ap stage e in omega (arith, s, z, b.0)) ∙ e)
  none_stays begun k x l l' (take_answers {t = u} {i = i} {is = is} f) never e =
      inr (aside l.operation u (owing i is) (still_owing is) f (λ s. let z = ap stage e in omega (arith, s, z)) ∙ e)
  none_stays begun k x l l' (ends_withdrawn {t = u} {o = o} f un) never e =
      let b = undecided_stage o un in
      inr (aside l.operation u o none f (λ s. let z = ap stage e in omega (arith, s, z, b.0)) ∙ e)

  -- a thread that owes one item answers it, or owes it still
  pub owing_stays : (x : Told) (l l' : Ledger) → Follows x l l' → (i : Item) → l.operation t ≡ owing i []
      → ((j : Item) × (x ≡ answers_took t j) × (l'.operation t ≡ none)) ⊎ (l'.operation t ≡ owing i [])
  owing_stays x l l' still i e = inr e
  owing_stays x l l' (put_begins {t = u} {i = j} f) i e =
      inr (aside l.operation u none (putting j) f (λ s. let z = ap stage e in omega (arith, s, z)) ∙ e)
  owing_stays x l l' (take_begins {t = u} f) i e =
      inr (aside l.operation u none taking f (λ s. let z = ap stage e in omega (arith, s, z)) ∙ e)
  owing_stays x l l' (list_begins {t = u} f) i e =
      inr (aside l.operation u none listing f (λ s. let z = ap stage e in omega (arith, s, z)) ∙ e)
  owing_stays x l l' (put_decides {t = u} {i = j} f) i e =
      inr (aside l.operation u (putting j) none f (λ s. let z = ap stage e in omega (arith, s, z)) ∙ e)
  owing_stays x l l' (take_decides {t = u} {i = j} f _) i e =
      inr (aside l.operation u taking (owing j []) f (λ s. let z = ap stage e in omega (arith, s, z)) ∙ e)
  owing_stays x l l' (list_decides {t = u} {i = j} {is = is} f _ _) i e =
      inr (aside l.operation u listing (owing j is) f (λ s. let z = ap stage e in omega (arith, s, z)) ∙ e)
  owing_stays x l l' (empty_decides {t = u} {o = o} f un _) i e =
      let b = undecided_stage o (a_take un) in
      inr (aside l.operation u o none f (λ s. let z = ap stage e in omega (arith, s, z, b.1)) ∙ e)
  owing_stays x l l' (take_answers {t = u} {i = j} {is = is} f) i e = go (eqb t u) refl
    where
      go : (q : Bool) → eqb t u ≡ q
          → ((k : Item) × (answers_took u j ≡ answers_took t k) × (upd l.operation u (still_owing is) t ≡ none))
          ⊎ (upd l.operation u (still_owing is) t ≡ owing i [])
      go true q =
          let same = eqb-true t u q in
          let rest : is ≡ [] = ap owed_rest (sym f ∙ ap l.operation (sym same) ∙ e) in
          inl (
            j,
            ap (λ v. answers_took v j) (sym same),
            ap (upd l.operation u (still_owing is)) same ∙ upd_same l.operation u (still_owing is) ∙ ap still_owing rest,
          )
      go false q = inr (upd_other l.operation u t (still_owing is) (eqb-false t u q) ∙ e)
  owing_stays x l l' (ends_withdrawn {t = u} {o = o} f un) i e =
      let b = undecided_stage o un in
      inr (aside l.operation u o none f (λ s. let z = ap stage e in omega (arith, s, z, b.1)) ∙ e)

  -- a thread that has none, or has decided, does not decide
  pub decides_elsewhere : (begun : ℕ → Beginning) (k p : ℕ) (ms : List Moment) (x : Told) (l l' : Ledger) → Follows x l l'
      → (stage (l.operation t) ≡ 1 → ⊥) → (stage (l.operation t) ≡ 2 → ⊥) → (stage (l.operation t) ≡ 3 → ⊥)
      → EachOf (λ r. r.thread ≡ t → ⊥) (records_at begun k p ms x)
  decides_elsewhere begun k p ms x l l' still n₁ n₂ n₃ = tt
  decides_elsewhere begun k p ms x l l' (put_begins f) n₁ n₂ n₃ = tt
  decides_elsewhere begun k p ms x l l' (take_begins f) n₁ n₂ n₃ = tt
  decides_elsewhere begun k p ms x l l' (list_begins f) n₁ n₂ n₃ = tt
  decides_elsewhere begun k p ms x l l' (put_decides f) n₁ n₂ n₃ = ((λ s. n₁ (ap (λ v. stage (l.operation v)) (sym s) ∙ ap stage f)), tt)
  decides_elsewhere begun k p ms x l l' (take_decides f _) n₁ n₂ n₃ = ((λ s. n₂ (ap (λ v. stage (l.operation v)) (sym s) ∙ ap stage f)), tt)
  decides_elsewhere begun k p ms x l l' (list_decides f _ _) n₁ n₂ n₃ = tt
  decides_elsewhere begun k p ms x l l' (empty_decides f one_item _) n₁ n₂ n₃ =
      ((λ s. n₂ (ap (λ v. stage (l.operation v)) (sym s) ∙ ap stage f)), tt)
  decides_elsewhere begun k p ms x l l' (empty_decides f whole_list _) n₁ n₂ n₃ =
      ((λ s. n₃ (ap (λ v. stage (l.operation v)) (sym s) ∙ ap stage f)), tt)
  decides_elsewhere begun k p ms x l l' (take_answers f) n₁ n₂ n₃ = tt
  decides_elsewhere begun k p ms x l l' (ends_withdrawn f un) n₁ n₂ n₃ = tt

-- What is told of an answer comes from a turn that answers.
abbrev pub answering : Told → Bool
answering nothing = false
answering (begins_put t i) = false
answering (begins_take t) = false
answering (begins_list t) = false
answering (decides_put t) = true
answering (decides_take t i) = false
answering (decides_list t is) = false
answering (decides_empty t) = true
answering (answers_took t i) = true
answering (withdraws t) = false

abbrev pub thread_told : Told → ℕ
thread_told nothing = 0
thread_told (begins_put t i) = t
thread_told (begins_take t) = t
thread_told (begins_list t) = t
thread_told (decides_put t) = t
thread_told (decides_take t i) = t
thread_told (decides_list t is) = t
thread_told (decides_empty t) = t
thread_told (answers_took t i) = t
thread_told (withdraws t) = t

says_answered : (t : ℕ) (a : Answer) (x : Told) → Says t a x → answering x ≡ true → eqb (thread_told x) t && answers_operation a ≡ true
says_answered t a x moved h = absurd (true≢false (sym h))
says_answered t a x removed h = absurd (true≢false (sym h))
says_answered t a x list_removed h = absurd (true≢false (sym h))
says_answered t a x idle h = absurd (true≢false (sym h))
says_answered t a x inserted h = rw (eq-eqb t t refl) refl
says_answered t a x took h = rw (eq-eqb t t refl) refl
says_answered t a x empty h = rw (eq-eqb t t refl) refl
says_answered t a x refused h = absurd (true≢false (sym h))
says_answered t a x withdrawn h = absurd (true≢false (sym h))

pub told_answered : (e : Event) → AnswerSays e → (x : Told) → tells e ≡ x → answering x ≡ true → answered (thread_told x) e ≡ true
told_answered (called c r) s x ex h =
    absurd (true≢false (sym h ∙ ap answering (sym ex)
    ∙ called_so (λ y. answering y ≡ false) refl (λ t i. refl) (λ t. refl) (λ t. refl) c r))
told_answered (turned y) s x ex h =
    subst (λ z. eqb (thread_told z) y.thread && answers_operation y.answer ≡ true) ex
    (says_answered y.thread y.answer (tells (turned y)) s (ap answering ex ∙ h))

-- Each thread's operation and its beginning, before moment k.
abbrev pub OpFits : Operation → ℕ → Beginning → ℕ → Type 0
OpFits none t b k = Unit
OpFits (putting i) t b k = (between 1 t 64 ≡ true) × (is_item i ≡ true) × (b.item ≡ i) × (b.number < k)
OpFits taking t b k = (between 1 t 64 ≡ true) × (b.number < k)
OpFits listing t b k = ⊥
OpFits (owing i is) t b k = is ≡ []

pub record Fits (l : Ledger) (begun : ℕ → Beginning) (k : ℕ) : Type 0 where
  pub op : (t : ℕ) → OpFits (l.operation t) t (begun t) k
  pub items : (i : Item) → 1 ≤ l.bag i → is_item i ≡ true

op_later : (o : Operation) (t : ℕ) (b : Beginning) (k : ℕ) → OpFits o t b k → OpFits o t b (suc k)
op_later none t b k f = tt
op_later (putting i) t b k f = (f.0, f.1, f.2, let l = f.3 in omega (arith, l))
op_later taking t b k f = (f.0, let l = f.1 in omega (arith, l))
op_later listing t b k f = f
op_later (owing i is) t b k f = f

module _ (l : Ledger) (begun : ℕ → Beginning) (k : ℕ) (f : Fits l begun k) where
  pub op_is : (u : ℕ) (o : Operation) → l.operation u ≡ o → OpFits o u (begun u) k
  op_is u o e = subst (λ o. OpFits o u (begun u) k) e (f.op u)

  -- thread u's operation changes, and its beginning with it; or its beginning stays
  both_change : (u : ℕ) (o : Operation) (b : Beginning) → OpFits o u b (suc k) → (t : ℕ)
      → OpFits (upd l.operation u o t) t (upd begun u b t) (suc k)
  unfolding upd pick
  both_change u o b g t = go (eqb t u) refl
    where
      go : (q : Bool) → eqb t u ≡ q → OpFits (pick q o (l.operation t)) t (pick q b (begun t)) (suc k)
      go true e = subst (λ v. OpFits o v b (suc k)) (sym (eqb-true t u e)) g
      go false e = op_later (l.operation t) t (begun t) k (f.op t)

  one_changes : (u : ℕ) (o : Operation) → OpFits o u (begun u) (suc k) → (t : ℕ) → OpFits (upd l.operation u o t) t (begun t) (suc k)
  unfolding upd pick
  one_changes u o g t = go (eqb t u) refl
    where
      go : (q : Bool) → eqb t u ≡ q → OpFits (pick q o (l.operation t)) t (begun t) (suc k)
      go true e = subst (λ v. OpFits o v (begun v) (suc k)) (sym (eqb-true t u e)) g
      go false e = op_later (l.operation t) t (begun t) k (f.op t)

  more_items : (i : Item) → is_item i ≡ true → (j : Item) → 1 ≤ one_more l.bag i j → is_item j ≡ true
  unfolding one_more pick
  more_items i g j = go (same_item i j) refl
    where
      go : (q : Bool) → same_item i j ≡ q → 1 ≤ pick q (l.bag j + 1) (l.bag j) → is_item j ≡ true
      go true e h = subst (λ y. is_item y ≡ true) (same_item_lem i j e) g
      go false e h = f.items j h

  fewer_items : (i j : Item) → 1 ≤ one_less l.bag i j → is_item j ≡ true
  unfolding one_less pick
  fewer_items i j = go (same_item i j)
    where
      go : (q : Bool) → 1 ≤ pick q (l.bag j - 1) (l.bag j) → is_item j ≡ true
      go true h = f.items j (omega (arith, h))
      go false h = f.items j h

  pub fits_next : (x : Told) (l' : Ledger) → Follows x l l' → BeginsInRange x → ((u : ℕ) → x ≡ begins_list u → ⊥)
      → Fits l' (begun_after begun k x) (suc k)
  fits_next x l' still r never = record { op = λ t. op_later (l.operation t) t (begun t) k (f.op t); items = f.items }
  fits_next x l' (put_begins {t = u} {i = i} e) r never =
      record { op = both_change u (putting i) _ (r.0, r.1, refl, omega arith); items = f.items }
  fits_next x l' (take_begins {t = u} e) r never = record { op = both_change u taking _ (r, omega arith); items = f.items }
  fits_next x l' (list_begins {t = u} e) r never = absurd (never u refl)
  fits_next x l' (put_decides {t = u} {i = i} e) r never =
      record { op = one_changes u none tt; items = more_items i (op_is u (putting i) e).1 }
  fits_next x l' (take_decides {t = u} {i = i} e least) r never =
      record { op = one_changes u (owing i []) refl; items = fewer_items i }
  fits_next x l' (list_decides {t = u} e least all) r never = absurd (op_is u listing e)
  fits_next x l' (empty_decides {t = u} e un z) r never = record { op = one_changes u none tt; items = f.items }
  fits_next x l' (take_answers {t = u} {i = i} {is = is} e) r never =
      record {
        op = one_changes u (still_owing is) (subst (λ y. OpFits (still_owing y) u (begun u) (suc k)) (sym (op_is u (owing i is) e)) tt);
        items = f.items;
      }
  fits_next x l' (ends_withdrawn {t = u} e un) r never = record { op = one_changes u none tt; items = f.items }
