-- The took answers of a take are the items that its deciding access removed, one by one in their order, and the thread is idle exactly when all
-- have come: from the ledger, whose operation is what the thread still owes, and from the invariant, by which a thread is idle exactly
-- without an operation. That the items rise comes from the lists, which never fall. Assumes nothing.
use Prim.Native.Nat.{ℕ, ◌≤◌}
use native.Mathlib.Omega.{arith}
use mathlib.Core.Path.{◌≡◌, refl, sym, ap, ◌∙◌}
use mathlib.Core.Bool.{Bool, true, false}
use mathlib.Core.List.{List, [], ◌∷◌, ◌++◌, append_assoc}
use borrow.Author.Tests.{eqb-true}
use lib.Dec.{eqb}
use Rattle.region.specs.Pick.{pick, upd}
use Rattle.region.specs.declared.answer.Answer.{Answer}
use Rattle.region.specs.declared.answer.Answer.TheVariants.{Moved, Idle, Inserted, Took, Empty, Refused, Withdrawn}
use Rattle.region.specs.declared.record.Item.{Item}
use Rattle.region.proofs.Picks.{upd_same}
use Rattle.access.specs.declared.effect.Effect.{Effect}
use Rattle.access.specs.declared.effect.Effect.TheVariants.{Nothing, Grow, Push, Pop, Exchange, Clean, Detach, Free}
use Rattle.theory.specs.Ledger.{Ledger, Operation, none, owing, putting, listing, still_owing, taking, Follows, still, put_begins, take_begins, list_begins, put_decides, take_decides, list_decides, empty_decides, take_answers, ends_withdrawn}
use Rattle.theory.specs.Told.{Told, nothing, begins_put, begins_take, begins_list, decides_put, decides_take, decides_list, decides_empty, answers_took, withdraws}
use Rattle.theory.proofs.Facts.{stage, take_stage, undecided_stage}
use Rattle.theory.proofs.Sorted.{Sorted}
use Rattle.theory.proofs.Steps.{effect_tells, quiet_tells}
use Rattle.bag.specs.Demand3.{AnswerSays, Says, moved, removed, list_removed, idle, inserted, took, empty, refused, withdrawn}
use Rattle.bag.specs.History.{Event, called, turned, Moment}
use Rattle.bag.specs.Moments.{region_after}
use Rattle.bag.specs.Operations.{beginning, begins, count}
use Rattle.bag.specs.Told.{tells}
use Rattle.bag.specs.TookInOrder.{NeverFalls, Removes, handed, handed_at, one_item as one_removed, took_by, whole_list as list_taken}
use Rattle.bag.proofs.Histories.{Kept, called_so}
use Rattle.bag.proofs.Operations.{elsewhere, none_here}

-- what an operation owes
abbrev first_owed : Item → Operation → Item
first_owed j none = j
first_owed j (putting i) = j
first_owed j taking = j
first_owed j listing = j
first_owed j (owing i is) = i

abbrev rest_owed : Operation → List Item
rest_owed none = []
rest_owed (putting i) = []
rest_owed taking = []
rest_owed listing = []
rest_owed (owing i is) = is

-- the item that thread t is told to have answered took with
abbrev told_took : ℕ → Told → List Item
told_took t nothing = []
told_took t (begins_put u i) = []
told_took t (begins_take u) = []
told_took t (begins_list u) = []
told_took t (decides_put u) = []
told_took t (decides_take u i) = []
told_took t (decides_list u is) = []
told_took t (decides_empty u) = []
told_took t (answers_took u i) = pick (eqb t u) (i ∷ []) []
told_took t (withdraws u) = []

-- a list that is removed never falls
abbrev pub Rises : Told → Type 0
Rises nothing = Unit
Rises (begins_put u i) = Unit
Rises (begins_take u) = Unit
Rises (begins_list u) = Unit
Rises (decides_put u) = Unit
Rises (decides_take u i) = Unit
Rises (decides_list u is) = NeverFalls is
Rises (decides_empty u) = Unit
Rises (answers_took u i) = Unit
Rises (withdraws u) = Unit

pub sorted_rises : (is : List Item) → Sorted is → NeverFalls is
sorted_rises [] h = tt
sorted_rises (i ∷ []) h = tt
sorted_rises (i ∷ j ∷ is) h = (h.1.0, sorted_rises (j ∷ is) h.2)

quiet_rises : (t : ℕ) (a : Answer) → Rises (quiet_tells t a)
quiet_rises t Moved = tt
quiet_rises t Idle = tt
quiet_rises t Inserted = tt
quiet_rises t (Took i) = tt
quiet_rises t Empty = tt
quiet_rises t (Refused n) = tt
quiet_rises t Withdrawn = tt

pub effect_rises : (i : Item) (is : List Item) (t : ℕ) → NeverFalls is → (a : Answer) (e : Effect) → Rises (effect_tells i is t a e)
effect_rises i is t h a Nothing = quiet_rises t a
effect_rises i is t h a (Grow d) = quiet_rises t a
effect_rises i is t h a (Push n v c x) = tt
effect_rises i is t h a (Pop v c) = tt
effect_rises i is t h a (Exchange n v k w) = quiet_rises t a
effect_rises i is t h a (Clean n v) = quiet_rises t a
effect_rises i is t h a (Detach v) = h
effect_rises i is t h a (Free c) = quiet_rises t a

none_picked : (q : Bool) → pick {A = List Item} q [] [] ≡ []
unfolding pick
none_picked true = refl
none_picked false = refl

-- Thread t.
module _ (t : ℕ) where
  -- an answer hands over what is told
  says_handed : (u : ℕ) (a : Answer) (x : Told) → Says u a x → pick (eqb t u) (handed a) [] ≡ told_took t x
  says_handed u a x moved = none_picked (eqb t u)
  says_handed u a x removed = none_picked (eqb t u)
  says_handed u a x list_removed = none_picked (eqb t u)
  says_handed u a x idle = none_picked (eqb t u)
  says_handed u a x inserted = none_picked (eqb t u)
  says_handed u a x took = refl
  says_handed u a x empty = none_picked (eqb t u)
  says_handed u a x refused = none_picked (eqb t u)
  says_handed u a x withdrawn = none_picked (eqb t u)

  told_handed : (e : Event) → AnswerSays e → handed_at t e ≡ told_took t (tells e)
  told_handed (called c r) s = called_so (λ x. [] ≡ told_took t x) refl (λ u i. refl) (λ u. refl) (λ u. refl) c r
  told_handed (turned x) s = says_handed x.thread x.answer (tells (turned x)) s

  -- what was owed before x is what x hands over and what is owed afterwards
  record Pays (x : Told) (owed : List Item) (after : Operation) : Type 0 where
    rest : List Item
    split : owed ≡ told_took t x ++ rest
    now : after ≡ still_owing rest

  -- an operation that owes is none of the others
  not_owing : (owed : List Item) (o : Operation) → 1 ≤ stage o → stage o ≤ 3 → still_owing owed ≡ o → ⊥
  not_owing [] o l u e = let k = ap stage e in omega arith
  not_owing (i ∷ is) o l u e = let k = ap stage e in omega arith

  module _ (x : Told) (op : ℕ → Operation) (owed : List Item) (here : op t ≡ still_owing owed) (hands : told_took t x ≡ []) where
    untouched : (after : Operation) → after ≡ op t → Pays x owed after
    untouched after e = record { rest = owed; split = ap (λ is. is ++ owed) (sym hands); now = e ∙ here }

    -- u's operation o, which owes nothing, becomes o': u is not t
    aside : (u : ℕ) (o o' : Operation) → op u ≡ o → 1 ≤ stage o → stage o ≤ 3 → Pays x owed (upd op u o' t)
    aside u o o' e least most = go (eqb t u) refl
      where
        go : (q : Bool) → eqb t u ≡ q → Pays x owed (upd op u o' t)
        go true k = absurd (not_owing owed o least most (sym here ∙ ap op (eqb-true t u k) ∙ e))
        go false k = untouched (upd op u o' t) (elsewhere t op u o' k)

  -- an answer took: t's own pays the first item owed
  module _ (op : ℕ → Operation) (u : ℕ) (i : Item) (is : List Item) (e : op u ≡ owing i is) where
    pays_first : (owed : List Item) → op t ≡ still_owing owed → t ≡ u → eqb t u ≡ true → Pays (answers_took u i) owed (upd op u (still_owing is) t)
    unfolding pick upd
    pays_first [] here same q = absurd (let k = ap stage (sym here ∙ ap op same ∙ e) in omega arith)
    pays_first (j ∷ js) here same q =
        let k : owing j js ≡ owing i is = sym here ∙ ap op same ∙ e in
        let first : j ≡ i = ap (first_owed j) k in
        let behind : js ≡ is = ap rest_owed k in
        record {
          rest = is;
          split = (λ x. first x ∷ behind x) ∙ ap (λ p. pick p (i ∷ []) [] ++ is) (sym q);
          now = ap (λ p. pick p (still_owing is) (op t)) q;
        }

    took_pays : (owed : List Item) → op t ≡ still_owing owed → Pays (answers_took u i) owed (upd op u (still_owing is) t)
    unfolding pick
    took_pays owed here = go (eqb t u) refl
      where
        go : (q : Bool) → eqb t u ≡ q → Pays (answers_took u i) owed (upd op u (still_owing is) t)
        go true k = pays_first owed here (eqb-true t u k) k
        go false k = untouched (answers_took u i) op owed here (ap (λ p. pick p (i ∷ []) []) k) _ (elsewhere t op u (still_owing is) k)

  -- every moment that begins no operation of t's
  pays : (x : Told) (l l' : Ledger) → Follows x l l' → beginning t x ≡ false → (owed : List Item) → l.operation t ≡ still_owing owed
      → Pays x owed (l'.operation t)
  pays x l l' still ne owed h = untouched x l.operation owed h refl _ refl
  pays x l l' (put_begins {t = u} e) ne owed h = untouched x l.operation owed h refl _ (elsewhere t l.operation u _ ne)
  pays x l l' (take_begins {t = u} e) ne owed h = untouched x l.operation owed h refl _ (elsewhere t l.operation u _ ne)
  pays x l l' (list_begins {t = u} e) ne owed h = untouched x l.operation owed h refl _ (elsewhere t l.operation u _ ne)
  pays x l l' (put_decides {t = u} {i = i} e) ne owed h = aside x l.operation owed h refl u (putting i) none e (omega arith) (omega arith)
  pays x l l' (take_decides {t = u} {i = i} e _) ne owed h =
      aside x l.operation owed h refl u taking (owing i []) e (omega arith) (omega arith)
  pays x l l' (list_decides {t = u} {i = i} {is = is} e _ _) ne owed h =
      aside x l.operation owed h refl u listing (owing i is) e (omega arith) (omega arith)
  pays x l l' (empty_decides {t = u} {o = o} e un _) ne owed h =
      aside x l.operation owed h refl u o none e (take_stage o un).0 (take_stage o un).1
  pays x l l' (take_answers {t = u} {i = i} {is = is} e) ne owed h = took_pays l.operation u i is e owed h
  pays x l l' (ends_withdrawn {t = u} {o = o} e un) ne owed h =
      aside x l.operation owed h refl u o none e (undecided_stage o un).0 (undecided_stage o un).1

  -- the deciding access: what it removes is owed, and rises
  pub removal_owes : (x : Told) (is : List Item) → Removes t x is → (l l' : Ledger) → Follows x l l' → l'.operation t ≡ still_owing is
  removal_owes x is one_removed l l' (take_decides {i = i} e _) = upd_same l.operation t (owing i [])
  removal_owes x is list_taken l l' (list_decides {i = i} {is = js} e _ _) = upd_same l.operation t (owing i js)

  pub removal_rises : (x : Told) (is : List Item) → Removes t x is → Rises x → NeverFalls is
  removal_rises x is one_removed r = tt
  removal_rises x is list_taken r = r

  -- All along a history, of whose moments P and F hold.
  module _ (P : List ℕ → Ledger → Type 0) (F : List ℕ → Moment → Ledger → Ledger → Type 0)
      (follows : (b : List ℕ) (m : Moment) (l l' : Ledger) → F b m l l' → Follows (tells m.event) l l' × AnswerSays m.event) where
    pub record Paid (since : List Moment) (b : List ℕ) (owed : List Item) : Type 0 where
      pub rest : List Item
      pub ledger : Ledger
      pub region : P (region_after b since) ledger
      pub split : owed ≡ took_by t since ++ rest
      pub now : ledger.operation t ≡ still_owing rest

    pub all_paid : (since later : List Moment) (b : List ℕ) (l : Ledger) → P b l → Kept P F b l (since ++ later) → count (begins t) since ≡ 0
        → (owed : List Item) → l.operation t ≡ still_owing owed → Paid since b owed
    unfolding count took_by
    all_paid [] later b l g k z owed h = record { rest = owed; ledger = l; region = g; split = refl; now = h }
    all_paid (m ∷ ms) later b l g k z owed h =
        let told = tells m.event in
        let f = follows b m l k.0 k.1 in
        let ne = none_here (begins t m.event) (count (begins t) ms) z in
        let p = pays told l k.0 f.0 ne owed h in
        let r = all_paid ms later m.region k.0 k.2 k.3 (omega (arith, z)) p.rest p.now in
        record {
          rest = r.rest;
          ledger = r.ledger;
          region = r.region;
          split =
              p.split
              ∙ (λ i. sym (told_handed m.event f.1) i ++ r.split i)
              ∙ sym (append_assoc (handed_at t m.event) (took_by t ms) r.rest);
          now = r.now;
        }
