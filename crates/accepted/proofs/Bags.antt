-- A bag as a list of items, and the ledger's bag, which counts copies: what holds of one holds of the other, so the checker's bag plays exactly
-- what the ledger follows. Assumes nothing.
use Prim.Native.Nat.{ℕ, ◌+◌, ◌-◌, ◌≤◌}
use native.Mathlib.Omega.{arith}
use mathlib.Core.Path.{◌≡◌, refl, sym, ap, subst, ◌∙◌}
use mathlib.Core.Bool.{Bool, true, false, ◌&&◌, ◌||◌, true≢false}
use mathlib.Core.List.{List, [], ◌∷◌, ◌++◌}
use borrow.Author.Tests.{eqb-true, eqb-false, not-true}
use lib.Dec.{eqb}
use Rattle.region.specs.Pick.{pick, upd}
use Rattle.region.specs.Record.{same_item}
use Rattle.region.specs.declared.record.Item.{Item}
use Rattle.region.proofs.Items.{item_same, same_item_lem}
use Rattle.region.proofs.Picks.{upd_same, upd_other}
use Rattle.region.proofs.Shapes.{and_left, and_right, and_both}
use Rattle.access.specs.Order.{item_le, item_lt}
use Rattle.access.proofs.OrderLaws.{item_less, item_refl, item_total}
use Rattle.theory.specs.Ledger.{Follows, Least, Ledger, Operation, empty_ledger, empty_decides, listing, none, one_item, one_less, one_more, owing, put_begins, put_decides, putting, still_owing, take_answers, take_begins, take_decides, taking}
use Rattle.theory.specs.Told.{Told, answers_took, begins_put, begins_take, decides_empty, decides_put, decides_take}
use Rattle.records.specs.Play.{bag_after, bag_gives, holds, is_empty_bag, is_least, none_less, plays, without}
use Rattle.records.specs.Recorded.{is_put, is_take}
use Rattle.records.specs.declared.form.Recorded.{Recorded}
use Rattle.records.proofs.InHeap.{least_of, none_less_lem}
use Rattle.accepted.specs.LedgerPlay.{FollowsAll, all_told, told_of}

-- the ledger's bag of the items of a list
unfoldable pub bag_of : List Item → Item → ℕ
unfolding one_more
bag_of [] = λ j. 0
bag_of (i ∷ bag) = one_more (bag_of bag) i

pub count_holds : (bag : List Item) (i : Item) → 1 ≤ bag_of bag i → holds bag i ≡ true
unfolding bag_of one_more holds pick
count_holds [] i h = absurd (omega arith)
count_holds (j ∷ bag) i h = go (same_item j i) h (count_holds bag i)
  where
    go : (q : Bool) → 1 ≤ pick q (bag_of bag i + 1) (bag_of bag i) → (1 ≤ bag_of bag i → holds bag i ≡ true) → q || holds bag i ≡ true
    go true l before = refl
    go false l before = before l

pub holds_count : (bag : List Item) (i : Item) → holds bag i ≡ true → 1 ≤ bag_of bag i
unfolding bag_of one_more holds pick
holds_count [] i h = absurd (true≢false (sym h))
holds_count (j ∷ bag) i h = go (same_item j i) h (holds_count bag i)
  where
    go : (q : Bool) → q || holds bag i ≡ true → (holds bag i ≡ true → 1 ≤ bag_of bag i) → 1 ≤ pick q (bag_of bag i + 1) (bag_of bag i)
    go true l before = omega arith
    go false l before = before l

-- the least item
pub least_counts : (bag : List Item) (i : Item) → is_least bag i ≡ true → Least (bag_of bag) i
least_counts bag i e =
    record {
      held = holds_count bag i (and_left (holds bag i) (none_less bag i) e);
      others_greater = λ j h n. item_less i j (least_of bag i (and_right (holds bag i) (none_less bag i) e) j (count_holds bag j h)) n;
    }

pub counts_least : (bag : List Item) (i : Item) → Least (bag_of bag) i → is_least bag i ≡ true
unfolding item_lt
counts_least bag i l = and_both (count_holds bag i l.held) (none_less_lem bag i at_most)
  where
    at_most : (j : Item) → holds bag j ≡ true → item_le i j ≡ true
    at_most j h = go (same_item j i) refl
      where
        go : (q : Bool) → same_item j i ≡ q → item_le i j ≡ true
        go true e = subst (λ y. item_le i y ≡ true) (sym (same_item_lem j i e)) (item_refl i)
        go false e =
            item_total j i (not-true (item_le j i)
            (l.others_greater j (holds_count bag j h) (λ k. true≢false (sym (subst (λ y. same_item y i ≡ true) (sym k) (item_same i)) ∙ e))))

-- one copy less
module _ (i : Item) where
  less_of : (bag : List Item) → holds bag i ≡ true → (j : Item) → bag_of (without bag i) j ≡ one_less (bag_of bag) i j
  unfolding bag_of one_more one_less holds without pick
  less_of [] h j = absurd (true≢false (sym h))
  less_of (k ∷ bag) h j = go (same_item k i) refl h (same_item k j) refl (same_item i j) refl (λ e. less_of bag e j)
    where
      go : (p : Bool) → same_item k i ≡ p → p || holds bag i ≡ true → (q : Bool) → same_item k j ≡ q → (s : Bool) → same_item i j ≡ s
          → (holds bag i ≡ true → bag_of (without bag i) j ≡ pick s (bag_of bag j - 1) (bag_of bag j))
          → bag_of (pick p bag (k ∷ without bag i)) j ≡ pick s (pick q (bag_of bag j + 1) (bag_of bag j) - 1) (pick q (bag_of bag j + 1) (bag_of bag j))
      go true e l q f true g before = rw (← f, same_item_lem k i e, g) (omega arith)
      go true e l q f false g before = rw (← f, same_item_lem k i e, g) refl
      go false e l true f true g before =
          absurd (true≢false (sym (subst (λ y. same_item k y ≡ true) (sym (same_item_lem i j g)) f) ∙ e))
      go false e l true f false g before = rw (f, before l) refl
      go false e l false f s g before = rw (f, before l) refl

  pub without_counts : (bag : List Item) → holds bag i ≡ true → bag_of (without bag i) ≡ one_less (bag_of bag) i
  without_counts bag h = λ x j. less_of bag h j x

pub empty_counts : (bag : List Item) → is_empty_bag bag ≡ true → (j : Item) → bag_of bag j ≡ 0
unfolding bag_of is_empty_bag
empty_counts [] e j = refl
empty_counts (i ∷ bag) e j = absurd (true≢false (sym e))

pub counts_empty : (bag : List Item) → ((j : Item) → bag_of bag j ≡ 0) → is_empty_bag bag ≡ true
unfolding bag_of is_empty_bag one_more pick
counts_empty [] z = refl
counts_empty (i ∷ bag) z = absurd (let k = subst (λ q. pick q (bag_of bag i + 1) (bag_of bag i) ≡ 0) (item_same i) (z i) in omega (arith, k))

-- Where no other thread has an operation under way: nor has any when thread t's changes, and none at all when it is over.
abbrev OthersNone : (ℕ → Operation) → ℕ → Type 0
OthersNone op t = (u : ℕ) → (u ≡ t → ⊥) → op u ≡ none

others : (op : ℕ → Operation) (t : ℕ) (o : Operation) → OthersNone op t → OthersNone (upd op t o) t
others op t o h u n = upd_other op t u o n ∙ h u n

over : (op : ℕ → Operation) (t : ℕ) → OthersNone op t → (u : ℕ) → upd op t none u ≡ none
over op t h u = go (eqb u t) refl
  where
    go : (q : Bool) → eqb u t ≡ q → upd op t none u ≡ none
    go true e = ap (upd op t none) (eqb-true u t e) ∙ upd_same op t none
    go false e = others op t none h u (eqb-false u t e)

-- a ledger between two operations, and the list of its bag's items
pub record Between (l : Ledger) (bag : List Item) : Type 0 where
  pub idle : (t : ℕ) → l.operation t ≡ none
  pub same : l.bag ≡ bag_of bag

-- What the checker's bag plays the ledger follows.
module _ (l : Ledger) (bag : List Item) (w : Between l bag) (t : ℕ) (i : Item) (rest : List Told) where
  put_follows : ((l' : Ledger) → Between l' (i ∷ bag) → FollowsAll l' rest) → FollowsAll l (begins_put t i ∷ decides_put t ∷ rest)
  unfolding bag_of
  put_follows on =
      let l₁ : Ledger = record { bag = l.bag; operation = upd l.operation t (putting i) } in
      let l₂ : Ledger = record { bag = one_more l.bag i; operation = upd (upd l.operation t (putting i)) t none } in (
        l₁,
        put_begins (w.idle t),
        (
          l₂,
          put_decides (upd_same l.operation t (putting i)),
          on l₂ (record { idle = over (upd l.operation t (putting i)) t (others l.operation t (putting i) (λ u n. w.idle u)); same = ap (λ b. one_more b i) w.same }),
        ),
      )

  take_follows : is_least bag i ≡ true → ((l' : Ledger) → Between l' (without bag i) → FollowsAll l' rest)
      → FollowsAll l (begins_take t ∷ decides_take t i ∷ answers_took t i ∷ rest)
  take_follows e on =
      let op₁ = upd l.operation t taking in
      let op₂ = upd op₁ t (owing i []) in
      let l₁ : Ledger = record { bag = l.bag; operation = op₁ } in
      let l₂ : Ledger = record { bag = one_less l.bag i; operation = op₂ } in
      let l₃ : Ledger = record { bag = one_less l.bag i; operation = upd op₂ t none } in
      let least = subst (λ b. Least b i) (sym w.same) (least_counts bag i e) in (
        l₁,
        take_begins (w.idle t),
        (
          l₂,
          take_decides (upd_same l.operation t taking) least,
          (
            l₃,
            take_answers (upd_same op₁ t (owing i [])),
            on l₃ (record {
              idle = over op₂ t (others op₁ t (owing i []) (others l.operation t taking (λ u n. w.idle u)));
              same = ap (λ b. one_less b i) w.same ∙ sym (without_counts i bag (and_left (holds bag i) (none_less bag i) e));
            }),
          ),
        ),
      )

  empty_follows : is_empty_bag bag ≡ true → ((l' : Ledger) → Between l' bag → FollowsAll l' rest)
      → FollowsAll l (begins_take t ∷ decides_empty t ∷ rest)
  empty_follows e on =
      let l₁ : Ledger = record { bag = l.bag; operation = upd l.operation t taking } in
      let l₂ : Ledger = record { bag = l.bag; operation = upd (upd l.operation t taking) t none } in (
        l₁,
        take_begins (w.idle t),
        (
          l₂,
          empty_decides (upd_same l.operation t taking) one_item (λ j. ap (λ b. b j) w.same ∙ empty_counts bag e j),
          on l₂ (record { idle = over (upd l.operation t taking) t (others l.operation t taking (λ u n. w.idle u)); same = w.same }),
        ),
      )

pub plays_follows : (rs : List Recorded) (l : Ledger) (bag : List Item) → Between l bag → plays bag rs ≡ true → FollowsAll l (all_told rs)
unfolding plays all_told told_of bag_gives bag_after pick
plays_follows [] l bag w e = tt
plays_follows (r ∷ rs) l bag w e =
    go (is_put r) (is_take r) e (λ bag' l' w' e'. plays_follows rs l' bag' w' e')
  where
    go : (p q : Bool)
        → pick p true (pick q (is_least bag r.item) (is_empty_bag bag)) && plays (pick p (r.item ∷ bag) (pick q (without bag r.item) bag)) rs ≡ true
        → ((bag' : List Item) (l' : Ledger) → Between l' bag' → plays bag' rs ≡ true → FollowsAll l' (all_told rs))
        → FollowsAll l (pick p (begins_put r.thread r.item ∷ decides_put r.thread ∷ [])
        (pick q (begins_take r.thread ∷ decides_take r.thread r.item ∷ answers_took r.thread r.item ∷ [])
        (begins_take r.thread ∷ decides_empty r.thread ∷ [])) ++ all_told rs)
    go true q e on = put_follows l bag w r.thread r.item (all_told rs) (λ l' w'. on (r.item ∷ bag) l' w' e)
    go false true e on =
        let d = and_left (is_least bag r.item) (plays (without bag r.item) rs) e in
        take_follows l bag w r.thread r.item (all_told rs) d
        (λ l' w'. on (without bag r.item) l' w' (and_right (is_least bag r.item) (plays (without bag r.item) rs) e))
    go false false e on =
        empty_follows l bag w r.thread r.item (all_told rs) (and_left (is_empty_bag bag) (plays bag rs) e)
        (λ l' w'. on bag l' w' (and_right (is_empty_bag bag) (plays bag rs) e))

-- What the ledger follows the checker's bag plays.
abbrev put_item : Operation → Item → Item
put_item none d = d
put_item (putting i) d = i
put_item taking d = d
put_item listing d = d
put_item (owing i is) d = d

abbrev pub owed_rest : Operation → List Item
owed_rest none = []
owed_rest (putting i) = []
owed_rest taking = []
owed_rest listing = []
owed_rest (owing i is) = is

module _ (l : Ledger) (bag : List Item) (w : Between l bag) (t : ℕ) (i : Item) where
  put_followed : (l₁ l₂ : Ledger) → Follows (begins_put t i) l l₁ → Follows (decides_put t) l₁ l₂ → Between l₂ (i ∷ bag)
  unfolding bag_of
  put_followed l₁ l₂ (put_begins e) (put_decides {i = j} k) =
      let same : i ≡ j = ap (λ o. put_item o i) (sym (upd_same l.operation t (putting i)) ∙ k) in
      record {
        idle = over (upd l.operation t (putting i)) t (others l.operation t (putting i) (λ u n. w.idle u));
        same = ap (one_more l.bag) (sym same) ∙ ap (λ b. one_more b i) w.same;
      }

  -- a take of the least item
  record Taken (l₃ : Ledger) : Type 0 where
    least : is_least bag i ≡ true
    after : Between l₃ (without bag i)

  take_followed : (l₁ l₂ l₃ : Ledger) → Follows (begins_take t) l l₁ → Follows (decides_take t i) l₁ l₂ → Follows (answers_took t i) l₂ l₃ → Taken l₃
  take_followed l₁ l₂ l₃ (take_begins e) (take_decides k least) (take_answers {is = is} a) =
      let held : is_least bag i ≡ true = counts_least bag i (subst (λ b. Least b i) w.same least) in
      let all : is ≡ [] = ap owed_rest (sym a ∙ upd_same (upd l.operation t taking) t (owing i [])) in
      record {
        least = held;
        after =
            record {
              idle = λ u.
                  ap (λ o. upd (upd (upd l.operation t taking) t (owing i [])) t o u) (ap still_owing all)
                  ∙ over (upd (upd l.operation t taking) t (owing i [])) t
                  (others (upd l.operation t taking) t (owing i []) (others l.operation t taking (λ v n. w.idle v))) u;
              same = ap (λ b. one_less b i) w.same ∙ sym (without_counts i bag (and_left (holds bag i) (none_less bag i) held));
            };
      }

  empty_followed : (l₁ l₂ : Ledger) → Follows (begins_take t) l l₁ → Follows (decides_empty t) l₁ l₂ → (is_empty_bag bag ≡ true) × Between l₂ bag
  empty_followed l₁ l₂ (take_begins e) (empty_decides k u z) =
      (counts_empty bag (λ j. ap (λ b. b j) (sym w.same) ∙ z j), record { idle = over (upd l.operation t taking) t (others l.operation t taking (λ u n. w.idle u)); same = w.same })

pub follows_plays : (rs : List Recorded) (l : Ledger) (bag : List Item) → Between l bag → FollowsAll l (all_told rs) → plays bag rs ≡ true
unfolding plays all_told told_of bag_gives bag_after pick
follows_plays [] l bag w f = refl
follows_plays (r ∷ rs) l bag w f = go (is_put r) (is_take r) f (λ bag' l' w' f'. follows_plays rs l' bag' w' f')
  where
    go : (p q : Bool)
        → FollowsAll l (pick p (begins_put r.thread r.item ∷ decides_put r.thread ∷ [])
        (pick q (begins_take r.thread ∷ decides_take r.thread r.item ∷ answers_took r.thread r.item ∷ [])
        (begins_take r.thread ∷ decides_empty r.thread ∷ [])) ++ all_told rs)
        → ((bag' : List Item) (l' : Ledger) → Between l' bag' → FollowsAll l' (all_told rs) → plays bag' rs ≡ true)
        → pick p true (pick q (is_least bag r.item) (is_empty_bag bag)) && plays (pick p (r.item ∷ bag) (pick q (without bag r.item) bag)) rs ≡ true
    go true q f on =
        on (r.item ∷ bag) f.2.0 (put_followed l bag w r.thread r.item f.0 f.2.0 f.1 f.2.1) f.2.2
    go false true f on =
        let t = take_followed l bag w r.thread r.item f.0 f.2.0 f.2.2.0 f.1 f.2.1 f.2.2.1 in
        and_both t.least (on (without bag r.item) f.2.2.0 t.after f.2.2.2)
    go false false f on =
        let t = empty_followed l bag w r.thread r.item f.0 f.2.0 f.1 f.2.1 in
        and_both t.0 (on bag f.2.0 t.1 f.2.2)

pub between_none : Between empty_ledger []
unfolding bag_of
between_none = record { idle = λ t. refl; same = refl }
