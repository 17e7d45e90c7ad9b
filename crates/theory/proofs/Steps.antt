-- The invariant of shared memory, threads and ledger together. A turn keeps it and the ledger follows what the turn tells; so do the
-- beginnings. Assumes nothing.
use Prim.Native.Nat.{ℕ, ◌+◌, ◌-◌, ◌≤◌}
use native.Mathlib.Decide.{ℕ_discrete}
use native.Mathlib.Omega.{arith}
use mathlib.Core.Path.{◌≡◌, refl, sym, ap, subst, fun_ext, ◌∙◌}
use mathlib.Core.Bool.{Bool, true, false, true≢false}
use mathlib.Core.List.{List, [], ◌∷◌}
use lib.ListN.{length}
use Rattle.region.specs.Pick.{pick, upd}
use Rattle.region.specs.Record.{same_item}
use Rattle.region.specs.Shared.{Shared, set_cell, set_free}
use Rattle.region.specs.Thread.{at_place, begun_put, with_item, with_own, with_permission}
use Rattle.region.specs.declared.answer.Answer.{Answer}
use Rattle.region.specs.declared.answer.Answer.TheVariants.{Moved, Idle, Inserted, Took, Empty, Refused, Withdrawn}
use Rattle.region.specs.declared.place.Place.{Place}
use Rattle.region.specs.declared.place.Place.TheVariants.{Idle as AtRest, ReadRoot, ListReadRoot}
use Rattle.region.specs.declared.record.Item.{Item}
use Rattle.region.specs.declared.shape.Shape.{Shape}
use Rattle.region.specs.declared.thread.Thread.{Thread}
use Rattle.region.proofs.Items.{item_same, same_item_either}
use Rattle.region.proofs.Picks.{upd_same, upd_other}
use Rattle.access.specs.Effect.{effect_shared}
use Rattle.access.specs.Order.{top_item, val, value_of}
use Rattle.access.specs.Read.{read_node}
use Rattle.access.specs.declared.effect.Effect.{Effect}
use Rattle.access.specs.declared.effect.Effect.TheVariants.{Nothing, Grow, Push, Pop, Exchange, Clean, Detach, Free}
use Rattle.access.specs.declared.plan.Plan.{Plan}
use Rattle.access.proofs.OrderLaws.{item_less, item_trans}
use Rattle.theory.specs.Ledger.{Operation, none, putting, taking, listing, owing, still_owing, Ledger, Follows, still, put_begins, take_begins, list_begins, put_decides, take_decides, list_decides, empty_decides, take_answers, ends_withdrawn, HoldsAll, Least, list_less, one_more, one_less}
use Rattle.theory.specs.Told.{Told, nothing, begins_put, begins_take, begins_list, decides_put, decides_take, decides_list, decides_empty, answers_took, withdraws}
use Rattle.theory.specs.Tree.{items_of, list_from}
use Rattle.theory.proofs.Chains.{HasItems, ItemsStay, among, has_items, items, length-items, list_items, only_items}
use Rattle.theory.proofs.Effects.{Keeps, Mound, in_tree, root_there, value_there, rely_same, begin_keeps, begin_counts, grow_keeps, grow_counts, push_keeps, push_counts, push_rest, pop_keeps, pop_counts, pop_items_stay, exchange_keeps, exchange_counts, clean_keeps, clean_counts, detach_keeps, detach_counts, free_keeps, free_counts, free_rest}
use Rattle.theory.proofs.Facts.{At, Takes, any_permission, stays}
use Rattle.theory.proofs.Held.{counted, few_cells, held_by, head_held, node_chain}
use Rattle.theory.proofs.Order.{root_above}
use Rattle.theory.proofs.Plans.{Allowed, OwnAfter, OperationAfter, reads, grows, swaps, cleans, inserts, removes, detaches, empties, answers, cleans_answers, hands_out, frees_withdrawn, leaves_withdrawn}
use Rattle.theory.proofs.Sorted.{AtMost, Proper, Sorted, value_at}

-- each thread's own cell
abbrev pub owns : (ℕ → Thread) → ℕ → ℕ
owns th t = (th t).own

-- `all` is how many cells tree, threads and free chain hold, which no step changes
pub record Invariant (s : Shape) (m : Shared) (th : ℕ → Thread) (l : Ledger) (all : ℕ) : Type 0 where
  pub mound : Mound s m (owns th) all
  pub at : (t : ℕ) → At s m (th t) (l.operation t) (th t).place
  pub bag : (i : Item) → l.bag i ≡ counted s m i

-- the bag's counts
one_copy : (j a b : Item) → a ≡ b → pick {A = ℕ} (same_item j a) 1 0 ≡ pick (same_item j b) 1 0
one_copy j a b e = ap (λ k. pick {A = ℕ} (same_item j k) 1 0) e

one_more_lem : (bag : Item → ℕ) (i j : Item) → one_more bag i j ≡ bag j + pick (same_item j i) 1 0
unfolding one_more pick
one_more_lem bag i j = ap (λ q. pick q (bag j + 1) (bag j)) (same_item_either i j) ∙ go (same_item j i)
  where
    go : (q : Bool) → pick q (bag j + 1) (bag j) ≡ bag j + pick q 1 0
    go true = refl
    go false = omega arith

one_less_lem : (bag : Item → ℕ) (i j : Item) → one_less bag i j ≡ bag j - pick (same_item j i) 1 0
unfolding one_less pick
one_less_lem bag i j = ap (λ q. pick q (bag j - 1) (bag j)) (same_item_either i j) ∙ go (same_item j i)
  where
    go : (q : Bool) → pick q (bag j - 1) (bag j) ≡ bag j - pick q 1 0
    go true = refl
    go false = omega arith

-- a list leaves the bag where the bag holds as many copies of each of its items
less_all : (bag : Item → ℕ) (is : List Item) (j : Item) → list_less bag is j ≡ bag j - among (same_item j) is
unfolding list_less among
less_all bag [] j = omega arith
less_all bag (i ∷ is) j = omega (arith, less_all (one_less bag i) is j, one_less_lem bag i j)

holds_all : (bag : Item → ℕ) (is : List Item) → ((j : Item) → among (same_item j) is ≤ bag j) → HoldsAll bag is
unfolding among pick
holds_all bag [] h = tt
holds_all bag (i ∷ is) h = (
  let k = subst (λ q. pick {A = ℕ} q 1 0 + among (same_item i) is ≤ bag i) (item_same i) (h i) in omega (arith, k),
  holds_all (one_less bag i) is (λ j. omega (arith, h j, one_less_lem bag i j)),
)

-- the item of the root's head
abbrev pub head_of_root : Shared → Item
head_of_root m = (m.cell (m.node 1).first).item

-- the items of its list
abbrev pub list_of_root : Shape → Shared → List Item
list_of_root s m = items_of (list_from m.cell s.cells (m.node 1).first)

-- What a clean root tells of the tree.
module _ (s : Shape) (m : Shared) (own : ℕ → ℕ) {all : ℕ} (g : Mound s m own all) (clean : (m.node 1).dirty ≡ 0) where
  root_least : (n : ℕ) → 1 ≤ n → AtMost (val m 1) (val m n)
  root_least n p = g.ordered 1 n (omega arith) (root_above n n (omega arith) p) clean

  -- a clean root's head is least of all
  pub least_of_all : (j : Item) → 1 ≤ counted s m j → AtMost (val m 1) j
  least_of_all j h =
      let b = held_by s m own g.held j h in
      item_trans (val m 1) (val m b.node) j (root_least b.node b.some) b.least

  -- an empty clean root means an empty tree
  pub empty_tree : (m.node 1).first ≡ 0 → (j : Item) → counted s m j ≡ 0
  unfolding value_of read_node pick
  empty_tree e j = go (ℕ_discrete (counted s m j) 0)
    where
      go : Dec (counted s m j ≡ 0) → counted s m j ≡ 0
      go (yes z) = z
      go (no n) =
          let b = held_by s m own g.held j (omega arith) in
          let top : val m 1 ≡ top_item = ap (value_at m.cell) e in
          absurd (true≢false (sym (subst (λ i. AtMost i (val m b.node)) top (root_least b.node b.some)) ∙ b.proper))

-- the root's head is held, and is least of all
module _ (s : Shape) (m : Shared) (own : ℕ → ℕ) {all : ℕ} (g : Mound s m own all) where
  root_held : 1 ≤ (m.node 1).first → 1 ≤ counted s m (m.cell (m.node 1).first).item
  root_held h = head_held s m own g.held 1 (omega arith) (in_tree s m own g 1 (root_there s m own g)) h

  root_below : (m.node 1).dirty ≡ 0 → 1 ≤ (m.node 1).first → (j : Item) → 1 ≤ counted s m j → AtMost (m.cell (m.node 1).first).item j
  unfolding value_of read_node
  root_below clean h j c =
      subst (λ i. AtMost i j) (value_there m.cell (m.node 1).first (m.cell (m.node 1).first).item h refl)
      (least_of_all s m own g clean j c)

  -- so it is the least item of a bag that holds what the tree holds
  root_least_of : (m.node 1).dirty ≡ 0 → 1 ≤ (m.node 1).first → (bag : Item → ℕ) → ((i : Item) → bag i ≡ counted s m i)
      → Least bag (m.cell (m.node 1).first).item
  root_least_of clean some bag same =
      let i = (m.cell (m.node 1).first).item in
      record {
        held = subst (λ k. 1 ≤ k) (sym (same i)) (root_held some);
        others_greater = λ j h. item_less i j (root_below clean some j (subst (λ k. 1 ≤ k) (same j) h));
      }

  -- the items from its first cell on, as they are walked and as they are counted
  root_listed : (is : List Item) → HasItems m.cell (m.node 1).first is
      → (list_of_root s m ≡ is) × (items m.cell (g.held.list 2) ≡ is)
  root_listed is h =
      let k = node_chain s m own g.held 1 (omega arith) in
      let e = only_items k is h in
      let few = few_cells s m own g.held 1 (omega arith) (in_tree s m own g 1 (root_there s m own g)) in
      (list_items m.cell s.cells (m.node 1).first is h (omega (arith, few, ap length e, length-items m.cell (g.held.list 2))), e)

  -- and it never falls
  pub root_sorted : Sorted (list_of_root s m)
  root_sorted =
      let is = items m.cell (g.held.list 2) in
      subst Sorted (sym (root_listed is (has_items (node_chain s m own g.held 1 (omega arith)))).0) (g.held.sorted 1 (omega arith))

-- what a step leaves, beside the thread's own facts
pub record Stepped (s : Shape) (m m' : Shared) (own own' : ℕ → ℕ) (l l' : Ledger) (all t : ℕ) (op' : Operation) : Type 0 where
  pub keeps : Keeps s m m' own own' all t
  pub others : (u : ℕ) → (u ≡ t → ⊥) → l'.operation u ≡ l.operation u
  pub now : l'.operation t ≡ op'
  pub bag : (i : Item) → l'.bag i ≡ counted s m' i

-- what thread t's effect and answer tell, i being the item of the root's head and is its list: a pushed cell is a successful I6 or I8, a popped
-- one a successful E2, a detached list a successful 18
abbrev pub quiet_tells : ℕ → Answer → Told
quiet_tells t Moved = nothing
quiet_tells t Idle = nothing
quiet_tells t Inserted = nothing
quiet_tells t (Took i) = answers_took t i
quiet_tells t Empty = decides_empty t
quiet_tells t (Refused n) = nothing
quiet_tells t Withdrawn = withdraws t

abbrev pub effect_tells : Item → List Item → ℕ → Answer → Effect → Told
effect_tells i is t a Nothing = quiet_tells t a
effect_tells i is t a (Grow d) = quiet_tells t a
effect_tells i is t a (Push n v c x) = decides_put t
effect_tells i is t a (Pop v c) = decides_take t i
effect_tells i is t a (Exchange n v k w) = quiet_tells t a
effect_tells i is t a (Clean n v) = quiet_tells t a
effect_tells i is t a (Detach v) = decides_list t is
effect_tells i is t a (Free c) = quiet_tells t a

-- all own cells as before
same_own : (own own' : ℕ → ℕ) (t : ℕ) → ((u : ℕ) → (u ≡ t → ⊥) → own' u ≡ own u) → own' t ≡ own t → own' ≡ own
same_own own own' t others e = fun_ext λ u. go u (ℕ_discrete u t)
  where
    go : (u : ℕ) → Dec (u ≡ t) → own' u ≡ own u
    go u (yes k) = ap own' k ∙ e ∙ ap own (sym k)
    go u (no n) = others u n

-- thread t's effect e with answer a
module _ (s : Shape) (m : Shared) (own own' : ℕ → ℕ) (l : Ledger) {all : ℕ} (g : Mound s m own all) (bag : (i : Item) → l.bag i ≡ counted s m i)
    (t : ℕ) (lt : 1 ≤ t) (ut : t ≤ s.threads) (still_own : (u : ℕ) → (u ≡ t → ⊥) → own' u ≡ own u) where
  abbrev later : Operation → Ledger
  later op = record { bag = l.bag; operation = upd l.operation t op }

  -- an effect that moves no cell: the operation stays, or changes with the count as it is
  quiet : (e : Effect) (l' : Ledger) (op' : Operation) → own' t ≡ own t → Keeps s m (effect_shared m e) own own all t
      → ((i : Item) → counted s (effect_shared m e) i ≡ counted s m i) → ((i : Item) → l'.bag i ≡ l.bag i)
      → ((u : ℕ) → (u ≡ t → ⊥) → l'.operation u ≡ l.operation u) → l'.operation t ≡ op'
      → Stepped s m (effect_shared m e) own own' l l' all t op'
  quiet e l' op' eo keeps counts same others now =
      record {
        keeps = subst (λ o. Keeps s m (effect_shared m e) own o all t) (sym (same_own own own' t still_own eo)) keeps;
        others = others;
        now = now;
        bag = λ i. same i ∙ bag i ∙ sym (counts i);
      }

  pub record Step (e : Effect) (a : Answer) (op' : Operation) : Type 0 where
    pub after : Ledger
    pub follows : Follows (effect_tells (head_of_root m) (list_of_root s m) t a e) l after
    pub stepped : Stepped s m (effect_shared m e) own own' l after all t op'
    -- what the thread still holds is as before
    pub mine : ItemsStay m.cell (effect_shared m e).cell (own' t)

  nothing_keeps : Keeps s m (effect_shared m Nothing) own own all t
  unfolding effect_shared
  nothing_keeps = record { mound = g; rely = rely_same m m (omega arith) (λ x p. refl); kept = λ u n is h. h }

  module _ (op op' : Operation) (is : l.operation t ≡ op) where
    at_rest : op' ≡ op → l.operation t ≡ op'
    at_rest e = is ∙ sym e

    -- a cell of the thread's own is freed, and its operation is op'' then
    freed : (c : ℕ) (op'' : Operation) → Allowed s m own t (Free c) → OwnAfter m (Free c) (own t) (own' t) → op'' ≡ op'
        → Stepped s m (effect_shared m (Free c)) own own' l (later op'') all t op'
    unfolding effect_shared
    freed c op'' al ow e =
        record {
          keeps = free_keeps s m own own' g t c lt ut al ow still_own;
          others = λ u y. upd_other l.operation t u op'' y;
          now = upd_same l.operation t op'' ∙ e;
          bag = λ j. bag j ∙ sym (free_counts s m own own' g t c lt ut al ow still_own j);
        }

    pub step : (e : Effect) (a : Answer) → Allowed s m own t e → OperationAfter m op op' e a → OwnAfter m e (own t) (own' t) → Step e a op'
    unfolding effect_shared
    step Nothing Moved al (reads k) ow =
        record {
          after = l;
          follows = still;
          stepped = quiet Nothing l op' ow nothing_keeps (λ i. refl) (λ i. refl) (λ u n. refl) (at_rest k);
          mine = λ is h. h;
        }
    step (Grow d) Moved al (grows k) ow =
        record {
          after = l;
          follows = still;
          stepped =
              quiet (Grow d) l op' ow (grow_keeps s m own g d al.0 al.1 t)
              (grow_counts s m own g d al.0 al.1) (λ i. refl) (λ u n. refl) (at_rest k);
          mine = λ is h. h;
        }
    step (Exchange n v k w) Moved al (swaps q) ow =
        record {
          after = l;
          follows = still;
          stepped =
              quiet (Exchange n v k w) l op' ow (exchange_keeps s m own g n v k w al.0 al.1 t)
              (exchange_counts s m own g n v k w al.0 al.1) (λ i. refl) (λ u x. refl) (at_rest q);
          mine = λ is h. h;
        }
    step (Clean n v) Moved al (cleans k) ow =
        record {
          after = l;
          follows = still;
          stepped =
              quiet (Clean n v) l op' ow (clean_keeps s m own g n v al t) (clean_counts s m own g n v al)
              (λ i. refl) (λ u x. refl) (at_rest k);
          mine = λ is h. h;
        }
    step (Push n v c x) Inserted al (inserts i eo ei en) ow =
        record {
          after = record { bag = one_more l.bag i; operation = upd l.operation t none };
          follows = put_decides (is ∙ eo);
          stepped =
              record {
                keeps = push_keeps s m own own' g t n v c x lt ut al ow still_own;
                others = λ u y. upd_other l.operation t u none y;
                now = upd_same l.operation t none ∙ sym en;
                bag = λ j.
                    let p = push_counts s m own own' g t n v c x lt ut al ow still_own j in
                    let q = one_copy j (m.cell c).item i ei in
                    omega (arith, one_more_lem l.bag i j, bag j, p, q);
              };
          mine = subst (ItemsStay m.cell (effect_shared m (Push n v c x)).cell) (sym ow) (push_rest s m own own' g t n v c x lt ut al ow still_own);
        }
    step (Pop v c) Moved al (removes eo en) ow =
        let i = head_of_root m in
        let ic : (m.cell c).item ≡ i = ap (λ k. (m.cell k).item) (sym al.head) in
        record {
          after = record { bag = one_less l.bag i; operation = upd l.operation t (owing i []) };
          follows = take_decides (is ∙ eo) (root_least_of s m own g al.clean (omega (arith, al.head, al.cell)) l.bag bag);
          stepped =
              record {
                keeps = subst (λ o. Keeps s m (effect_shared m (Pop v c)) own o all t) (sym (same_own own own' t still_own ow)) (pop_keeps s m own g v c al t);
                others = λ u y. upd_other l.operation t u (owing i []) y;
                now = upd_same l.operation t (owing i []) ∙ ap (λ k. owing k []) (sym ic) ∙ sym en;
                bag = λ j.
                    let p = pop_counts s m own g v c al j in
                    let q = one_copy j (m.cell c).item i ic in
                    omega (arith, one_less_lem l.bag i j, bag j, p, q);
              };
          mine = subst (ItemsStay m.cell (effect_shared m (Pop v c)).cell) (sym ow) (pop_items_stay s m own g v c al t);
        }
    step (Detach v) Moved al (detaches i rest eo has en) ow =
        let listed = root_listed s m own g (i ∷ rest) has in
        let counts : (j : Item) → counted s m j ≡ counted s (effect_shared m (Detach v)) j + among (same_item j) (i ∷ rest) =
        λ j. detach_counts s m own own' g t v lt ut al ow still_own j
        ∙ ap (λ x. counted s (effect_shared m (Detach v)) j + among (same_item j) x) listed.1 in
        record {
          after = record { bag = list_less l.bag (i ∷ rest); operation = upd l.operation t (owing i rest) };
          follows =
              subst
              (λ x. Follows (decides_list t x) l (record { bag = list_less l.bag (i ∷ rest); operation = upd l.operation t (owing i rest) }))
              (sym listed.0)
              (list_decides (is ∙ eo)
              (subst (Least l.bag) has.1 (root_least_of s m own g al.clean al.some l.bag bag))
              (holds_all l.bag (i ∷ rest) (λ j. omega (arith, counts j, bag j))));
          stepped =
              record {
                keeps = detach_keeps s m own own' g t v lt ut al ow still_own;
                others = λ u y. upd_other l.operation t u (owing i rest) y;
                now = upd_same l.operation t (owing i rest) ∙ sym en;
                bag = λ j. omega (arith, less_all l.bag (i ∷ rest) j, bag j, counts j);
              };
          mine = λ is h. h;
        }
    step (Free c) (Took i) al (hands_out rest eo en) ow =
        record {
          after = later (still_owing rest);
          follows = take_answers (is ∙ eo);
          stepped = freed c (still_owing rest) al ow (sym en);
          mine = subst (ItemsStay m.cell (effect_shared m (Free c)).cell) (sym ow) (free_rest s m own own' g t c lt ut al ow still_own);
        }
    step (Free c) Withdrawn al (frees_withdrawn eo un en) ow =
        record {
          after = later none;
          follows = ends_withdrawn (is ∙ eo) un;
          stepped = freed c none al ow (sym en);
          mine = subst (ItemsStay m.cell (effect_shared m (Free c)).cell) (sym ow) (free_rest s m own own' g t c lt ut al ow still_own);
        }
    step Nothing Withdrawn al (leaves_withdrawn eo un en) ow =
        record {
          after = later none;
          follows = ends_withdrawn (is ∙ eo) un;
          stepped =
              quiet Nothing (later none) op' ow nothing_keeps (λ i. refl) (λ i. refl) (λ u y. upd_other l.operation t u none y)
              (upd_same l.operation t none ∙ sym en);
          mine = λ is h. h;
        }
    step Nothing Empty al (empties eo un en clean nobody) ow =
        record {
          after = later none;
          follows = empty_decides (is ∙ eo) un (λ j. bag j ∙ empty_tree s m own g clean nobody j);
          stepped =
              quiet Nothing (later none) op' ow nothing_keeps (λ i. refl) (λ i. refl) (λ u y. upd_other l.operation t u none y)
              (upd_same l.operation t none ∙ sym en);
          mine = λ is h. h;
        }
    step Nothing (Took i) al (answers eo en) ow =
        record {
          after = later none;
          follows = take_answers (is ∙ eo);
          stepped =
              quiet Nothing (later none) op' ow nothing_keeps (λ j. refl) (λ j. refl) (λ u y. upd_other l.operation t u none y)
              (upd_same l.operation t none ∙ sym en);
          mine = λ is h. h;
        }
    step (Clean n v) (Took i) al (cleans_answers eo en) ow =
        record {
          after = later none;
          follows = take_answers (is ∙ eo);
          stepped =
              quiet (Clean n v) (later none) op' ow (clean_keeps s m own g n v al t) (clean_counts s m own g n v al) (λ j. refl)
              (λ u y. upd_other l.operation t u none y) (upd_same l.operation t none ∙ sym en);
          mine = λ is h. h;
        }
    step _ _ al x ow = elim x [ ]

-- The facts of every thread after a step of thread t.
module _ (s : Shape) (m m' : Shared) (th : ℕ → Thread) (l l' : Ledger) {all : ℕ} (t : ℕ) (v : Thread) (op' : Operation)
    (at : (u : ℕ) → At s m (th u) (l.operation u) (th u).place)
    (st : Stepped s m m' (owns th) (owns (upd th t v)) l l' all t op') where
  module _ (now : At s m' v op' v.place) where
    all_at : (u : ℕ) → Dec (u ≡ t) → At s m' (upd th t v u) (l'.operation u) (upd th t v u).place
    all_at u (yes e) =
        subst (λ y. At s m' (upd th t v y) (l'.operation y) (upd th t v y).place) (sym e)
        (subst (λ x. At s m' x (l'.operation t) x.place) (sym (upd_same th t v))
        (subst (λ o. At s m' v o v.place) (sym st.now) now))
    all_at u (no n) =
        subst (λ x. At s m' x (l'.operation u) x.place) (sym (upd_other th t u v n))
        (subst (λ o. At s m' (th u) o (th u).place) (sym (st.others u n))
        (stays m m' st.keeps.rely (th u) (l.operation u) (st.keeps.kept u n) s (th u).place (at u)))

    pub stepped_invariant : Invariant s m' (upd th t v) l' all
    stepped_invariant = record { mound = st.keeps.mound; at = λ u. all_at u (ℕ_discrete u t); bag = st.bag }

  -- a turn's own facts were found before its effect
  pub turned_invariant : At s m v op' v.place → ItemsStay m.cell m'.cell v.own → Invariant s m' (upd th t v) l' all
  turned_invariant now mine = stepped_invariant (stays m m' st.keeps.rely v op' mine s v.place now)

-- what follows where this was told: the ledger after it, and the invariant of what was left
pub record NextState (s : Shape) (l : Ledger) (all : ℕ) (told : Told) (m : Shared) (th : ℕ → Thread) : Type 0 where
  pub next : Ledger
  pub follows : Follows told l next
  pub holds : Invariant s m th next all

-- Thread t's turns and beginnings.
module _ (s : Shape) (m : Shared) (th : ℕ → Thread) (l : Ledger) {all : ℕ} (inv : Invariant s m th l all) (t : ℕ) (lt : 1 ≤ t) (ut : t ≤ s.threads) where
  -- own cells where thread t's record is v
  own_now : (v : Thread) → (upd th t v t).own ≡ v.own
  own_now v = ap (λ x. x.own) (upd_same th t v)

  own_still : (v : Thread) (u : ℕ) → (u ≡ t → ⊥) → (upd th t v u).own ≡ (th u).own
  own_still v u n = ap (λ x. x.own) (upd_other th t u v n)

  -- a turn whose plan has an effect that the mound allows
  pub turn_moves : (p : Plan) (op' : Operation) → Allowed s m (owns th) t p.effect
      → OperationAfter m (l.operation t) op' p.effect p.answer → OwnAfter m p.effect (th t).own p.thread.own
      → At s m p.thread op' p.thread.place
      → NextState s l all (effect_tells (head_of_root m) (list_of_root s m) t p.answer p.effect) (effect_shared m p.effect) (upd th t p.thread)
  turn_moves p op' al sp ow at =
      let v = p.thread in
      let st = step s m (owns th) (owns (upd th t v)) l inv.mound inv.bag t lt ut (own_still v) (l.operation t) op' refl p.effect
      p.answer al sp (subst (OwnAfter m p.effect (th t).own) (sym (own_now v)) ow) in
      record {
        next = st.after;
        follows = st.follows;
        holds =
            turned_invariant s m (effect_shared m p.effect) th l st.after t v op' inv.at st.stepped at
            (subst (ItemsStay m.cell (effect_shared m p.effect).cell) (own_now v) st.mine);
      }

  -- a record with the same own cell leaves the mound
  left_alone : (v : Thread) → (upd th t v t).own ≡ (th t).own → Keeps s m m (owns th) (owns (upd th t v)) all t
  left_alone v e =
      record {
        mound = subst (λ o. Mound s m o all) (sym (same_own (owns th) (owns (upd th t v)) t (own_still v) e)) inv.mound;
        rely = rely_same m m (omega arith) (λ y p. refl);
        kept = λ u n is h. h;
      }

  -- another permission: no fact of a place and no own cell looks at it
  pub permit_holds : (p : ℕ) → Invariant s m (upd th t (with_permission (th t) p)) l all
  unfolding with_permission
  permit_holds p =
      let v = with_permission (th t) p in
      stepped_invariant s m m th l l t v (l.operation t) inv.at
      (record { keeps = left_alone v (own_now v); others = λ u n. refl; now = refl; bag = inv.bag })
      (any_permission s m (th t) (l.operation t) p (th t).place (inv.at t))

  module _ (idle : (th t).place ≡ AtRest) where
    resting : At s m (th t) (l.operation t) AtRest
    resting = subst (At s m (th t) (l.operation t)) idle (inv.at t)

    begins : Operation → Ledger
    begins op = record { bag = l.bag; operation = upd l.operation t op }

    -- a take of either kind begins: at place p, with the operation op
    module _ (p : Place) (op : Operation) (told : Told) (follows : Follows told l (begins op))
        (there : Takes m (th t) op op → At s m (at_place (th t) p) op p) where
      take_begun_at : NextState s l all told m (upd th t (at_place (th t) p))
      unfolding begins at_place
      take_begun_at =
          let v = at_place (th t) p in
          record {
            next = begins op;
            follows = follows;
            holds =
                stepped_invariant s m m th l (begins op) t v op inv.at
                (record {
                  keeps = left_alone v (own_now v);
                  others = λ u n. upd_other l.operation t u op n;
                  now = upd_same l.operation t op;
                  bag = inv.bag;
                })
                (there (record { operation = refl; has = resting.1 }));
          }

    pub take_begun : NextState s l all (begins_take t) m (upd th t (at_place (th t) ReadRoot))
    unfolding begins at_place
    take_begun = take_begun_at ReadRoot taking (begins_take t) (take_begins resting.0) (λ h. h)

    pub list_begun : NextState s l all (begins_list t) m (upd th t (at_place (th t) ListReadRoot))
    unfolding begins at_place
    list_begun = take_begun_at ListReadRoot listing (begins_list t) (list_begins resting.0) (λ h. h)

    -- a put of i begins: the first free cell becomes the thread's own, with the item
    module _ (i : Item) (proper : Proper i) (free : 1 ≤ m.free) where
      abbrev pub begun : Shared
      begun = set_cell (set_free m (m.cell m.free).next) m.free (record { item = i; next = 0 })

      abbrev putter : Thread
      putter = begun_put (th t) i m.free

      own_cell : (upd th t putter t).own ≡ m.free
      unfolding begun_put at_place with_own with_item
      own_cell = own_now putter

      filled : begun.cell m.free ≡ record { item = i; next = 0 }
      filled = upd_same m.cell m.free (record { item = i; next = 0 })

      put_stepped : Stepped s m begun (owns th) (owns (upd th t putter)) l (begins (putting i)) all t (putting i)
      unfolding begins
      put_stepped =
          let elsewhere : (d : ℕ) → (d ≡ m.free → ⊥) → begun.cell d ≡ m.cell d = λ d n. upd_other m.cell m.free d _ n in
          let onto : (begun.cell m.free).next ≡ (th t).own = ap (λ y. y.next) filled ∙ sym resting.1 in
          record {
            keeps =
                begin_keeps s m begun (owns th) (owns (upd th t putter)) inv.mound t m.free lt ut free refl elsewhere onto
                refl refl refl own_cell (own_still putter);
            others = λ u n. upd_other l.operation t u (putting i) n;
            now = upd_same l.operation t (putting i);
            bag = λ j. inv.bag j ∙ sym
                (begin_counts s m begun (owns th) (owns (upd th t putter)) inv.mound t m.free lt ut free refl elsewhere onto
                refl refl refl own_cell (own_still putter) j);
          }

      pub put_begun : NextState s l all (begins_put t i) begun (upd th t putter)
      unfolding begins begun_put at_place with_own with_item
      put_begun =
          record {
            next = begins (putting i);
            follows = put_begins resting.0;
            holds =
                stepped_invariant s m begun th l (begins (putting i)) t putter (putting i) inv.at put_stepped
                (record {
                  operation = refl;
                  has = (free, ap (λ y. y.item) filled, ap (λ y. y.next) filled);
                  proper = proper;
                });
          }
