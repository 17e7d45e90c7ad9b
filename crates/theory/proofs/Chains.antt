-- Lists of cells. A chain's cells all have one owner, and each the number of cells behind it as its rank: so chains of
-- different owners are apart, and none repeats a cell. A change of cells elsewhere leaves a chain and its items alone, walking it counts its
-- items, and its list without its head is left alone where the head's cell is freed. Assumes nothing.
use Prim.Native.Nat.{ℕ, zero, suc, ◌+◌, ◌≤◌, ◌<◌}
use native.Mathlib.Omega.{arith}
use mathlib.Core.Path.{◌≡◌, refl, sym, ap, subst, ◌∙◌}
use mathlib.Core.Bool.{Bool}
use mathlib.Core.List.{List, [], ◌∷◌}
use borrow.Author.Tests.{ne_eqb}
use lib.ListN.{length}
use Rattle.region.specs.Pick.{pick}
use Rattle.region.specs.Shared.{Shared}
use Rattle.region.specs.declared.record.Cell.{Cell}
use Rattle.region.specs.declared.record.Item.{Item}
use Rattle.theory.specs.Tree.{in_list, items_of, list_from, passing}

-- from cell c by next cells to 0 these cells, owned by o
pub data Chain (cell : ℕ → Cell) (own rank : ℕ → ℕ) (o : ℕ) : ℕ → List ℕ → Type 0 where
  ends : Chain cell own rank o 0 []
  link : (c : ℕ) {cs : List ℕ} → 1 ≤ c → own c ≡ o → rank c ≡ length cs → Chain cell own rank o (cell c).next cs
      → Chain cell own rank o c (c ∷ cs)

-- the first cell is the owner's
pub first_owned : {cell : ℕ → Cell} {own rank : ℕ → ℕ} {o c : ℕ} {cs : List ℕ} → Chain cell own rank o c cs → 1 ≤ c → own c ≡ o
first_owned ends l = absurd (omega arith)
first_owned (link c p eo er k) l = eo

-- from cell 0 there is none
pub no_cells : {cell : ℕ → Cell} {own rank : ℕ → ℕ} {o c : ℕ} {cs : List ℕ} → Chain cell own rank o c cs → c ≡ 0 → cs ≡ []
no_cells ends e = refl
no_cells (link c p eo er k) e = absurd (omega arith)

-- what a change of cells, owners and ranks leaves of the cells of one owner with a rank below n, which may all get another owner
abbrev pub Left : (ℕ → Cell) → (ℕ → Cell) → (ℕ → ℕ) → (ℕ → ℕ) → (ℕ → ℕ) → (ℕ → ℕ) → ℕ → ℕ → ℕ → Type 0
Left cell cell' own own' rank rank' o o' n =
    (d : ℕ) → own d ≡ o → rank d < n → (cell' d ≡ cell d) × (own' d ≡ o') × (rank' d ≡ rank d)

module _ (cell cell' : ℕ → Cell) (own own' rank rank' : ℕ → ℕ) (o o' : ℕ) where
  pub chain_left : (c : ℕ) (cs : List ℕ) → Left cell cell' own own' rank rank' o o' (length cs) → Chain cell own rank o c cs
      → Chain cell' own' rank' o' c cs
  chain_left c cs h ends = ends
  chain_left c cs h (link d {cs = ds} p eo er k) =
      let same = h d eo (omega arith) in
      link d p same.1 (same.2 ∙ er)
      (subst (λ x. Chain cell' own' rank' o' x.next ds) (sym same.0)
      (chain_left (cell d).next ds (λ e q r. h e q (omega arith)) k))

-- the items in these cells
unfoldable pub items : (ℕ → Cell) → List ℕ → List Item
items cell [] = []
items cell (c ∷ cs) = (cell c).item ∷ items cell cs

-- every cell has one
pub length-items : (cell : ℕ → Cell) (cs : List ℕ) → length (items cell cs) ≡ length cs
unfolding items
length-items cell [] = refl
length-items cell (c ∷ cs) = ap suc (length-items cell cs)

-- from no cell there is no list, and nothing is counted
list_none : (cell : ℕ → Cell) (n : ℕ) → list_from cell n 0 ≡ []
unfolding list_from pick
list_none cell zero = refl
list_none cell (suc n) = refl

pub empty_list : (m : Shared) (test : Item → Bool) (n : ℕ) → in_list m test n 0 ≡ 0
unfolding in_list passing
empty_list m test n = ap (passing test) (list_none m.cell n)

-- how many of these pass the test
unfoldable pub among : (Item → Bool) → List Item → ℕ
among test [] = 0
among test (i ∷ is) = pick (test i) 1 0 + among test is

-- walking a chain counts its items
pub walk_counts : (m : Shared) (test : Item → Bool) {own rank : ℕ → ℕ} {o c : ℕ} (n : ℕ) {cs : List ℕ} → Chain m.cell own rank o c cs
    → length cs ≤ n → in_list m test n c ≡ among test (items m.cell cs)
unfolding in_list list_from passing among items pick
walk_counts m test n ends h = empty_list m test n
walk_counts m test zero (link d p eo er k) h = absurd (omega arith)
walk_counts m test (suc n) (link d p eo er k) h =
    rw
    (ne_eqb d 0 (λ z. omega arith))
    (ap (λ x. pick (test (m.cell d).item) 1 0 + x) (walk_counts m test n k (omega arith)))

-- a change elsewhere leaves the items
pub items_left : (cell cell' : ℕ → Cell) (own own' rank rank' : ℕ → ℕ) (o o' c : ℕ) (cs : List ℕ)
    → Left cell cell' own own' rank rank' o o' (length cs) → Chain cell own rank o c cs → items cell' cs ≡ items cell cs
unfolding items
items_left cell cell' own own' rank rank' o o' c cs h ends = refl
items_left cell cell' own own' rank rank' o o' c cs h (link d {cs = ds} p eo er k) =
    let same = h d eo (omega arith) in
    cc (
      same.0,
      items_left cell cell' own own' rank rank' o o' (cell d).next ds (λ e q r. h e q (omega arith)) k,
    )

-- from cell c by next cells to 0 these items
abbrev pub HasItems : (ℕ → Cell) → ℕ → List Item → Type 0
HasItems cell c [] = c ≡ 0
HasItems cell c (i ∷ is) = (1 ≤ c) × ((cell c).item ≡ i) × HasItems cell (cell c).next is

-- from a cell on there is at least one
pub record SomeItems (cell : ℕ → Cell) (c : ℕ) : Type 0 where
  pub first : Item
  pub rest : List Item
  pub has : HasItems cell c (first ∷ rest)

-- walking from a cell lists these items
pub list_items : (cell : ℕ → Cell) (n c : ℕ) (is : List Item) → HasItems cell c is → length is ≤ n → items_of (list_from cell n c) ≡ is
unfolding list_from items_of pick
list_items cell n c [] h few = ap (λ d. items_of (list_from cell n d)) h ∙ ap items_of (list_none cell n)
list_items cell zero c (i ∷ is) h few = absurd (omega arith)
list_items cell (suc n) c (i ∷ is) h few =
    rw
    (ne_eqb c 0 (λ z. omega (arith, h.0)))
    (cc (h.1, list_items cell n (cell c).next is h.2 (omega arith)))

-- whatever these are, they stay so
abbrev pub ItemsStay : (ℕ → Cell) → (ℕ → Cell) → ℕ → Type 0
ItemsStay cell cell' c = (is : List Item) → HasItems cell c is → HasItems cell' c is

module _ {cell : ℕ → Cell} {own rank : ℕ → ℕ} {o : ℕ} where
  -- a chain has the items in its cells, and no others
  pub has_items : {c : ℕ} {cs : List ℕ} → Chain cell own rank o c cs → HasItems cell c (items cell cs)
  unfolding items
  has_items ends = refl
  has_items (link d p eo er k) = (p, refl, has_items k)

  pub some_items : {c : ℕ} {cs : List ℕ} → Chain cell own rank o c cs → 1 ≤ c → SomeItems cell c
  some_items ends l = absurd (omega arith)
  some_items (link d {cs = ds} p eo er k) l = record { first = (cell d).item; rest = items cell ds; has = (p, refl, has_items k) }

  pub only_items : {c : ℕ} {cs : List ℕ} → Chain cell own rank o c cs → (is : List Item) → HasItems cell c is → items cell cs ≡ is
  unfolding items
  only_items ends [] h = refl
  only_items ends (i ∷ is) h = absurd (omega (arith, h.0))
  only_items (link d p eo er k) [] h = absurd (omega arith)
  only_items (link d p eo er k) (i ∷ is) h = cc (h.1, only_items k is h.2)

module _ {cell : ℕ → Cell} {own rank : ℕ → ℕ} {o : ℕ} where
  -- a change elsewhere leaves them
  pub items_stay : (cell' : ℕ → Cell) {c : ℕ} {cs : List ℕ} → Chain cell own rank o c cs
      → ((d : ℕ) → own d ≡ o → rank d < length cs → cell' d ≡ cell d) → ItemsStay cell cell' c
  items_stay cell' {c} {cs} k h is has =
      let left : Left cell cell' own own rank rank o o (length cs) = λ d e r. (h d e r, e, refl) in
      subst (HasItems cell' c) (items_left cell cell' own own rank rank o o c cs left k ∙ only_items k is has)
      (has_items (chain_left cell cell' own own rank rank o o c cs left k))

  -- a change of the head's cell leaves those behind it
  pub tail_stays : (cell' : ℕ → Cell) {c : ℕ} {cs : List ℕ} → Chain cell own rank o c cs → 1 ≤ c
      → ((d : ℕ) → (d ≡ c → ⊥) → cell' d ≡ cell d) → ItemsStay cell cell' (cell c).next
  tail_stays cell' ends l h = absurd (omega arith)
  tail_stays cell' (link d p eo er k) l h = items_stay cell' k (λ e q r. h e (λ z. let q = ap rank z in omega arith))

  -- the first cell has all others behind it, and so is not the next of itself
  first_rank : {c : ℕ} {cs : List ℕ} → Chain cell own rank o c cs → 1 ≤ c → suc (rank c) ≡ length cs
  first_rank ends l = absurd (omega arith)
  first_rank (link d p eo er k) l = ap suc er

  pub next_apart : {c : ℕ} {cs : List ℕ} → Chain cell own rank o c cs → 1 ≤ c → (cell c).next ≡ c → ⊥
  next_apart ends l e = omega arith
  next_apart (link d p eo er k) l e = let r = first_rank k (omega arith) in let q = ap rank e in omega arith

  -- cells that agree on a chain list the same
  list_left : (cell' : ℕ → Cell) (n n' : ℕ) {c : ℕ} {cs : List ℕ} → Chain cell own rank o c cs
      → ((d : ℕ) → rank d < length cs → cell' d ≡ cell d) → length cs ≤ n → length cs ≤ n' → list_from cell n c ≡ list_from cell' n' c
  unfolding list_from pick
  list_left cell' n n' ends h l l' = list_none cell n ∙ sym (list_none cell' n')
  list_left cell' zero n' (link d p eo er k) h l l' = absurd (omega arith)
  list_left cell' (suc n) zero (link d p eo er k) h l l' = absurd (omega arith)
  list_left cell' (suc n) (suc n') (link d p eo er k) h l l' =
      rw
      (ne_eqb d 0 (λ z. omega arith))
      (ap (λ xs. record { cell = d; item = (cell d).item } ∷ xs) (list_left cell' n n' k (λ e r. h e (omega arith)) (omega arith) (omega arith))
      ∙ ap (λ x. record { cell = d; item = x.item } ∷ list_from cell' n' x.next) (sym (h d (omega arith))))

  -- a list is its head and then the list from the next cell, also where the head's cell has changed since
  pub list_behind : (cell' : ℕ → Cell) (n : ℕ) {c : ℕ} {cs : List ℕ} → Chain cell own rank o c cs → 1 ≤ c
      → ((d : ℕ) → (d ≡ c → ⊥) → cell' d ≡ cell d) → length cs ≤ n
      → list_from cell n c ≡ record { cell = c; item = (cell c).item } ∷ list_from cell' n (cell c).next
  unfolding list_from pick
  list_behind cell' n ends l h few = absurd (omega arith)
  list_behind cell' zero (link d p eo er k) l h few = absurd (omega arith)
  list_behind cell' (suc n) (link d p eo er k) l h few =
      rw
      (ne_eqb d 0 (λ z. omega arith))
      (ap (λ xs. record { cell = d; item = (cell d).item } ∷ xs)
      (list_left cell' n (suc n) k (λ e r. h e (λ z. let q = ap rank z in omega arith)) (omega arith) (omega arith)))
