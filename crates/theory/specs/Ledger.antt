-- The ledger: a plain bag of items and each thread's operation, and which ledger follows which at a moment. Its clauses are document 01's
-- "The bag", with the order of request 2, the take of a list of request 1 and the withdrawal of request 5, and nothing else.
use Rattle.std.specs.Prelude.{ℕ, ◌+◌, ◌-◌, ◌≤◌, ◌≡◌, true, List, [], ◌∷◌}
use Rattle.region.specs.Pick.{pick, upd}
use Rattle.region.specs.Record.{same_item}
use Rattle.region.specs.declared.record.Item.{Item}
use Rattle.access.specs.Order.{item_lt}
use Rattle.theory.specs.Told.{Told, nothing, begins_put, begins_take, begins_list, decides_put, decides_take, decides_list, decides_empty, answers_took, withdraws}

-- a thread's operation begun last, and how far it has come
pub data Operation : Type 0 where
  none : Operation
  putting : Item → Operation
  -- a take of one item, or of the root's list, that has not decided
  taking : Operation
  listing : Operation
  -- a take of either kind that has decided: the items that it still owes as answers, in order, at least one
  owing : Item → List Item → Operation

-- the takes that have not decided, and all operations that have not
pub data UndecidedTake : Operation → Type 0 where
  one_item : UndecidedTake taking
  whole_list : UndecidedTake listing

pub data Undecided : Operation → Type 0 where
  a_put : {i : Item} → Undecided (putting i)
  a_take : {o : Operation} → UndecidedTake o → Undecided o

-- an operation that still owes these items: "the thread goes idle with the last" (request 1)
abbrev pub still_owing : List Item → Operation
still_owing [] = none
still_owing (i ∷ is) = owing i is

pub record Ledger : Type 0 where
  -- "The bag counts copies of each item"
  pub bag : Item → ℕ
  pub operation : ℕ → Operation

-- "and starts with none"
abbrev pub empty_ledger : Ledger
empty_ledger = record { bag = λ i. 0; operation = λ t. none }

-- one copy more, or less, of i
unfoldable pub one_more : (Item → ℕ) → Item → Item → ℕ
one_more bag i j = pick (same_item i j) (bag j + 1) (bag j)

unfoldable pub one_less : (Item → ℕ) → Item → Item → ℕ
one_less bag i j = pick (same_item i j) (bag j - 1) (bag j)

-- one copy less of each of these, one after the other; and the bag holds each of them when its turn comes
unfoldable pub list_less : (Item → ℕ) → List Item → Item → ℕ
unfolding one_less
list_less bag [] = bag
list_less bag (i ∷ is) = list_less (one_less bag i) is

abbrev pub HoldsAll : (Item → ℕ) → List Item → Type 0
HoldsAll bag [] = Unit
HoldsAll bag (i ∷ is) = (1 ≤ bag i) × HoldsAll (one_less bag i) is

-- i is the least item of the bag: the bag holds it, and every other item that it holds is greater
pub record Least (bag : Item → ℕ) (i : Item) : Type 0 where
  pub held : 1 ≤ bag i
  pub others_greater : (j : Item) → 1 ≤ bag j → (j ≡ i → ⊥) → item_lt i j ≡ true

-- what is claimed of a moment, and the ledger after it
pub data Follows : Told → Ledger → Ledger → Type 0 where
  -- "Any other turn, a refused turn or call, a beginning, a check: no change."
  still : {l : Ledger} → Follows nothing l l
  -- a beginning; the thread has no operation under way
  put_begins : {l : Ledger} {t : ℕ} {i : Item} → l.operation t ≡ none
      → Follows (begins_put t i) l (record { bag = l.bag; operation = upd l.operation t (putting i) })
  take_begins : {l : Ledger} {t : ℕ} → l.operation t ≡ none
      → Follows (begins_take t) l (record { bag = l.bag; operation = upd l.operation t taking })
  list_begins : {l : Ledger} {t : ℕ} → l.operation t ≡ none
      → Follows (begins_list t) l (record { bag = l.bag; operation = upd l.operation t listing })
  -- "Successful I6 or I8: one copy more of the item given to the put's call." The same turn answers the put.
  put_decides : {l : Ledger} {t : ℕ} {i : Item} → l.operation t ≡ putting i
      → Follows (decides_put t) l (record { bag = one_more l.bag i; operation = upd l.operation t none })
  -- "Successful E2: .. The bag holds it .. one copy leaves." In place of "holds no lesser key": "The bag gives up its least item under that
  -- order." (request 2)
  take_decides : {l : Ledger} {t : ℕ} {i : Item} → l.operation t ≡ taking → Least l.bag i
      → Follows (decides_take t i) l (record { bag = one_less l.bag i; operation = upd l.operation t (owing i []) })
  -- "For the bag this removes exactly that list .. the first item has least key." (request 1): the bag holds the list, whose first item is its
  -- least
  list_decides : {l : Ledger} {t : ℕ} {i : Item} {is : List Item} → l.operation t ≡ listing → Least l.bag i
      → HoldsAll l.bag (i ∷ is)
      → Follows (decides_list t (i ∷ is)) l (record { bag = list_less l.bag (i ∷ is); operation = upd l.operation t (owing i is) })
  -- "E1 that answers empty: the bag holds nothing." The same turn answers the take. "An empty clean root answers empty, and that read at 17 is
  -- then its deciding access." (request 1)
  empty_decides : {l : Ledger} {t : ℕ} {o : Operation} → l.operation t ≡ o → UndecidedTake o → ((j : Item) → l.bag j ≡ 0)
      → Follows (decides_empty t) l (record { bag = l.bag; operation = upd l.operation t none })
  -- "The take's answer, if it comes, is took with this item." "its took answers, as far as they come, are that list in order" (request 1): the
  -- first item owed
  take_answers : {l : Ledger} {t : ℕ} {i : Item} {is : List Item} → l.operation t ≡ owing i is
      → Follows (answers_took t i) l (record { bag = l.bag; operation = upd l.operation t (still_owing is) })
  -- "A withdrawn operation has no deciding access" (request 5): it ends undecided, and the bag stays
  ends_withdrawn : {l : Ledger} {t : ℕ} {o : Operation} → l.operation t ≡ o → Undecided o
      → Follows (withdraws t) l (record { bag = l.bag; operation = upd l.operation t none })
