-- The answers of a take after its deciding access (document 02, request 1): "its took answers, as far as they come, are that list in order",
-- "the thread goes idle with the last". The same is said of a take of one item, whose list is that item. A part of demand 3.
use Rattle.std.specs.Prelude.{ℕ, ◌≡◌, true, List, [], ◌∷◌, ◌++◌, eqb}
use Rattle.region.specs.Pick.{pick}
use Rattle.region.specs.Shared.{thread_in}
use Rattle.region.specs.Thread.{is_idle}
use Rattle.region.specs.declared.answer.Answer.{Answer}
use Rattle.region.specs.declared.answer.Answer.TheVariants.{Moved, Idle, Inserted, Took, Empty, Refused, Withdrawn}
use Rattle.region.specs.declared.record.Item.{Item}
use Rattle.access.specs.Order.{item_le}
use Rattle.readable.specs.Readable.{frame_in}
use Rattle.theory.specs.Told.{Told, decides_take, decides_list}
use Rattle.bag.specs.History.{Event, called, turned, Moment}
use Rattle.bag.specs.Moments.{region_after}
use Rattle.bag.specs.Operations.{begins, count}
use Rattle.bag.specs.Told.{tells}

-- the item that an answer hands over
abbrev pub handed : Answer → List Item
handed Moved = []
handed Idle = []
handed Inserted = []
handed (Took i) = i ∷ []
handed Empty = []
handed (Refused n) = []
handed Withdrawn = []

abbrev pub handed_at : ℕ → Event → List Item
handed_at t (called c r) = []
handed_at t (turned x) = pick (eqb t x.thread) (handed x.answer) []

-- the items of thread t's took answers, in their order
unfoldable pub took_by : ℕ → List Moment → List Item
took_by t [] = []
took_by t (m ∷ ms) = handed_at t m.event ++ took_by t ms

-- the items that a deciding access of thread t removes: E2 one, 18 a list
pub data Removes (t : ℕ) : Told → List Item → Type 0 where
  one_item : {i : Item} → Removes t (decides_take t i) (i ∷ [])
  whole_list : {is : List Item} → Removes t (decides_list t is) is

-- no item is less than the one before it
abbrev pub NeverFalls : List Item → Type 0
NeverFalls [] = Unit
NeverFalls (i ∷ []) = Unit
NeverFalls (i ∷ j ∷ is) = (item_le i j ≡ true) × NeverFalls (j ∷ is)

-- of the items removed these were answered, and b is the region now
pub record HandedOut (t : ℕ) (removed answered : List Item) (b : List ℕ) : Type 0 where
  -- the answers come in the order of the items: a work-stealer hands on a sorted batch
  pub rises : NeverFalls removed
  -- each answer is the next of the list: none is skipped, repeated or another thread's
  pub rest : List Item
  pub next_by_next : removed ≡ answered ++ rest
  -- when the thread is idle all have come, and with the last it is
  pub all_come : is_idle (thread_in (frame_in b) b t) ≡ true → rest ≡ []
  pub idle_then : rest ≡ [] → is_idle (thread_in (frame_in b) b t) ≡ true

-- x is the deciding access, and `since` comes before t's next beginning
abbrev pub TookInOrder : List Moment → Type 0
TookInOrder all =
    (t : ℕ) (x : Moment) (removed : List Item) (before since later : List Moment) → all ≡ before ++ x ∷ (since ++ later)
    → Removes t (tells x.event) removed → count (begins t) since ≡ 0
    → HandedOut t removed (took_by t since) (region_after x.region since)
