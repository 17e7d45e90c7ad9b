-- What only the contracts of inner functions and the proofs need. A reader of the result may skip this file.
use Rattle.std.specs.Prelude.{ℕ, suc, ◌+◌, ◌*◌, ◌≤◌, ◌<◌, ◌≡◌, Bool, true, false, ◌||◌, List, [], ◌∷◌, ltb, eqb, length, get_or}
use Rattle.region.specs.Pick.{pick}
use Rattle.region.specs.Record.{is_item}
use Rattle.region.specs.declared.record.Item.{Item}
use Rattle.heap.specs.Heap.{Ordered, copies}
use Rattle.records.specs.Accepts.{accepts, claimant, each_two, in_place, in_real_time, are_one_by_one}
use Rattle.records.specs.Play.{bag_after, bag_gives}
use Rattle.records.specs.Recorded.{in_range, recorded_at}
use Rattle.records.specs.declared.form.Recorded.{Recorded}

-- n records, all in range
pub record WellFormed (b : List ℕ) (n : ℕ) : Type 0 where
  pub long : 28 * n ≤ length b
  pub few : n ≤ 1024
  pub ranged : (k : ℕ) → k < n → in_range (recorded_at b k) ≡ true

-- begin is before answer in each record, each of the positions 1 to n is claimed by one record, and the order has their numbers, from 1
pub record InOrder (n : ℕ) (r : ℕ → Recorded) (order : List ℕ) : Type 0 where
  pub room : n ≤ length order
  pub begun : (i : ℕ) → i < n → (r i).begin < (r i).answer
  pub first : (i : ℕ) → i < n → 1 ≤ (r i).position
  pub last : (i : ℕ) → i < n → (r i).position ≤ n
  pub by_claim : (i : ℕ) → i < n → claimant n r (r i).position ≡ i
  pub entry : (k : ℕ) → k < n → get_or order k 0 ≡ suc (claimant n r (suc k))
  pub there : (k : ℕ) → k < n → claimant n r (suc k) < n
  pub claims : (k : ℕ) → k < n → (r (claimant n r (suc k))).position ≡ suc k

-- x is the record at position k + 1
pub record AtPosition (b : List ℕ) (n k : ℕ) (x : Recorded) : Type 0 where
  pub is : x ≡ in_place n (recorded_at b) k
  pub ranged : in_range x ≡ true
  pub low : x.thread < 65

-- a thread whose last operation was answered at `last`, 0 for none, may begin another
unfoldable pub ended : ℕ → ℕ → Bool
ended last begin = eqb last 0 || ltb last begin

pub record InTime (n : ℕ) (r : ℕ → Recorded) (q : Bool) : Type 0 where
  pub one_by_one : q ≡ true → each_two n r are_one_by_one ≡ true
  pub real_time : q ≡ true → each_two n r in_real_time ≡ true
  pub no : q ≡ false → accepts n r ≡ false

-- an item as a number: of two items in range the lesser has the lesser number
unfoldable pub packed : Item → ℕ
packed i = 65536 * i.key + i.tag

-- the bag's copies of a packed item
unfoldable pub packed_copies : List Item → ℕ → ℕ
unfolding packed
packed_copies [] x = 0
packed_copies (i ∷ bag) x = packed_copies bag x + pick (eqb (packed i) x) 1 0

abbrev pub AllItems : List Item → Type 0
AllItems [] = Unit
AllItems (i ∷ bag) = (is_item i ≡ true) × AllItems bag

-- the heap h of n entries holds the items of the bag
pub record InHeap (h : List ℕ) (n : ℕ) (bag : List Item) : Type 0 where
  pub ordered : Ordered h n
  pub same : (x : ℕ) → copies h n x ≡ packed_copies bag x
  pub size : length bag ≡ n
  pub items : AllItems bag

-- one record played, whatever bag the heap holds: q says whether the bag gives its answer
pub record PlayedOne (h : List ℕ) (size : ℕ) (r : Recorded) (h' : List ℕ) (size' : ℕ) (q : Bool) : Type 0 where
  pub most : size' ≤ size + 1
  pub given : (bag : List Item) → InHeap h size bag → q ≡ bag_gives bag r
  pub after : (bag : List Item) → InHeap h size bag → q ≡ true → InHeap h' size' (bag_after bag r)
