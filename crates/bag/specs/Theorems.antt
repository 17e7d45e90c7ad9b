-- What holds throughout every history of a laid-out region, beside demand 3 itself (Demand3.antt), and of the least item of its bag. Each is
-- proved under its name in proofs/Theorems.antt.
use Rattle.std.specs.Prelude.{ℕ, ◌≤◌, ◌<◌, ◌≡◌, false, true, List, ◌++◌}
use Rattle.region.specs.declared.refusal.Refusal.TheVariants.{Unreadable}
use Rattle.region.specs.declared.answer.Answer.TheVariants.{Refused}
use Rattle.region.specs.declared.record.Item.{Item}
use Rattle.readable.specs.Readable.{frame_in, readable, shape_in}
use Rattle.machine.specs.Turn.{turn_answer}
use Rattle.theory.specs.Ledger.{Least}
use Rattle.theory.specs.Told.{decides_list}
use Rattle.bag.specs.Account.{AllCellsAccounted, NoneFreeWhenFull, PutsRefusedWhenFull}
use Rattle.bag.specs.Demand3.{in_tree}
use Rattle.bag.specs.History.{Moment}
use Rattle.bag.specs.Moments.{EachMoment, InEveryHistory, Throughout, region_after}
use Rattle.bag.specs.PutCost.{PutsEnd}
use Rattle.bag.specs.TakeCost.{TakesCost, TakesEnd}
use Rattle.bag.specs.Told.{tells}
use Rattle.bag.specs.Tries.{NoLeafIdle, WordTells, tried_since}

-- the region is readable, and its first words are the layout's still
abbrev pub StaysReadable : Type 0
StaysReadable = Throughout λ s permissions b. (readable b ≡ true) × (shape_in b ≡ s)

-- no turn is refused 7
abbrev pub NoTurnUnreadable : Type 0
NoTurnUnreadable = Throughout λ s permissions b. (t choice : ℕ) → turn_answer (frame_in b) b t choice ≡ Refused Unreadable → ⊥

-- tree, begun puts, items in hand and free chain account for all C cells
abbrev pub CellsAccounted : Type 0
CellsAccounted = Throughout λ s permissions b. AllCellsAccounted b

-- "From a laid-out region no cell is free exactly when tree, begun puts and items in hand fill all." (document 02, request 1)
abbrev pub NoneFree : Type 0
NoneFree = Throughout λ s permissions b. NoneFreeWhenFull b

-- a put is refused 10 exactly then
abbrev pub RefusedTenWhenFull : Type 0
RefusedTenWhenFull = Throughout λ s permissions b. PutsRefusedWhenFull b

-- "a take of one item begun at depth d ends in exactly 1 access if empty, 5 × j + 2 if its last mending leaves the list at level j above d,
-- and 5 × d if it reaches level d" (document 02, request 3)
abbrev pub TakesCostExactly : Type 0
TakesCostExactly = Throughout λ s permissions b. TakesCost b

-- "From a laid-out region, with all nodes clean, no other thread moving and no turn refused 11, a take begun at depth d ends in at most
-- 5 × d accesses.": follows
abbrev pub TakesEndInTime : Type 0
TakesEndInTime = Throughout λ s permissions b. TakesEnd b

-- "a put begun at depth D, with nobody else moving, its permission kept and no turn refused 11, is inserted within 2^D + 7 accesses"
-- (document 02, request 8)
abbrev pub PutsEndInTime : Type 0
PutsEndInTime = Throughout λ s permissions b. PutsEnd b

-- "The leaf word already tells whether there was such a try" (request 8), one with d at D since the put began
abbrev pub LeafWordTells : Type 0
LeafWordTells =
    InEveryHistory λ s permissions b ms. (earlier later : List Moment) → ms ≡ earlier ++ later → (t : ℕ)
    → WordTells s (region_after b earlier) t (tried_since t false b earlier)

-- a put begins with leaf word 0: so has every idle thread
abbrev pub NoLeafWhenIdle : Type 0
NoLeafWhenIdle = Throughout λ s permissions b. NoLeafIdle b

-- "The bag gives up its least item under that order" (document 02, request 2): no bag has two least items, so nothing is left open about which
-- item a take removes
abbrev pub LeastIsOne : Type 0
LeastIsOne = (bag : Item → ℕ) (i j : Item) → Least bag i → Least bag j → i ≡ j

-- "an item of least key" (demand 3): the least item has it
abbrev pub LeastHasLeastKey : Type 0
LeastHasLeastKey = (bag : Item → ℕ) (i j : Item) → Least bag i → 1 ≤ bag j → i.key ≤ j.key

-- copies of an item in the region's tree, which are those in the bag (`HoldsTheSame` in Demand3.antt)
abbrev pub copies : List ℕ → Item → ℕ
copies b i = in_tree (frame_in b) b i

-- of two items with equal keys, the one with the greater tag (j) never leaves while the other (i) is there: no call and no turn makes its
-- copies fewer, but for the 18 of a list, which takes all that stand behind the least item
abbrev pub StaysBehind : List ℕ → Moment → Type 0
StaysBehind before m =
    ((t : ℕ) (is : List Item) → tells m.event ≡ decides_list t is → ⊥) → (i j : Item) → i.key ≡ j.key → i.tag < j.tag
    → 1 ≤ copies before i → copies before j ≤ copies m.region j

-- "Equal keys, smaller tag first" (request 2)
abbrev pub SmallerTagFirst : Type 0
SmallerTagFirst = InEveryHistory λ s permissions b ms. EachMoment StaysBehind b ms
