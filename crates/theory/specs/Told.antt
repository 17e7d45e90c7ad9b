-- What the bag is told: "It is told the calls' arguments, the deciding accesses in the order of the served turns, and the item that an E2
-- takes; it sees nothing else."; of a take of the root's list (request 1) the items that its 18 takes; and of request 5 that an operation is
-- withdrawn.
use Rattle.std.specs.Prelude.{ℕ, List}
use Rattle.region.specs.declared.record.Item.{Item}

-- each with the thread whose operation it is
pub data Told : Type 0 where
  nothing : Told
  begins_put : ℕ → Item → Told
  begins_take : ℕ → Told
  begins_list : ℕ → Told
  decides_put : ℕ → Told
  decides_take : ℕ → Item → Told
  decides_list : ℕ → List Item → Told
  decides_empty : ℕ → Told
  answers_took : ℕ → Item → Told
  withdraws : ℕ → Told
