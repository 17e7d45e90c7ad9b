-- Cases of request 2, "Equal keys, smaller tag first": the rows.
use Rattle.std.specs.Prelude.{ℕ, List, [], ◌∷◌, ◌++◌}
use Rattle.region.specs.Refusal.{done}
use Rattle.region.specs.declared.answer.Answer.TheVariants.{Moved, Took}
use Rattle.region.specs.declared.record.Item.{Item}
use Rattle.cases.specs.Row.{Does, takes, turns, costs, writes, Says, answered, Row, tagged, both, calls_row, serves, turns_to, inserting, taking, one_thread}

-- two items of one key
abbrev nine : Item
nine = tagged 5 9

abbrev two : Item
two = tagged 5 2

-- on D 2, C 2 and one thread
abbrev row : List (Does × Says) → ℕ → Row
row cs depth = one_thread 2 2 240 cs depth

-- 2 is less than 9, so it goes to the root's front and leaves first
abbrev pub nine_then_two : Row
nine_then_two =
    row (inserting nine 4 ++ inserting two 4 ++ taking 5 (Took two) ++ taking 5 (Took nine)) 1

-- 9 is greater than the root's 2, so the tree grows and 9 goes below; 2 leaves first. By keys alone 9 would go to the root's front.
abbrev pub two_then_nine : Row
two_then_nine =
    row (inserting two 4 ++ inserting nine 9 ++ taking 10 (Took two)) 2

-- a take between the puts: 9 leaves, since 2 is not there yet
abbrev pub take_between : Row
take_between =
    row (inserting nine 4 ++ taking 5 (Took nine) ++ inserting two 4 ++ taking 5 (Took two)) 1

-- thread 2's take has read 9 at the root when 2 comes before it: its second access fails, and it takes 2
abbrev crossing : List (Does × Says)
crossing =
    inserting nine 4
    ++ (takes 2, answered done)
    ∷ (turns (2 ∷ []), serves (Moved ∷ []))
    ∷ inserting two 4
    ++ turns_to 2 6 (Took two)

abbrev pub take_under_way : Row
take_under_way =
    calls_row both crossing 1

-- two copies of one item, which leave one after the other
abbrev pub equal_items : Row
equal_items =
    row (inserting nine 4 ++ inserting nine 4 ++ taking 5 (Took nine) ++ taking 5 (Took nine)) 1

-- the words from the depth to the cells of a region that no calls leave: depth 2, no cell free; the root has cell 1, node 2 has cell 2; cell 1
-- has 9, cell 2 the key 4,294,967,295 and the greatest tag
abbrev greatest_below : List ℕ
greatest_below = 2 ∷ 0 ∷ 1 ∷ 0 ∷ 0 ∷ 0 ∷ 2 ∷ 0 ∷ 0 ∷ 0 ∷ 0 ∷ 0 ∷ 0 ∷ 0 ∷ 5 ∷ 9 ∷ 0 ∷ 4294967295 ∷ 65535 ∷ 0 ∷ []

-- "an empty node is above every item": without its head the root's list is empty, which is above the item below it. So it goes down to
-- level 2, and the take costs 5 × 2.
abbrev pub above_every_item : Row
above_every_item =
    row ((writes 4 greatest_below, answered done) ∷ (costs, answered 10) ∷ taking 10 (Took nine)) 2

abbrev pub cases_of_request2 : List Row
cases_of_request2 =
    nine_then_two
    ∷ two_then_nine
    ∷ take_between
    ∷ take_under_way
    ∷ equal_items
    ∷ above_every_item
    ∷ []
