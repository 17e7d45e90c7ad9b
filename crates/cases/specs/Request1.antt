-- Cases of request 1, "Take a whole list": the rows, on D 2, C 2, T 2, H 1, permissions 3.
use Rattle.std.specs.Prelude.{ℕ, List, [], ◌∷◌, ◌++◌, replicate}
use Rattle.region.specs.Refusal.{done}
use Rattle.region.specs.declared.refusal.Refusal.TheVariants.{Unreadable, NoFreeCell}
use Rattle.region.specs.declared.answer.Answer.TheVariants.{Moved, Idle, Inserted, Took, Empty}
use Rattle.cases.specs.Row.{Does, Row, Says, answered, both, calls_row, checks, inserting, item, lists, puts, refused, serves, shown, shows, takes, turns, turns_to}
use Rattle.cases.specs.Request4.{checks_thread}

abbrev row : List (Does × Says) → Row
row cs = calls_row both cs 1

-- the root's list is 3, 5: 3 has cell 2 and 5 has cell 1, and no cell is free
abbrev three_and_five : List (Does × Says)
three_and_five = inserting (item 5) 4 ++ inserting (item 3) 4

-- "An empty clean root answers empty"
abbrev pub empty_at_once : Row
empty_at_once =
    row ((lists 1, answered done) ∷ turns_to 1 1 Empty)

-- 17 and 18, then M1, M2 and M6: "The last mending turn answers moved, each handed item took; the thread goes idle with the last"
abbrev handing : List (Does × Says)
handing =
    three_and_five
    ++ (lists 1, answered done)
    ∷ (turns (replicate 8 1), serves (replicate 5 Moved ++ Took (item 3) ∷ Took (item 5) ∷ Idle ∷ []))
    ∷ []

-- the depth, the first free cell, three nodes and two cells afterwards: the root, changed by two puts, 18 and M6, is empty and clean; cell 1,
-- freed last, is the first free cell, and cell 2 the next
abbrev both_free : List ℕ
both_free = 1 ∷ 1 ∷ 0 ∷ 0 ∷ 4 ∷ 0 ∷ 0 ∷ 0 ∷ 0 ∷ 0 ∷ 0 ∷ 0 ∷ 0 ∷ 0 ∷ 0 ∷ 0 ∷ 2 ∷ 0 ∷ 0 ∷ 0 ∷ []

-- and thread 1's record: the permission, and 0 in every other word
abbrev pub handed_in_order : Row
handed_in_order =
    row (handing ++ (shows 4 56, shown (both_free ++ 3 ∷ replicate 35 0)) ∷ [])

-- "18 .. (failure: 17)": 17 has read 5 when 3 comes before it; 18 fails, 17 reads the root again, and the list is 3, 5
abbrev pub put_between : Row
put_between =
    row
    (inserting (item 5) 4
    ++ (lists 1, answered done)
    ∷ (puts 2 3, answered done)
    ∷ (
      turns (1 ∷ 2 ∷ 2 ∷ 2 ∷ 2 ∷ replicate 8 1),
      serves (Moved ∷ Moved ∷ Moved ∷ Moved ∷ Inserted ∷ replicate 6 Moved ++ Took (item 3) ∷ Took (item 5) ∷ []),
    )
    ∷ [])

-- after 18 the root is empty and dirty: thread 2's take mends it and finds it empty while thread 1 has 5 in hand; then M1 and M2 find the root
-- clean, and 19 hands out
abbrev pub take_of_another : Row
take_of_another =
    row
    (inserting (item 5) 4
    ++ (lists 1, answered done)
    ∷ (takes 2, answered done)
    ∷ (
      turns (1 ∷ 1 ∷ 2 ∷ 2 ∷ 2 ∷ 2 ∷ 2 ∷ 1 ∷ 1 ∷ 1 ∷ []),
      serves (replicate 6 Moved ++ Empty ∷ Moved ∷ Moved ∷ Took (item 5) ∷ []),
    )
    ∷ [])

-- "no cell is free exactly when tree, begun puts and items in hand fill all": after 18 two items are in hand, after the first hand-out one
abbrev pub cells_in_hand : Row
cells_in_hand =
    row
    (three_and_five
    ++ (lists 1, answered done)
    ∷ turns_to 1 2 Moved
    ++ (puts 2 7, refused NoFreeCell)
    ∷ turns_to 1 4 (Took (item 3))
    ++ (puts 2 7, answered done)
    ∷ turns_to 1 1 (Took (item 5)))

-- "Readability admits these": place 19 and no greater one, after 3 and no greater one, and no waiting marks at 17
abbrev pub admitted : Row
admitted =
    row
    ((checks 25 (19 ∷ []), answered done)
    ∷ (checks 25 (20 ∷ []), refused Unreadable)
    ∷ (checks 36 (3 ∷ []), answered done)
    ∷ (checks 36 (4 ∷ []), refused Unreadable)
    ∷ (checks_thread 17 0 2 1, refused Unreadable)
    ∷ [])

abbrev pub cases_of_request1 : List Row
cases_of_request1 =
    empty_at_once
    ∷ handed_in_order
    ∷ put_between
    ∷ take_of_another
    ∷ cells_in_hand
    ∷ admitted
    ∷ []
