-- Cases of request 3, "How many accesses a take costs": the rows. A row has the figure before the take, then the take, which ends with
-- that access. j is the level at which the list comes to rest, d the present depth.
use Rattle.std.specs.Prelude.{ℕ, List, [], ◌∷◌, ◌++◌}
use Rattle.region.specs.declared.answer.Answer.{Answer}
use Rattle.region.specs.declared.answer.Answer.TheVariants.{Took, Empty}
use Rattle.cases.specs.Row.{Does, costs, Says, answered, Row, item, inserting, taking, one_thread}

-- a take whose cost is n, and which ends with its n-th access
abbrev costing : ℕ → Answer → List (Does × Says)
costing n a = (costs, answered n) ∷ taking n a

-- "exactly 1 access if empty"
abbrev pub empty_root : Row
empty_root =
    one_thread 1 1 196 (costing 1 Empty) 1

-- j 1, d 1: one node, and no level below it; 5 × 1
abbrev pub one_level : Row
one_level =
    one_thread 1 1 196 (inserting (item 5) 4 ++ costing 5 (Took (item 5))) 1

-- j 1, d 2: root 3 5, and below it 7. Without its head the root's list is 5; 7 is not less, and the list rests; 5 × 1 + 2.
-- j 3, d 3: then 8 comes below 7. Without its head the root's list is empty, and goes down to 7's place and to 8's; 5 × 3.
abbrev pub rests_and_goes_down : Row
rests_and_goes_down =
    one_thread 3 3 316
    (inserting (item 5) 4
    ++ inserting (item 7) 9
    ++ inserting (item 3) 5
    ++ costing 7 (Took (item 3))
    ++ inserting (item 8) 9
    ++ costing 15 (Took (item 5)))
    3

abbrev pub cases_of_request3 : List Row
cases_of_request3 =
    empty_root
    ∷ one_level
    ∷ rests_and_goes_down
    ∷ []
