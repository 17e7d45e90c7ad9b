-- "Cases (starred ones proved)" of document 01, A to K: the rows.
use Rattle.std.specs.Prelude.{ℕ, List, [], ◌∷◌, ◌++◌}
use Rattle.region.specs.Refusal.{done, number_of}
use Rattle.region.specs.declared.refusal.Refusal.TheVariants.{BadShape, BadLength, BadItem, NotPermitted, NoFreeCell}
use Rattle.region.specs.declared.answer.Answer.TheVariants.{Moved, Idle, Inserted, Took, Empty}
use Rattle.cases.specs.Row.{Does, Row, Says, answered, both, calls_row, inserting, item, puts, refused, row_of, serves, shaped, takes, taking, turns, turns_to}

-- "Shape D 2, C 2, T 2, H 1, permissions 3, unless said."

-- a layout alone; a refused one leaves the depth's word 0
abbrev layout_row : ℕ → ℕ → ℕ → ℕ → ℕ → Row
layout_row d c bytes answer depth = row_of (shaped d c) both bytes answer [] depth

-- calls on a fresh region
abbrev row : List (Does × Says) → ℕ → Row
row cs depth = calls_row both cs depth

-- "root 5"
abbrev root_five : List (Does × Says)
root_five = inserting (item 5) 4

-- A* and B* "C 2 at D 2 passes". Of A* request 7 says "case A is then 384 bytes, 380 refused 2", in place of document 01's 348 and 344.
abbrev pub fits : Row
fits =
    layout_row 2 2 384 done 1

-- A* "380 refused 2" (request 7)
abbrev pub short : Row
short =
    layout_row 2 2 380 (number_of BadLength) 0

-- B* "C 3 is 1"
abbrev pub many_cells : Row
many_cells =
    layout_row 2 3 396 (number_of BadShape) 0

-- B* "D 13 is 1"
abbrev pub too_deep : Row
too_deep =
    layout_row 13 2 384 (number_of BadShape) 0

-- C* "key 4,294,967,294 begins"
abbrev pub greatest_key : Row
greatest_key =
    row ((puts 1 4294967294, answered done) ∷ []) 1

-- C* "4,294,967,295 is 4"
abbrev pub no_key : Row
no_key =
    row ((puts 1 4294967295, refused BadItem) ∷ []) 1

-- D* "permission 0: put is 8, its turn idle"
abbrev pub empty_list : Row
empty_list =
    calls_row (0 ∷ 0 ∷ []) ((puts 1 5, refused NotPermitted) ∷ turns_to 1 1 Idle) 1

-- E* "put 5 when fresh: inserted at turn 4", F* "then take: took 5 at turn 5", G* "then take: empty at turn 1"
abbrev pub put_and_takes : Row
put_and_takes =
    row (inserting (item 5) 4 ++ taking 5 (Took (item 5)) ++ taking 1 Empty) 1

-- H* "root 5, depth 1, put 7: inserted at turn 9, depth 2"
abbrev pub grows : Row
grows =
    row (root_five ++ inserting (item 7) 9) 2

-- I* "root 5; thread 1 take, thread 2 put 3, turns 1,2,2,2,2,1,1,1,1,1,1: thread 1's second access fails, last answers took 3"
abbrev pub crossing_put : Row
crossing_put =
    row
    (root_five
    ++ (takes 1, answered done)
    ∷ (puts 2 3, answered done)
    ∷ (
      turns (1 ∷ 2 ∷ 2 ∷ 2 ∷ 2 ∷ 1 ∷ 1 ∷ 1 ∷ 1 ∷ 1 ∷ 1 ∷ []),
      serves (Moved ∷ Moved ∷ Moved ∷ Moved ∷ Inserted ∷ Moved ∷ Moved ∷ Moved ∷ Moved ∷ Moved ∷ Took (item 3) ∷ []),
    )
    ∷ [])
    1

-- J* "root 5; both take, turns 1,1,2,2,2,2,2,1,1: thread 2 gets empty first, then thread 1 took 5"
abbrev pub crossing_takes : Row
crossing_takes =
    row
    (root_five
    ++ (takes 1, answered done)
    ∷ (takes 2, answered done)
    ∷ (
      turns (1 ∷ 1 ∷ 2 ∷ 2 ∷ 2 ∷ 2 ∷ 2 ∷ 1 ∷ 1 ∷ []),
      serves (Moved ∷ Moved ∷ Moved ∷ Moved ∷ Moved ∷ Moved ∷ Empty ∷ Moved ∷ Took (item 5) ∷ []),
    )
    ∷ [])
    1

-- K* "C 1, D 1: second put while one is begun is 10; begun after a take's E2 passes"
abbrev pub last_cell : Row
last_cell =
    row_of (shaped 1 1) both 340 done
    ((puts 1 5, answered done)
    ∷ (puts 2 6, refused NoFreeCell)
    ∷ turns_to 1 4 Inserted
    ++ (takes 1, answered done)
    ∷ turns_to 1 1 Moved
    ++ (puts 2 6, refused NoFreeCell)
    ∷ turns_to 1 1 Moved
    ++ (puts 2 6, answered done)
    ∷ [])
    1

abbrev pub cases_of01 : List Row
cases_of01 =
    fits
    ∷ short
    ∷ many_cells
    ∷ too_deep
    ∷ greatest_key
    ∷ no_key
    ∷ empty_list
    ∷ put_and_takes
    ∷ grows
    ∷ crossing_put
    ∷ crossing_takes
    ∷ last_cell
    ∷ []
