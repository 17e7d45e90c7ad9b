-- Cases of request 4, "A readability check that stops early", on what it answers: the rows.
use Rattle.std.specs.Prelude.{ℕ, List, [], ◌∷◌}
use Rattle.region.specs.Refusal.{done}
use Rattle.region.specs.declared.refusal.Refusal.TheVariants.{Unreadable}
use Rattle.cases.specs.Row.{Does, Row, Says, answered, both, calls_row, checks, refused}

-- checks on D 2, C 2, T 2, H 1, laid out: 96 words
abbrev checks_row : List (Does × Says) → Row
checks_row cs = calls_row both cs 1

-- "Most damaged regions we receive have a bad first word": it is D, 2 here; 13 is out of range
abbrev pub bad_first_word : Row
bad_first_word =
    checks_row ((checks 0 (2 ∷ []), answered done) ∷ (checks 0 (13 ∷ []), refused Unreadable) ∷ [])

-- "Its yes and refusal are today's", at the end of a range and past it: node 2's first cell, cell 1's tag, thread 2's permission
abbrev pub bad_later_word : Row
bad_later_word =
    checks_row
    ((checks 10 (2 ∷ []), answered done)
    ∷ (checks 10 (3 ∷ []), refused Unreadable)
    ∷ (checks 19 (65535 ∷ []), answered done)
    ∷ (checks 19 (65536 ∷ []), refused Unreadable)
    ∷ (checks 60 (3 ∷ []), answered done)
    ∷ (checks 60 (4 ∷ []), refused Unreadable)
    ∷ [])

-- a check with thread 1's place, tries, node and waiting levels, and 0 in the words between
abbrev pub checks_thread : ℕ → ℕ → ℕ → ℕ → Does
checks_thread place tries node waiting =
    checks 25 (place ∷ 0 ∷ 0 ∷ 0 ∷ 0 ∷ 0 ∷ tries ∷ 0 ∷ 0 ∷ node ∷ waiting ∷ [])

-- the same, "tries 0..H and below H at I2": I1 is place 1, I2 is 2
abbrev pub bad_tries : Row
bad_tries =
    checks_row ((checks_thread 1 1 0 0, answered done) ∷ (checks_thread 2 0 0 0, answered done) ∷ (checks_thread 2 1 0 0, refused Unreadable) ∷ [])

-- the same, "waiting marks only at M places and levels above the node's (none at node 0)": M1 is place 11, E2 is 10; node 2 is on level 2
abbrev pub bad_waiting_levels : Row
bad_waiting_levels =
    checks_row
    ((checks_thread 11 0 2 1, answered done)
    ∷ (checks_thread 11 0 2 2, refused Unreadable)
    ∷ (checks_thread 11 0 0 1, refused Unreadable)
    ∷ (checks_thread 10 0 2 1, refused Unreadable)
    ∷ [])

abbrev pub cases_of_request4 : List Row
cases_of_request4 =
    bad_first_word
    ∷ bad_later_word
    ∷ bad_tries
    ∷ bad_waiting_levels
    ∷ []
