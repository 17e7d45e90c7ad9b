-- Cases of request 5, "Permission at the deciding turn": the rows, on D 2, C 2, T 2, H 1, permissions 3. A permission of 1 grants put alone,
-- of 2 take alone, of 0 nothing.
use Rattle.std.specs.Prelude.{ℕ, List, [], ◌∷◌, ◌++◌, replicate}
use Rattle.region.specs.Refusal.{done}
use Rattle.region.specs.declared.refusal.Refusal.TheVariants.{BadShape, BadThread, Unreadable, NotPermitted, CounterSpent}
use Rattle.region.specs.declared.answer.Answer.TheVariants.{Moved, Idle, Inserted, Took, Refused, Withdrawn}
use Rattle.cases.specs.Row.{Does, Row, Says, answered, both, calls_row, inserting, item, permits, puts, refused, shown, shows, takes, turns_to, writes}

abbrev row : List (Does × Says) → Row
row cs = calls_row both cs 1

-- the depth and the first free cell, the root, nodes 2 and 3, cells 1 and 2, then thread 1's record: idle with this permission
abbrev idle_behind : List ℕ → ℕ → Does × Says
idle_behind ws p = (shows 4 56, shown (ws ++ p ∷ replicate 35 0))

-- "frees a put's own cell .., goes idle and answers withdrawn": the put of 5 has cell 1; it is wiped and the first of the chain again, before
-- cell 2, and thread 2's put begins with it, in the fifth word of its record
abbrev pub put_withdrawn : Row
put_withdrawn =
    row
    ((puts 1 5, answered done)
    ∷ (permits 1 2, answered done)
    ∷ turns_to 1 1 Withdrawn
    ++ idle_behind (1 ∷ 1 ∷ replicate 12 0 ++ 0 ∷ 0 ∷ 2 ∷ 0 ∷ 0 ∷ 0 ∷ []) 2
    ∷ (puts 2 7, answered done)
    ∷ (shows 64 1, shown (1 ∷ []))
    ∷ turns_to 2 4 Inserted)

-- "makes no access": E1 has read 5 when the permission to take goes; E2 is withdrawn, root and cells are as the put left them, and thread 2
-- takes 5
abbrev pub take_withdrawn : Row
take_withdrawn =
    row
    (inserting (item 5) 4
    ++ (takes 1, answered done)
    ∷ turns_to 1 1 Moved
    ++ (permits 1 1, answered done)
    ∷ turns_to 1 1 Withdrawn
    ++ idle_behind (1 ∷ 2 ∷ 1 ∷ 0 ∷ 1 ∷ 0 ∷ replicate 8 0 ++ 5 ∷ 9 ∷ 0 ∷ 0 ∷ 0 ∷ 0 ∷ []) 1
    ∷ (takes 2, answered done)
    ∷ turns_to 2 5 (Took (item 5)))

-- "a permission must still be there when the operation takes effect", and E2 has taken effect: M1, M2 and M6 follow, and took. The next take
-- is refused.
abbrev pub take_decided : Row
take_decided =
    row
    (inserting (item 5) 4
    ++ (takes 1, answered done)
    ∷ turns_to 1 2 Moved
    ++ (permits 1 0, answered done)
    ∷ turns_to 1 3 (Took (item 5))
    ++ (takes 1, refused NotPermitted)
    ∷ turns_to 1 1 Idle)

-- only the turn looks at it: a permission that is back before the next turn was never missed
abbrev pub given_back : Row
given_back =
    row
    ((puts 1 5, answered done)
    ∷ turns_to 1 1 Moved
    ++ (permits 1 0, answered done)
    ∷ (permits 1 3, answered done)
    ∷ turns_to 1 3 Inserted)

-- "this is looked at after 7 and before 11": thread 1 at I1 with no cell of its own and no permission is refused 7. Then with the root's
-- counter spent, 4,294,967,295 in both its words, a put comes to I6, is refused 11 there, and without its permission withdrawn.
abbrev pub between_refusals : Row
between_refusals =
    row
    ((writes 24 (0 ∷ 1 ∷ []), answered done)
    ∷ turns_to 1 1 (Refused Unreadable)
    ++ (writes 24 (3 ∷ 0 ∷ []), answered done)
    ∷ (writes 8 (4294967295 ∷ 4294967295 ∷ []), answered done)
    ∷ (puts 1 5, answered done)
    ∷ turns_to 1 4 (Refused CounterSpent)
    ++ (permits 1 2, answered done)
    ∷ turns_to 1 1 Withdrawn)

-- "the call gives 7, 3, then 1 for a permission above 3"; refused, it leaves the permission as it was. At the end D is 13.
abbrev pub permit_refused : Row
permit_refused =
    row
    ((permits 1 4, refused BadShape)
    ∷ (permits 0 4, refused BadThread)
    ∷ (permits 3 4, refused BadThread)
    ∷ (shows 24 1, shown (3 ∷ []))
    ∷ (writes 0 (13 ∷ []), refused Unreadable)
    ∷ (permits 0 4, refused Unreadable)
    ∷ [])

abbrev pub cases_of_request5 : List Row
cases_of_request5 =
    put_withdrawn
    ∷ take_withdrawn
    ∷ take_decided
    ∷ given_back
    ∷ between_refusals
    ∷ permit_refused
    ∷ []
