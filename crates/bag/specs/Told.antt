-- What the bag is told of a moment: beginnings from calls, deciding accesses and a take's answers from places and answers.
use Rattle.std.specs.Prelude.{Bool, ◌||◌, eqb}
use Rattle.region.specs.Refusal.{done}
use Rattle.region.specs.Pick.{pick}
use Rattle.region.specs.Place.{place_number}
use Rattle.region.specs.declared.answer.Answer.{Answer}
use Rattle.region.specs.declared.answer.Answer.TheVariants.{Moved, Idle, Inserted, Took, Empty, Refused, Withdrawn}
use Rattle.region.specs.declared.place.Place.{Place}
use Rattle.region.specs.declared.place.Place.TheVariants.{InsertAtRoot, InsertBelow, ReadRoot, RemoveHead, MendReadNode, ListReadRoot, RemoveList}
use Rattle.theory.specs.Told.{Told, nothing, begins_put, begins_take, begins_list, decides_put, decides_take, decides_list, decides_empty, answers_took, withdraws}
use Rattle.bag.specs.Calls.{Call, layout, convert, put, take, list, permit, run, check}
use Rattle.bag.specs.History.{Event, called, turned, ServedTurn}

-- "An operation begins with a put or take call that is not refused.", or with a list
abbrev pub call_tells : Call → Told
call_tells (layout s permissions) = nothing
call_tells (convert old) = nothing
call_tells (put t i) = begins_put t i
call_tells (take t) = begins_take t
call_tells (list t) = begins_list t
call_tells (permit t p) = nothing
call_tells (run schedule limit answers) = nothing
call_tells check = nothing

-- the place p is q, whatever levels wait there
abbrev pub stands : Place → Place → Bool
stands p q = eqb (place_number p) (place_number q)

-- "Deciding accesses: successful I6, I8, E2, and an E1 that answers empty." Of a list a successful 18, and a 17 that answers empty (request 1).
-- A successful I6 or I8 answers inserted; a successful E2 or 18 goes on to mend the root, at M1, and a failed one to E1 or 17. "The take's
-- answer, if it comes, is took".
abbrev pub removal_tells : ServedTurn → Told
removal_tells x =
    pick
    (stands x.from RemoveHead)
    (decides_take x.thread x.root)
    (pick (stands x.from RemoveList) (decides_list x.thread x.list) nothing)

abbrev pub answer_tells : ServedTurn → Answer → Told
answer_tells x Moved = pick (stands x.to (MendReadNode 0)) (removal_tells x) nothing
answer_tells x Idle = nothing
answer_tells x Inserted =
    pick (stands x.from InsertAtRoot || stands x.from InsertBelow) (decides_put x.thread) nothing
answer_tells x (Took i) = answers_took x.thread i
answer_tells x Empty = pick (stands x.from ReadRoot || stands x.from ListReadRoot) (decides_empty x.thread) nothing
answer_tells x (Refused n) = nothing
answer_tells x Withdrawn = withdraws x.thread

abbrev pub tells : Event → Told
tells (called c r) = pick (eqb r done) (call_tells c) nothing
tells (turned x) = answer_tells x x.answer
