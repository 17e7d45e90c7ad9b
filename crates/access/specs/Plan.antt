-- What a turn decides: the effect on shared memory, the thread's record afterwards, and the answer.
use Rattle.std.specs.Prelude.{ℕ, Bool, true, false}
use Rattle.region.specs.Thread.{at_place}
use Rattle.region.specs.declared.answer.Answer.{Answer}
use Rattle.region.specs.declared.answer.Answer.TheVariants.{Moved, Idle, Inserted, Took, Empty, Refused, Withdrawn}
use Rattle.region.specs.declared.place.Place.{Place}
use Rattle.region.specs.declared.refusal.Refusal.{Refusal}
use Rattle.region.specs.declared.thread.Thread.{Thread}
use Rattle.access.specs.declared.effect.Effect.{Effect}
use Rattle.access.specs.declared.effect.Effect.TheVariants.{Nothing}
use Rattle.access.specs.declared.plan.Plan.{Plan}

unfoldable pub plan : Effect → Thread → Answer → Plan
plan e t a = record { effect = e; thread = t; answer = a }

-- the thread's record is all that changes
unfoldable pub moved : Thread → Plan
unfolding plan
moved t = plan Nothing t Moved

-- the thread goes on to a place
unfoldable pub on_to : Thread → Place → Plan
unfolding moved
on_to t p = moved (at_place t p)

-- a refused turn: "the thread keeps its place", since a refused turn stores nothing, whatever record its plan has
unfoldable pub refused : Thread → Refusal → Plan
unfolding plan
refused t r = plan Nothing t (Refused r)

-- a turn that changes no byte: idle or refused
abbrev pub changes_nothing : Answer → Bool
changes_nothing Moved = false
changes_nothing Idle = true
changes_nothing Inserted = false
changes_nothing (Took i) = false
changes_nothing Empty = false
changes_nothing (Refused n) = true
changes_nothing Withdrawn = false

-- the answers of an operation, "inserted, took or empty". It ends with the first, a list with the last. Withdrawn (request 5) ends an
-- operation too, and is no answer of it.
abbrev pub answers_operation : Answer → Bool
answers_operation Moved = false
answers_operation Idle = false
answers_operation Inserted = true
answers_operation (Took i) = true
answers_operation Empty = true
answers_operation (Refused n) = false
answers_operation Withdrawn = false

-- "Moved, inserted, took and empty each count one access." A withdrawn turn "makes no access" (request 5).
abbrev pub accesses_of : Answer → ℕ
accesses_of Moved = 1
accesses_of Idle = 0
accesses_of Inserted = 1
accesses_of (Took i) = 1
accesses_of Empty = 1
accesses_of (Refused n) = 0
accesses_of Withdrawn = 0
