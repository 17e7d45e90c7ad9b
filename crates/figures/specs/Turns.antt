-- The turns that scripts make, as the machine defines them.
use Rattle.std.specs.Prelude.{ℕ, List, [], ◌∷◌, ◌++◌}
use Rattle.region.specs.Shared.{thread_in}
use Rattle.region.specs.declared.place.Place.{Place}
use Rattle.access.specs.declared.plan.Plan.{Plan}
use Rattle.readable.specs.Readable.{frame_in}
use Rattle.machine.specs.Turn.{turn_plan}
use Rattle.script.specs.Script.{call_bytes, laid_region}
use Rattle.script.specs.declared.reading.ScriptLine.{ScriptLine}
use Rattle.script.specs.declared.reading.What.{What}
use Rattle.script.specs.declared.reading.What.TheVariants.{Put, Take, TakeList, Permit, Turn}
use Rattle.figures.specs.Scripts.{Script}

-- a turn that was served: whose it was, the place where the thread stood before it, and its plan: the effect, the thread's record
-- afterwards, and the answer
pub record TurnMade : Type 0 where
  pub thread : ℕ
  pub place : Place
  pub plan : Plan

-- the turn of thread t on the region b, c its choice
unfoldable pub turn_made : List ℕ → ℕ → ℕ → TurnMade
turn_made b t c =
    record { thread = t; place = (thread_in (frame_in b) b t).place; plan = turn_plan (frame_in b) b t c }

-- the turn that a line makes on the region b, if it makes one
abbrev pub turn_by : List ℕ → What → ℕ → List TurnMade
turn_by b (Put i) t = []
turn_by b Take t = []
turn_by b TakeList t = []
turn_by b (Permit p) t = []
turn_by b (Turn c) t = turn_made b t c ∷ []

-- the turns of these lines, the first of which is made on the region b
unfoldable pub turns_of : List ScriptLine → List ℕ → List TurnMade
unfolding turn_made
turns_of [] b = []
turns_of (l ∷ ls) b = turn_by b l.what l.thread ++ turns_of ls (call_bytes b l.what l.thread)

-- those of a script, and of many
unfoldable pub turns_in : Script → List TurnMade
unfolding turns_of
turns_in x = turns_of x.lines (laid_region x.setup)

unfoldable pub all_turns : List Script → List TurnMade
unfolding turns_in
all_turns [] = []
all_turns (x ∷ xs) = turns_in x ++ all_turns xs
