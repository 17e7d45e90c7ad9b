-- The machine on regions of both forms (document 02, request 7): the one before the request, whose counters have one word, and the present one. The
-- definitions of places, turns and beginnings know no form: they read and store records through a frame, which says how many words a counter
-- has. Only refusal 11 differs.
use Rattle.std.specs.Prelude.{ℕ, Bool, true, ◌&&◌, List, [], ◌∷◌, leb}
use Rattle.region.specs.declared.refusal.Refusal.TheVariants.{CounterSpent}
use Rattle.region.specs.Pick.{pick}
use Rattle.region.specs.Record.{counter_of, counter_size, old_counter_size}
use Rattle.region.specs.declared.frame.Frame.{Frame}
use Rattle.region.specs.declared.record.Node.{Node}
use Rattle.access.specs.Plan.{refused}
use Rattle.access.specs.declared.effect.Effect.{Effect}
use Rattle.access.specs.declared.effect.Effect.TheVariants.{Nothing, Grow, Push, Pop, Exchange, Clean, Detach, Free}
use Rattle.access.specs.declared.plan.Plan.{Plan}
use Rattle.machine.specs.Turn.{turn_plan}

-- the nodes that an effect stores, their counters counted up
abbrev pub nodes_stored : Effect → List Node
nodes_stored Nothing = []
nodes_stored (Grow d) = []
nodes_stored (Push n v c x) = v ∷ []
nodes_stored (Pop v c) = v ∷ []
nodes_stored (Exchange n v k x) = v ∷ x ∷ []
nodes_stored (Clean n v) = v ∷ []
nodes_stored (Detach v) = v ∷ []
nodes_stored (Free c) = []

-- the last value of a counter of one word
abbrev pub old_greatest_counter : ℕ
old_greatest_counter = 4294967295

unfoldable pub old_counters_fit : List Node → Bool
old_counters_fit [] = true
old_counters_fit (v ∷ vs) = leb (counter_of v) old_greatest_counter && old_counters_fit vs

-- "11: an update whose comparison holds meets a counter of 4,294,967,295 in a node it would change" (document 01): the update would store a
-- greater one. An effect stores only nodes that the comparison found equal to their copies, each with its counter one more, so a stored counter is
-- above the last exactly where the one met was the last.
unfoldable pub capped : Plan → Plan
unfolding old_counters_fit
capped p = pick (old_counters_fit (nodes_stored p.effect)) p (refused p.thread CounterSpent)

-- a form: how many words a counter has, and the plan of a turn of thread t with choice c on the bytes b
pub record Form : Type 0 where
  pub width : ℕ
  pub plan : Frame → List ℕ → ℕ → ℕ → Plan

abbrev pub old_form : Form
old_form = record { width = old_counter_size; plan = λ f b t c. capped (turn_plan f b t c) }

abbrev pub new_form : Form
new_form = record { width = counter_size; plan = turn_plan }
