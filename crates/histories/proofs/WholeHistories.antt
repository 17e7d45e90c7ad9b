-- Three whole histories, computed from the definitions: what the bag is told comes in the order of the deciding accesses and not of the answers.
-- Case J of document 01: "root 5; both take, turns 1,1,2,2,2,2,2,1,1: thread 2 gets empty first, then thread 1 took 5." And a list of two items
-- beside a take: once 18 has emptied the root the take finds nothing, and then the list hands out both. And a put that is withdrawn: the take
-- behind it finds nothing. Of case J also the records that a recorder would write. Assumes nothing.
use Prim.Native.Nat.{ℕ, ◌*◌}
use mathlib.Core.Path.{◌≡◌, refl}
use mathlib.Core.List.{List, [], ◌∷◌, ◌++◌}
use lib.ListN.{length, replicate}
use Rattle.region.specs.Refusal.{done}
use Rattle.region.specs.Record.{zero_item}
use Rattle.region.specs.declared.record.Item.{Item}
use Rattle.layout.specs.Layout.{layout_bytes}
use Rattle.cases.specs.Row.{schedule}
use Rattle.computes.proofs.Computes.{computes}
use Rattle.theory.specs.Told.{Told, nothing, begins_put, begins_take, begins_list, decides_put, decides_take, decides_list, decides_empty, answers_took, withdraws}
use Rattle.theory.specs.Tree.{items_of, list_from}
use Rattle.bag.specs.Calls.{Call, put, take, list, permit, run, after, refusal_of}
use Rattle.bag.specs.History.{Moment, served_on, turn_moments, served_moments, call_moments, history}
use Rattle.bag.specs.Told.{tells}
use Rattle.records.specs.Accepts.{records_answer}
use Rattle.records.specs.declared.form.Recorded.{Recorded}
use Rattle.accepted.specs.HistoryRecords.{history_records, records_from, until_answer}
use Rattle.accepted.specs.Slices.{all_words, written}

-- a run of these threads' turns, with an answer slice for it
abbrev runs : List ℕ → Call
runs ts = run (schedule ts) 1000 (replicate (12 * length ts) 0)

pub five : Item
five = record { key = 5; tag = 9 }

-- "Shape D 2, C 2, T 2, H 1, permissions 3"
pub laid : List ℕ
laid = layout_bytes (record { depth = 2; cells = 2; threads = 2; threshold = 1 }) (3 ∷ 3 ∷ []) (replicate 384 0)

-- case J
pub calls : List Call
unfolding five
calls = put 1 five ∷ runs (1 ∷ 1 ∷ 1 ∷ 1 ∷ []) ∷ take 1 ∷ take 2 ∷ runs (1 ∷ 1 ∷ 2 ∷ 2 ∷ 2 ∷ 2 ∷ 2 ∷ 1 ∷ 1 ∷ []) ∷ []

-- what is told, in order
pub some : Told → List Told
some nothing = []
some (begins_put t i) = begins_put t i ∷ []
some (begins_take t) = begins_take t ∷ []
some (begins_list t) = begins_list t ∷ []
some (decides_put t) = decides_put t ∷ []
some (decides_take t i) = decides_take t i ∷ []
some (decides_list t is) = decides_list t is ∷ []
some (decides_empty t) = decides_empty t ∷ []
some (answers_took t i) = answers_took t i ∷ []
some (withdraws t) = withdraws t ∷ []

pub told : List Moment → List Told
unfolding some
told [] = []
told (m ∷ ms) = some (tells m.event) ++ told ms

pub case_J : told (history laid calls)
    ≡ begins_put 1 five ∷ decides_put 1 ∷ begins_take 1 ∷ begins_take 2 ∷ decides_take 1 five ∷ decides_empty 2 ∷ answers_took 1 five ∷ []
unfolding told laid calls five computes after refusal_of served_on turn_moments served_moments call_moments history
case_J = refl

-- its records, and that they are accepted: the take of thread 1 decides before the empty of thread 2, which begins and is answered meanwhile
pub records_of_J : List Recorded
unfolding five
records_of_J =
    record { kind = 1; thread = 1; begin = 1; answer = 5; position = 1; item = five }
    ∷ record { kind = 2; thread = 1; begin = 7; answer = 17; position = 2; item = five }
    ∷ record { kind = 3; thread = 2; begin = 8; answer = 15; position = 3; item = zero_item }
    ∷ []

pub case_J_recorded : history_records (history laid calls) ≡ records_of_J
unfolding records_of_J laid calls five computes after refusal_of served_on turn_moments served_moments call_moments history records_from until_answer
case_J_recorded = refl

pub case_J_accepted : records_answer (written records_of_J) ≡ done
unfolding records_of_J five computes all_words
case_J_accepted = refl

-- a list of two items
pub seven : Item
seven = record { key = 7; tag = 2 }

pub list_calls : List Call
unfolding five seven
list_calls =
    put 1 seven
    ∷ runs (1 ∷ 1 ∷ 1 ∷ 1 ∷ [])
    ∷ put 1 five
    ∷ runs (1 ∷ 1 ∷ 1 ∷ 1 ∷ [])
    ∷ list 1
    ∷ take 2
    ∷ runs (1 ∷ 1 ∷ 2 ∷ 2 ∷ 2 ∷ 2 ∷ 2 ∷ 1 ∷ 1 ∷ 1 ∷ 1 ∷ [])
    ∷ []

pub case_list : told (history laid list_calls)
    ≡ begins_put 1 seven ∷ decides_put 1 ∷ begins_put 1 five ∷ decides_put 1 ∷ begins_list 1 ∷ begins_take 2 ∷ decides_list 1 (five ∷ seven ∷ [])
    ∷ decides_empty 2 ∷ answers_took 1 five ∷ answers_took 1 seven ∷ []
unfolding told laid list_calls five seven computes after refusal_of served_on turn_moments served_moments call_moments history list_from items_of
case_list = refl

-- a put whose permission goes after its first turn
pub withdrawn_calls : List Call
unfolding five
withdrawn_calls = put 1 five ∷ runs (1 ∷ []) ∷ permit 1 2 ∷ runs (1 ∷ []) ∷ take 1 ∷ runs (1 ∷ []) ∷ []

pub case_withdrawn : told (history laid withdrawn_calls) ≡ begins_put 1 five ∷ withdraws 1 ∷ begins_take 1 ∷ decides_empty 1 ∷ []
unfolding told laid withdrawn_calls five computes after refusal_of served_on turn_moments served_moments call_moments history
case_withdrawn = refl
