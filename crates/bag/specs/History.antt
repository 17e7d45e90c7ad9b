-- The history of a list of calls: a moment for each call and for each served turn of a run, with what happened and the region after it.
-- "The machine of demand 2 gives these from the layout and the calls alone."
use Rattle.std.specs.Prelude.{ℕ, ◌/◌, List, [], ◌∷◌, ◌++◌, eqb, length}
use Rattle.region.specs.Refusal.{done}
use Rattle.region.specs.Pick.{pick}
use Rattle.region.specs.Shared.{shared_in, thread_in}
use Rattle.region.specs.declared.answer.Answer.{Answer}
use Rattle.region.specs.declared.frame.Frame.{Frame}
use Rattle.region.specs.declared.place.Place.{Place}
use Rattle.region.specs.declared.record.Item.{Item}
use Rattle.readable.specs.Readable.{frame_in}
use Rattle.run.specs.Run.{Served, Turn, run_refusal, serve, so_far, turns_from}
use Rattle.machine.specs.Turn.{turn_answer, turn_bytes}
use Rattle.theory.specs.Tree.{items_of, list_from}
use Rattle.bag.specs.Calls.{Call, layout, convert, put, take, list, permit, run, check, refusal_of, after}

-- a served turn: its thread, the place where that stood and where it stands afterwards, the answer, and the item of the root's head cell and
-- the items of the root's list just before
pub record ServedTurn : Type 0 where
  pub thread : ℕ
  pub from : Place
  pub to : Place
  pub answer : Answer
  pub root : Item
  pub list : List Item

-- a call with what it answers, or a served turn
pub data Event : Type 0 where
  called : Call → ℕ → Event
  turned : ServedTurn → Event

pub record Moment : Type 0 where
  pub event : Event
  -- the region afterwards
  pub region : List ℕ

-- "the key and tag of the root's head cell"
abbrev pub root_item : Frame → List ℕ → Item
root_item f b = ((shared_in f b).cell ((shared_in f b).node 1).first).item

-- the items of the root's list, from its head by next cells, at most C of them
abbrev pub root_items : Frame → List ℕ → List Item
root_items f b = items_of (list_from (shared_in f b).cell f.shape.cells ((shared_in f b).node 1).first)

-- a turn served on the region b
unfoldable pub served_on : Frame → List ℕ → Turn → ServedTurn
served_on f b t =
    record {
      thread = t.thread;
      from = (thread_in f b t.thread).place;
      to = (thread_in f (turn_bytes f b t.thread t.choice) t.thread).place;
      answer = turn_answer f b t.thread t.choice;
      root = root_item f b;
      list = root_items f b;
    }

-- the moments of the turns that are served until accesses made equal the limit
unfoldable pub turn_moments : Frame → ℕ → List Turn → Served → List Moment
unfolding served_on
turn_moments f limit [] r = []
turn_moments f limit (t ∷ ts) r =
    pick
    (eqb r.accesses limit)
    []
    (record { event = turned (served_on f r.region t); region = (serve f t r).region } ∷ turn_moments f limit ts (serve f t r))

-- the moments of the turns that a call serves: those of a run that is not refused
unfoldable pub served_moments : List ℕ → Call → List Moment
unfolding turn_moments
served_moments b (layout s permissions) = []
served_moments b (convert old) = []
served_moments b (put t i) = []
served_moments b (take t) = []
served_moments b (list t) = []
served_moments b (permit t p) = []
served_moments b (run schedule limit answers) =
    pick
    (eqb (run_refusal b schedule (length answers)) done)
    (turn_moments (frame_in b) limit (turns_from schedule 0 (length schedule / 8)) (so_far b answers 0 0))
    []
served_moments b check = []

-- the moments of a call: the turns that it serves, then the call itself
unfoldable pub call_moments : List ℕ → Call → List Moment
unfolding served_moments
call_moments b c = served_moments b c ++ (record { event = called c (refusal_of b c); region = after b c } ∷ [])

unfoldable pub history : List ℕ → List Call → List Moment
unfolding call_moments
history b [] = []
history b (c ∷ cs) = call_moments b c ++ history (after b c) cs
