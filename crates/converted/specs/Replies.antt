-- The calls on a region of either form but layout, and all that they reply: each call's answer, each served turn's, each run's totals and answer
-- slice. With counters of two words they are the exported calls: `NewFormIsExported` in Theorems.antt.
use Rattle.std.specs.Prelude.{ℕ, ◌+◌, ◌*◌, ◌/◌, eqb, length}
use mathlib.Core.List.{List, [], ◌∷◌, ◌++◌}
use Rattle.words.specs.Word.{set_words}
use Rattle.region.specs.Answer.{answer_words}
use Rattle.region.specs.Refusal.{code_of, done, granted, ◌unless◌otherwise◌}
use Rattle.region.specs.declared.refusal.Refusal.TheVariants.{Unreadable}
use Rattle.region.specs.Frame.{frame_of_width}
use Rattle.region.specs.Pick.{pick}
use Rattle.region.specs.Shared.{set_permission_in}
use Rattle.region.specs.declared.answer.Answer.{Answer}
use Rattle.region.specs.declared.frame.Frame.{Frame}
use Rattle.region.specs.declared.place.Place.TheVariants.{ReadRoot, ListReadRoot}
use Rattle.region.specs.declared.record.Item.{Item}
use Rattle.access.specs.Plan.{accesses_of}
use Rattle.readable.specs.Readable.{readable_of_width, shape_in}
use Rattle.permission.specs.Permit.{permit_check_in}
use Rattle.begin.specs.Begin.{accepted_put, accepted_take, put_check_in, take_check_in}
use Rattle.machine.specs.Turn.{carried_out}
use Rattle.run.specs.Run.{Served, Turn, schedule_check, schedule_refusal, so_far, turns_from}
use Rattle.converted.specs.Forms.{Form}

-- "calls without a layout"; a run has a schedule, a limit and a slice for its answers
pub data QueueCall : Type 0 where
  put : ℕ → Item → QueueCall
  take : ℕ → QueueCall
  list : ℕ → QueueCall
  permit : ℕ → ℕ → QueueCall
  run : List ℕ → ℕ → List ℕ → QueueCall
  check : QueueCall

-- what is replied: the answer of a served turn; the answer of a call; and of a run its answer, the turns served, the accesses made, and the slice of
-- answers afterwards
pub data Reply : Type 0 where
  turned : Answer → Reply
  answered : ℕ → Reply
  ran : ℕ → ℕ → ℕ → List ℕ → Reply

module _ (z : Form) where
  -- one turn more of a run, as in `serve` of a run
  unfoldable pub serve_by : Frame → Turn → Served → Served
  serve_by f t r =
      record {
        region = carried_out f r.region t.thread (z.plan f r.region t.thread t.choice);
        answers = set_words r.answers (3 * r.turns) (answer_words (z.plan f r.region t.thread t.choice).answer);
        turns = r.turns + 1;
        accesses = r.accesses + accesses_of (z.plan f r.region t.thread t.choice).answer;
      }

  -- "served in order until the list ends or accesses made equal the limit": where that leads, and the answer of each
  unfoldable pub serve_all_by : Frame → ℕ → List Turn → Served → Served
  unfolding serve_by
  serve_all_by f limit [] r = r
  serve_all_by f limit (t ∷ ts) r = pick (eqb r.accesses limit) r (serve_all_by f limit ts (serve_by f t r))

  unfoldable pub turns_replied : Frame → ℕ → List Turn → Served → List Reply
  unfolding serve_by
  turns_replied f limit [] r = []
  turns_replied f limit (t ∷ ts) r =
      pick
      (eqb r.accesses limit)
      []
      (turned (z.plan f r.region t.thread t.choice).answer ∷ turns_replied f limit ts (serve_by f t r))

  abbrev pub frame_by : List ℕ → Frame
  frame_by b = frame_of_width z.width (shape_in b)

  -- what a call answers: done, or its refusal, the first that applies
  unfoldable pub refusal_by : List ℕ → QueueCall → ℕ
  refusal_by b (put t i) = code_of (Unreadable unless readable_of_width z.width b otherwise put_check_in (frame_by b) b t i)
  refusal_by b (take t) = code_of (Unreadable unless readable_of_width z.width b otherwise take_check_in (frame_by b) b t)
  refusal_by b (list t) = code_of (Unreadable unless readable_of_width z.width b otherwise take_check_in (frame_by b) b t)
  refusal_by b (permit t p) = code_of (Unreadable unless readable_of_width z.width b otherwise permit_check_in (frame_by b) t p)
  refusal_by b (run schedule limit a) = code_of (Unreadable unless readable_of_width z.width b otherwise schedule_check schedule (length a))
  refusal_by b check = code_of (Unreadable unless readable_of_width z.width b otherwise granted)

  -- a run that is not refused serves its turns, one that is refused none
  unfoldable pub served_by : List ℕ → List ℕ → ℕ → List ℕ → Served
  unfolding serve_all_by refusal_by
  served_by b schedule limit a =
      pick
      (eqb (refusal_by b (run schedule limit a)) done)
      (serve_all_by (frame_by b) limit (turns_from schedule 0 (length schedule / 8)) (so_far b a 0 0))
      (so_far b a 0 0)

  unfoldable pub turns_of : List ℕ → List ℕ → ℕ → List ℕ → List Reply
  unfolding turns_replied refusal_by
  turns_of b schedule limit a =
      pick
      (eqb (refusal_by b (run schedule limit a)) done)
      (turns_replied (frame_by b) limit (turns_from schedule 0 (length schedule / 8)) (so_far b a 0 0))
      []

  -- the region after a call that is not refused
  unfoldable pub accepted_by : List ℕ → QueueCall → List ℕ
  unfolding served_by
  accepted_by b (put t i) = accepted_put (frame_by b) b t i
  accepted_by b (take t) = accepted_take (frame_by b) b t ReadRoot
  accepted_by b (list t) = accepted_take (frame_by b) b t ListReadRoot
  accepted_by b (permit t p) = set_permission_in (frame_by b) b t p
  accepted_by b (run schedule limit a) = (served_by b schedule limit a).region
  accepted_by b check = b

  unfoldable pub after_by : List ℕ → QueueCall → List ℕ
  unfolding refusal_by accepted_by
  after_by b c = pick (eqb (refusal_by b c) done) (accepted_by b c) b

  -- the replies of a call: of a run its turns first
  unfoldable pub replies : List ℕ → QueueCall → List Reply
  unfolding refusal_by served_by turns_of
  replies b (put t i) = answered (refusal_by b (put t i)) ∷ []
  replies b (take t) = answered (refusal_by b (take t)) ∷ []
  replies b (list t) = answered (refusal_by b (list t)) ∷ []
  replies b (permit t p) = answered (refusal_by b (permit t p)) ∷ []
  replies b (run schedule limit a) =
      turns_of b schedule limit a
      ++ ran (refusal_by b (run schedule limit a)) (served_by b schedule limit a).turns (served_by b schedule limit a).accesses
      (served_by b schedule limit a).answers
      ∷ []
  replies b check = answered (refusal_by b check) ∷ []

  -- and of a list of calls, each on the region as the one before left it
  unfoldable pub all_replies : List ℕ → List QueueCall → List Reply
  unfolding replies after_by
  all_replies b [] = []
  all_replies b (c ∷ cs) = replies b c ++ all_replies (after_by b c) cs
