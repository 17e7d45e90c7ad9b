-- What is claimed of a converted region (document 02, request 7); each statement is proved under its name in proofs/Proved.antt.
use Rattle.std.specs.Prelude.{ℕ, ◌≡◌, List, [], ◌∷◌, length}
use Rattle.region.specs.Refusal.{done}
use Rattle.region.specs.declared.refusal.Refusal.TheVariants.{CounterSpent}
use Rattle.region.specs.declared.answer.Answer.TheVariants.{Refused}
use Rattle.region.specs.declared.record.Item.{Item}
use Rattle.readable.specs.Readable.{frame_in}
use Rattle.run.specs.Run.{run_result}
use Rattle.convert.specs.Convert.{convert_refusal, converted_bytes, old_frame_in}
use Rattle.bag.specs.Calls.{Call, put as put_call, take as take_call, list as list_call, permit as permit_call, run as run_call, check as check_call, refusal_of, after}
use Rattle.bag.specs.Demand3.{in_tree}
use Rattle.bag.specs.History.{Event, called, turned as served_turn, Moment, served_moments}
use Rattle.converted.specs.Forms.{new_form, old_form}
use Rattle.converted.specs.Replies.{QueueCall, put, take, list, permit, run, check, Reply, turned, all_replies, after_by, refusal_by, served_by, turns_of}

-- alike, reply by reply, until a turn of the first machine is refused 11; nothing is said of what follows that
pub data AlikeUntilSpent : List Reply → List Reply → Type 0 where
  both_end : AlikeUntilSpent [] []
  alike : (x : Reply) {xs ys : List Reply} → AlikeUntilSpent xs ys → AlikeUntilSpent (x ∷ xs) (x ∷ ys)
  spent : (xs ys : List Reply) → AlikeUntilSpent (turned (Refused CounterSpent) ∷ xs) ys

-- "Afterwards every sequence of calls without a layout answers as the same machine would on the old region up to the first refusal 11 there": for
-- every old region and new slice that the converter does not refuse, laid out or not
abbrev pub AnswersAsBefore : Type 0
AnswersAsBefore =
    (old new : List ℕ) → convert_refusal old (length new) ≡ done → (calls : List QueueCall)
    → AlikeUntilSpent (all_replies old_form old calls) (all_replies new_form (converted_bytes old new) calls)

-- the calls of the new form are those of histories, and so the exported ones (`CallsAreExported` in crates/bag/specs)
abbrev pub call_of : QueueCall → Call
call_of (put t i) = put_call t i
call_of (take t) = take_call t
call_of (list t) = list_call t
call_of (permit t p) = permit_call t p
call_of (run schedule limit a) = run_call schedule limit a
call_of check = check_call

-- an event of a history, if it is a served turn, before the replies behind it
abbrev pub seen : Event → List Reply → List Reply
seen (called c r) rest = rest
seen (served_turn x) rest = turned x.answer ∷ rest

-- the replies of the turns among these moments
abbrev pub turns_seen : List Moment → List Reply
turns_seen [] = []
turns_seen (m ∷ ms) = seen m.event (turns_seen ms)

pub record NewFormIsExported : Type 0 where
  -- what each call answers and leaves, and what a run serves
  pub answers : (b : List ℕ) (c : QueueCall) → refusal_by new_form b c ≡ refusal_of b (call_of c)
  pub regions : (b : List ℕ) (c : QueueCall) → after_by new_form b c ≡ after b (call_of c)
  pub runs : (b schedule : List ℕ) (limit : ℕ) (a : List ℕ) → served_by new_form b schedule limit a ≡ run_result b schedule limit a
  -- the turns of a run, one by one
  pub turns : (b schedule : List ℕ) (limit : ℕ) (a : List ℕ)
      → turns_of new_form b schedule limit a ≡ turns_seen (served_moments b (run_call schedule limit a))

-- the conversion leaves the bag as it was: the tree holds of each item as many copies as before
abbrev pub TreeHoldsTheSame : Type 0
TreeHoldsTheSame =
    (old new : List ℕ) → convert_refusal old (length new) ≡ done → (i : Item)
    → in_tree (frame_in (converted_bytes old new)) (converted_bytes old new) i ≡ in_tree (old_frame_in old) old i
