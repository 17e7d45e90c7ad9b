-- A run (document 01): "Turns are served in order until the list ends or accesses made equal the limit."
use Rattle.std.specs.Prelude.{ℕ, zero, suc, ◌+◌, ◌*◌, ◌/◌, ◌%◌, ◌&&◌, List, [], ◌∷◌, Result, Ok, leb, eqb, length}
use Rattle.words.specs.Word.{word, set_words}
use Rattle.region.specs.Answer.{answer_words}
use Rattle.region.specs.Refusal.{Checked, granted, code_of, done, ◌unless◌otherwise◌}
use Rattle.region.specs.declared.refusal.Refusal.{Refusal}
use Rattle.region.specs.declared.refusal.Refusal.TheVariants.{ShortAnswers, BadSchedule, Unreadable}
use Rattle.region.specs.Pick.{pick}
use Rattle.region.specs.declared.frame.Frame.{Frame}
use Rattle.access.specs.Plan.{accesses_of}
use Rattle.readable.specs.Readable.{frame_in, readable}
use Rattle.machine.specs.Turn.{turn_answer, turn_bytes}

-- "turns of two words (thread, choice)"
pub record Turn : Type 0 where
  pub thread : ℕ
  pub choice : ℕ

-- turn k of a schedule, and its n turns from turn k on
abbrev pub turn_at : List ℕ → ℕ → Turn
turn_at schedule k = record { thread = word schedule (2 * k); choice = word schedule (2 * k + 1) }

unfoldable pub turns_from : List ℕ → ℕ → ℕ → List Turn
turns_from schedule k zero = []
turns_from schedule k (suc n) = turn_at schedule k ∷ turns_from schedule (suc k) n

-- the region and the answers so far, the turns served and the accesses made
pub record Served : Type 0 where
  pub region : List ℕ
  pub answers : List ℕ
  pub turns : ℕ
  pub accesses : ℕ

abbrev pub so_far : List ℕ → List ℕ → ℕ → ℕ → Served
so_far b a turns accesses = record { region = b; answers = a; turns = turns; accesses = accesses }

-- one turn more; its answer goes behind those of the turns before
unfoldable pub serve : Frame → Turn → Served → Served
serve f t r =
    record {
      region = turn_bytes f r.region t.thread t.choice;
      answers = set_words r.answers (3 * r.turns) (answer_words (turn_answer f r.region t.thread t.choice));
      turns = r.turns + 1;
      accesses = r.accesses + accesses_of (turn_answer f r.region t.thread t.choice);
    }

unfoldable pub serve_all : Frame → ℕ → List Turn → Served → Served
unfolding serve
serve_all f limit [] r = r
serve_all f limit (t ∷ ts) r = pick (eqb r.accesses limit) r (serve_all f limit ts (serve f t r))

-- what a run is refused for: a region that is not readable; a schedule that is not whole turns of 8 bytes, or has over 4,096; less than 12 bytes
-- for the answer of each turn. The last two look at the schedule and at l, the answers' length, alone.
abbrev pub schedule_check : List ℕ → ℕ → Checked
schedule_check schedule l =
    BadSchedule unless eqb (length schedule % 8) 0 && leb (length schedule / 8) 4096
    otherwise ShortAnswers unless leb (12 * (length schedule / 8)) l
    otherwise granted

unfoldable pub schedule_refusal : List ℕ → ℕ → ℕ
schedule_refusal schedule l = code_of (schedule_check schedule l)

abbrev pub run_check : List ℕ → List ℕ → ℕ → Checked
run_check b schedule l = Unreadable unless readable b otherwise schedule_check schedule l

unfoldable pub run_refusal : List ℕ → List ℕ → ℕ → ℕ
unfolding schedule_refusal
run_refusal b schedule l = code_of (run_check b schedule l)

-- all turns of a schedule that is not refused, under a frame
abbrev pub schedule_served : Frame → List ℕ → List ℕ → ℕ → List ℕ → Served
schedule_served f b schedule limit answers = serve_all f limit (turns_from schedule 0 (length schedule / 8)) (so_far b answers 0 0)

-- the whole call: "The result is the turns served, refused and idle ones included, and the accesses made"; a refused one changes nothing.
-- Under a frame, and on a whole region that holds one queue
unfoldable pub run_result_in : Frame → List ℕ → List ℕ → ℕ → List ℕ → Served
unfolding turns_from serve_all schedule_refusal
run_result_in f b schedule limit answers =
    pick (eqb (schedule_refusal schedule (length answers)) done) (schedule_served f b schedule limit answers) (so_far b answers 0 0)

unfoldable pub run_result : List ℕ → List ℕ → ℕ → List ℕ → Served
unfolding turns_from serve_all run_refusal
run_result b schedule limit answers =
    pick
    (eqb (run_refusal b schedule (length answers)) done)
    (schedule_served (frame_in b) b schedule limit answers)
    (so_far b answers 0 0)
