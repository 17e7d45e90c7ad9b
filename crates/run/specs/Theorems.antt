-- The statement that holds of runs; it is proved in the file of `proofs/` with its name.
use Rattle.std.specs.Prelude.{ℕ, ◌≤◌, ◌≡◌, true, false, List, Err, length}
use Rattle.words.specs.Word.{word, set_words}
use Rattle.region.specs.Answer.{answer_words}
use Rattle.region.specs.Refusal.{done}
use Rattle.region.specs.declared.answer.Answer.TheVariants.{Refused}
use Rattle.region.specs.declared.refusal.Refusal.{Refusal}
use Rattle.region.specs.declared.refusal.Refusal.TheVariants.{Unreadable}
use Rattle.access.specs.Plan.{accesses_of}
use Rattle.readable.specs.Readable.{readable}
use Rattle.run.specs.Run.{run_check, run_refusal, run_result, so_far}
use Rattle.machine.specs.Turn.{turn_on_answer, turn_on_bytes}

-- what a run of the schedule s makes of the region b and the answers a is the turn of thread t with choice c by itself
pub record IsTurn (b s : List ℕ) (limit : ℕ) (a : List ℕ) (t c : ℕ) : Type 0 where
  -- the region afterwards, refused or not
  pub region : (run_result b s limit a).region ≡ turn_on_bytes b t c
  -- the answer is stored and its access counted
  pub accepted : readable b ≡ true → run_refusal b s (length a) ≡ done
  pub served : readable b ≡ true → run_result b s limit a
      ≡ so_far (turn_on_bytes b t c) (set_words a 0 (answer_words (turn_on_answer b t c))) 1 (accesses_of (turn_on_answer b t c))
  -- the run's refusal is the turn's answer
  pub refused : (r : Refusal) → readable b ≡ false → run_check b s (length a) ≡ Err r → turn_on_answer b t c ≡ Refused r
  pub unreadable : readable b ≡ false → run_check b s (length a) ≡ Err Unreadable

-- "turn, a run of one" (document 01, The script program)
abbrev pub RunOfOneIsTurn : Type 0
RunOfOneIsTurn =
    (b s : List ℕ) (limit : ℕ) (a : List ℕ) → length s ≡ 8 → 12 ≤ length a → 1 ≤ limit → IsTurn b s limit a (word s 0) (word s 1)
