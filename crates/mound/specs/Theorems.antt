-- The statements that hold of the calls together; each is proved in the file of `proofs/` with its name.
use Rattle.std.specs.Prelude.{ℕ, ◌/◌, ◌%◌, ◌≡◌, List, length}
use Rattle.run.specs.Run.{run_refusal, run_result}
use Rattle.cut.specs.Cut.{cut_refusal, cut_script}
use Rattle.mound.specs.Calls.{cut_answer, run_answer}

-- the number that a run answers tells its refusal, its turns served and its accesses made: none runs into another's bits
pub record Tells (n r k m : ℕ) : Type 0 where
  pub refusal : n % 65536 ≡ r
  pub turns : n / 65536 % 65536 ≡ k
  pub accesses : n / 4294967296 ≡ m

abbrev pub RunAnswerTellsAll : Type 0
RunAnswerTellsAll =
    (b schedule : List ℕ) (limit : ℕ) (a : List ℕ)
    → Tells (run_answer b schedule limit a) (run_refusal b schedule (length a)) (run_result b schedule limit a).turns
    (run_result b schedule limit a).accesses

-- so does the number that a cut answers
pub record TellsCut (n refusal written : ℕ) : Type 0 where
  pub refusal_told : n % 4294967296 ≡ refusal
  pub length_told : n / 4294967296 ≡ written

abbrev pub CutAnswerTellsAll : Type 0
CutAnswerTellsAll =
    (s : List ℕ) (n room : ℕ) → TellsCut (cut_answer s n room) (cut_refusal s n room) (length (cut_script s n room))
