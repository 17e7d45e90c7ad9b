-- What is proved of records (document 02, request 9; proofs/Theorems.antt).
use Rattle.std.specs.Prelude.{ℕ, ◌≤◌, ◌≡◌, true, List, [], length}
use Rattle.words.specs.Inner.{Bytes}
use Rattle.region.specs.Refusal.{done}
use Rattle.theory.specs.Ledger.{empty_ledger}
use Rattle.records.specs.Accepts.{records_answer}
use Rattle.records.specs.Play.{plays}
use Rattle.records.specs.Recorded.{record_count, recorded_at}
use Rattle.records.specs.declared.form.Recorded.{Recorded}
use Rattle.bag.specs.Moments.{InEveryHistory}
use Rattle.accepted.specs.HistoryRecords.{NoListBegins, history_records}
use Rattle.accepted.specs.LedgerPlay.{FollowsAll, all_told}
use Rattle.accepted.specs.Linearization.{AsClaimed}
use Rattle.accepted.specs.Slices.{HasRecords, TimesFit, written}

-- "the bag of request 2" is the ledger's, which counts copies: the checker's bag gives every answer exactly if the ledger follows every operation
pub record SameBag (rs : List Recorded) : Type 0 where
  pub ledger_follows : plays [] rs ≡ true → FollowsAll empty_ledger (all_told rs)
  pub bag_plays : FollowsAll empty_ledger (all_told rs) → plays [] rs ≡ true

abbrev pub BagIsTheLedgers : Type 0
BagIsTheLedgers = (rs : List Recorded) → SameBag rs

-- what acceptance gives: the recorded operations are linearizable, in the order that they claim
abbrev pub AcceptedIsLinearizable : Type 0
AcceptedIsLinearizable = (b : List ℕ) → records_answer b ≡ done → AsClaimed (record_count b) (recorded_at b)

-- the checker accepts what the machine does: the records of every history without a take of a list, in whatever order they are in the slice
abbrev pub HistoriesAreAccepted : Type 0
HistoriesAreAccepted =
    InEveryHistory λ s permissions b ms. NoListBegins ms → length (history_records ms) ≤ 1024 → (records : List ℕ)
    → HasRecords records (history_records ms) → records_answer records ≡ done

-- and there is such a slice of bytes where the times, which are the moments' numbers, fit a word
abbrev pub HistoriesCanBeWritten : Type 0
HistoriesCanBeWritten =
    InEveryHistory λ s permissions b ms. NoListBegins ms → length (history_records ms) ≤ 1024 → TimesFit (history_records ms)
    → HasRecords (written (history_records ms)) (history_records ms) × Bytes (written (history_records ms))
