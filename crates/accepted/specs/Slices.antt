-- A slice that has given records, in any order, and one that is written from them.
use Rattle.std.specs.Prelude.{ℕ, ◌*◌, ◌^◌, ◌<◌, ◌≡◌, List, [], ◌∷◌, ◌++◌, length, get_or, replicate}
use Rattle.words.specs.Word.{set_words}
use Rattle.region.specs.Record.{zero_item}
use Rattle.records.specs.Recorded.{recorded_at}
use Rattle.records.specs.declared.form.Recorded.{Recorded}
use Rattle.accepted.specs.Linearization.{Order}

abbrev pub no_record : Recorded
no_record = record { kind = 0; thread = 0; begin = 0; answer = 0; position = 0; item = zero_item }

-- the bytes b are these records, in some order
pub record HasRecords (b : List ℕ) (rs : List Recorded) : Type 0 where
  pub long : length b ≡ 28 * length rs
  pub order : Order (length rs)
  pub each : (k : ℕ) → k < length rs → recorded_at b (order.which k) ≡ get_or rs k no_record

-- the seven words of a record, and those of all records, one record behind the other
abbrev pub record_words : Recorded → List ℕ
record_words r = r.kind ∷ r.thread ∷ r.begin ∷ r.answer ∷ r.position ∷ r.item.key ∷ r.item.tag ∷ []

unfoldable pub all_words : List Recorded → List ℕ
all_words [] = []
all_words (r ∷ rs) = record_words r ++ all_words rs

-- a slice of these words
abbrev pub written : List Recorded → List ℕ
written rs = set_words (replicate (28 * length rs) 0) 0 (all_words rs)

-- the answers' times fit a word, and so do the beginnings', which are before them
abbrev pub TimesFit : List Recorded → Type 0
TimesFit [] = Unit
TimesFit (r ∷ rs) = (r.answer < 2 ^ 32) × TimesFit rs
