-- The old machine at work: what turns of thread 1 answer on old regions, which are those of the conversions' cases, computed.
use Rattle.std.specs.Prelude.{ℕ, ◌*◌, ◌≡◌, List, [], ◌∷◌, length, replicate}
use Rattle.words.specs.Word.{set_words}
use Rattle.region.specs.declared.refusal.Refusal.TheVariants.{CounterSpent}
use Rattle.region.specs.declared.answer.Answer.TheVariants.{Moved, Inserted, Took, Refused}
use Rattle.cases.specs.Conversions.{put_at_i6, take_at_e2, old_form as one_word}
use Rattle.cases.specs.Row.{item, schedule}
use Rattle.converted.specs.Forms.{old_form}
use Rattle.converted.specs.Replies.{Reply, turned, turns_of}

-- the replies of n turns of thread 1 on the region of these words
abbrev turns_on : List ℕ → ℕ → List Reply
turns_on ws n = turns_of old_form (set_words (replicate (4 * length ws) 0) 0 ws) (schedule (replicate n 1)) 1000 (replicate (12 * n) 0)

pub record OldMachineAnswers : Type 0 where
  -- a take at E2 with 5 at the root: E2, M1, M2, M6
  pub takes : turns_on (take_at_e2 one_word) 4 ≡ turned Moved ∷ turned Moved ∷ turned Moved ∷ turned (Took (item 5)) ∷ []
  -- a put at I6 whose update makes the root's counter 4,294,967,295, its last value
  pub inserts : turns_on (put_at_i6 4294967294 one_word) 1 ≡ turned Inserted ∷ []
  -- one that meets that value is refused 11, and again at its next turn
  pub refuses : turns_on (put_at_i6 4294967295 one_word) 2 ≡ turned (Refused CounterSpent) ∷ turned (Refused CounterSpent) ∷ []
