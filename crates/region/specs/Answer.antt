-- The number and values of each answer: moved 0, idle 1, inserted 2, took 3 with key and tag, empty 4, refused 5 with its number as key,
-- withdrawn 6; unused words are 0.
use Rattle.std.specs.Prelude.{ℕ, List, [], ◌∷◌}
use Rattle.region.specs.Refusal.{number_of}
use Rattle.region.specs.declared.answer.Answer.{Answer}
use Rattle.region.specs.declared.answer.Answer.TheVariants.{Moved, Idle, Inserted, Took, Empty, Refused, Withdrawn}

abbrev pub answer_code : Answer → ℕ
answer_code Moved = 0
answer_code Idle = 1
answer_code Inserted = 2
answer_code (Took i) = 3
answer_code Empty = 4
answer_code (Refused r) = 5
answer_code Withdrawn = 6

abbrev pub answer_key : Answer → ℕ
answer_key Moved = 0
answer_key Idle = 0
answer_key Inserted = 0
answer_key (Took i) = i.key
answer_key Empty = 0
answer_key (Refused r) = number_of r
answer_key Withdrawn = 0

abbrev pub answer_tag : Answer → ℕ
answer_tag Moved = 0
answer_tag Idle = 0
answer_tag Inserted = 0
answer_tag (Took i) = i.tag
answer_tag Empty = 0
answer_tag (Refused r) = 0
answer_tag Withdrawn = 0

-- "answers of three words (code, key, tag)"
abbrev pub answer_words : Answer → List ℕ
answer_words a = answer_code a ∷ answer_key a ∷ answer_tag a ∷ []
