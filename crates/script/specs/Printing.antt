-- What a line of the output is: the script line's number, its thread, the answer, key and tag, parted by single spaces, and LF.
use Rattle.std.specs.Prelude.{ℕ, List, [], ◌∷◌, ◌++◌}
use Rattle.region.specs.Answer.{answer_key, answer_tag}
use Rattle.region.specs.declared.answer.Answer.{Answer}
use Rattle.region.specs.declared.answer.Answer.TheVariants.{Moved, Idle, Inserted, Took, Empty, Refused, Withdrawn}
use Rattle.script.specs.Text.{ascii, space, line_end, decimal}
use Rattle.script.specs.declared.printing.Outcome.{Outcome}
use Rattle.script.specs.declared.printing.Outcome.TheVariants.{Begun, Set, Answered, Unreadable}

-- the words of the answers, each with the space behind it
abbrev pub answer_word : Answer → List ℕ
answer_word Moved = ascii "moved "
answer_word Idle = ascii "idle "
answer_word Inserted = ascii "inserted "
answer_word (Took i) = ascii "took "
answer_word Empty = ascii "empty "
answer_word (Refused n) = ascii "refused "
answer_word Withdrawn = ascii "withdrawn "

-- and those of a script's line: a put or take that begins, a permission that is set, a turn's answer, a line that cannot be read
abbrev pub outcome_word : Outcome → List ℕ
outcome_word Begun = ascii "begun "
outcome_word Set = ascii "set "
outcome_word (Answered a) = answer_word a
outcome_word Unreadable = ascii "unreadable "

-- a refusal has its number as key; a line that cannot be read has key and tag 0
abbrev pub outcome_key : Outcome → ℕ
outcome_key Begun = 0
outcome_key Set = 0
outcome_key (Answered a) = answer_key a
outcome_key Unreadable = 0

abbrev pub outcome_tag : Outcome → ℕ
outcome_tag Begun = 0
outcome_tag Set = 0
outcome_tag (Answered a) = answer_tag a
outcome_tag Unreadable = 0

-- a number and the byte behind it
unfoldable pub number_text : ℕ → ℕ → List ℕ
unfolding decimal
number_text n end = decimal n ++ (end ∷ [])

-- answer, key and tag, up to the line's end
unfoldable pub outcome_text : Outcome → List ℕ
unfolding number_text
outcome_text o = outcome_word o ++ (number_text (outcome_key o) space ++ number_text (outcome_tag o) line_end)

unfoldable pub line_text : ℕ → ℕ → Outcome → List ℕ
unfolding number_text outcome_text
line_text line thread o = number_text line space ++ (number_text thread space ++ outcome_text o)
