-- Cases of request 9, "Check records from the multi-core build": the rows. A record is kind, thread, begin, answer, position, key, tag.
use Rattle.std.specs.Prelude.{ℕ, ◌*◌, List, [], ◌∷◌, ◌++◌, length}
use Rattle.region.specs.Refusal.{done}
use Rattle.region.specs.declared.refusal.Refusal.TheVariants.{BadRecords}
use Rattle.records.specs.Accepts.{rejected}
use Rattle.cases.specs.Row.{Does, Row, Says, answered, both, calls_row, checks_records, refused}

-- "Kinds are put 1, take 2 and empty 3": by a thread, from a time to a time, at a position
abbrev put : ℕ → ℕ → ℕ → ℕ → ℕ → ℕ → List ℕ
put t begin answer position key tag = 1 ∷ t ∷ begin ∷ answer ∷ position ∷ key ∷ tag ∷ []

abbrev take : ℕ → ℕ → ℕ → ℕ → ℕ → ℕ → List ℕ
take t begin answer position key tag = 2 ∷ t ∷ begin ∷ answer ∷ position ∷ key ∷ tag ∷ []

abbrev empty : ℕ → ℕ → ℕ → ℕ → List ℕ
empty t begin answer position = 3 ∷ t ∷ begin ∷ answer ∷ position ∷ 0 ∷ 0 ∷ []

-- whole records
abbrev records : List ℕ → Does
records ws = checks_records (4 * length ws) ws

abbrev judged : List (Does × Says) → Row
judged cs = calls_row both cs 1

-- no record at all; one put; "begin is before answer in each"
abbrev pub one_operation : Row
one_operation =
    judged
    ((records [], answered done)
    ∷ (records (put 1 1 2 1 5 0), answered done)
    ∷ (records (put 1 2 2 1 5 0), answered rejected)
    ∷ [])

-- a put and a take of its item overlap: the put may come first, the take may not
abbrev pub overlapping : Row
overlapping =
    judged
    ((records (put 1 1 4 1 5 0 ++ take 2 2 3 2 5 0), answered done)
    ∷ (records (put 1 1 4 2 5 0 ++ take 2 2 3 1 5 0), answered rejected)
    ∷ [])

-- "an operation answered before another begins has the smaller position": an empty that overlaps a put may come before it, and so may one that
-- begins at the time of its answer; one that begins later may not
abbrev pub real_time : Row
real_time =
    judged
    ((records (put 1 1 4 2 5 0 ++ empty 2 2 3 1), answered done)
    ∷ (records (put 1 1 2 2 5 0 ++ empty 2 2 3 1), answered done)
    ∷ (records (put 1 1 2 2 5 0 ++ empty 2 3 4 1), answered rejected)
    ∷ [])

-- "the bag of request 2": of equal keys the smaller tag first. The records may stand in any order.
abbrev pub smaller_tag_first : Row
smaller_tag_first =
    judged
    ((records (put 1 1 2 1 5 1 ++ put 1 3 4 2 5 0 ++ take 2 5 6 3 5 0), answered done)
    ∷ (records (put 1 1 2 1 5 1 ++ put 1 3 4 2 5 0 ++ take 2 5 6 3 5 1), answered rejected)
    ∷ (records (take 2 5 6 3 5 0 ++ put 1 1 2 1 5 1 ++ put 1 3 4 2 5 0), answered done)
    ∷ [])

-- "of two operations of a thread one is answered before the other begins", "the positions are 1 to n without gap or repeat"
abbrev pub threads_and_positions : Row
threads_and_positions =
    judged
    ((records (put 1 1 3 1 5 0 ++ put 1 4 6 2 5 0), answered done)
    ∷ (records (put 1 1 3 1 5 0 ++ put 1 3 6 2 5 0), answered rejected)
    ∷ (records (put 1 1 3 1 5 0 ++ put 2 2 6 1 5 0), answered rejected)
    ∷ (records (put 1 1 3 1 5 0 ++ put 2 2 6 3 5 0), answered rejected)
    ∷ (records (put 1 1 3 0 5 0 ++ put 2 2 6 1 5 0), answered rejected)
    ∷ [])

-- "12 for a kind, thread (1..64), key or tag out of range (for empty, not 0), a part of a record .. found before any comparison"
abbrev pub out_of_range : Row
out_of_range =
    judged
    ((checks_records 27 (put 1 1 2 1 5 0), refused BadRecords)
    ∷ (checks_records 29 (put 1 1 2 1 5 0), refused BadRecords)
    ∷ (records (0 ∷ 1 ∷ 1 ∷ 2 ∷ 1 ∷ 5 ∷ 0 ∷ []), refused BadRecords)
    ∷ (records (4 ∷ 1 ∷ 1 ∷ 2 ∷ 1 ∷ 5 ∷ 0 ∷ []), refused BadRecords)
    ∷ (records (put 0 1 2 1 5 0), refused BadRecords)
    ∷ (records (put 64 1 2 1 5 0), answered done)
    ∷ (records (put 65 1 2 1 5 0), refused BadRecords)
    ∷ (records (put 1 1 2 1 4294967294 65535), answered done)
    ∷ (records (put 1 1 2 1 4294967295 0), refused BadRecords)
    ∷ (records (put 1 2 1 7 5 65536), refused BadRecords)
    ∷ (records (3 ∷ 1 ∷ 1 ∷ 2 ∷ 1 ∷ 1 ∷ 0 ∷ []), refused BadRecords)
    ∷ (records (3 ∷ 1 ∷ 1 ∷ 2 ∷ 1 ∷ 0 ∷ 1 ∷ []), refused BadRecords)
    ∷ [])

abbrev pub cases_of_request9 : List Row
cases_of_request9 =
    one_operation
    ∷ overlapping
    ∷ real_time
    ∷ smaller_tag_first
    ∷ threads_and_positions
    ∷ out_of_range
    ∷ []
