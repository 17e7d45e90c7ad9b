-- The records of a native build (document 02, request 9): "records of seven words: kind, thread, begin time, answer time, claimed position, key,
-- tag", and the refusal of those that are not in range.
use Rattle.std.specs.Prelude.{ℕ, zero, suc, ◌*◌, ◌/◌, ◌%◌, Bool, true, false, ◌&&◌, ◌||◌, List, leb, eqb, length, get_or}
use Rattle.words.specs.Word.{words_at}
use Rattle.region.specs.Pick.{pick}
use Rattle.region.specs.Record.{is_item, item_of, same_item, zero_item}
use Rattle.region.specs.Shape.{between}
use Rattle.records.specs.declared.form.Recorded.{Recorded}

-- every number below n passes the test; some number below n does
unfoldable pub every : ℕ → (ℕ → Bool) → Bool
every zero test = true
every (suc n) test = every n test && test n

unfoldable pub some : ℕ → (ℕ → Bool) → Bool
some zero test = false
some (suc n) test = some n test || test n

-- "kind, thread, begin time, answer time, claimed position, key, tag"
abbrev pub recorded_of : List ℕ → Recorded
recorded_of ws =
    record {
      kind = get_or ws 0 0;
      thread = get_or ws 1 0;
      begin = get_or ws 2 0;
      answer = get_or ws 3 0;
      position = get_or ws 4 0;
      item = item_of ws 5;
    }

-- record k of the bytes b, from 0
unfoldable pub recorded_at : List ℕ → ℕ → Recorded
recorded_at b k = recorded_of (words_at b (7 * k) 7)

-- the whole records of the bytes b, of 28 bytes each
abbrev pub record_count : List ℕ → ℕ
record_count b = length b / 28

-- "Kinds are put 1, take 2 and empty 3"
abbrev pub is_put : Recorded → Bool
is_put r = eqb r.kind 1

abbrev pub is_take : Recorded → Bool
is_take r = eqb r.kind 2

abbrev pub is_empty : Recorded → Bool
is_empty r = eqb r.kind 3

-- "a kind, thread (1..64), key or tag out of range (for empty, not 0)". Times and positions are free.
unfoldable pub in_range : Recorded → Bool
in_range r =
    between 1 r.kind 3 && between 1 r.thread 64 && pick (is_empty r) (same_item r.item zero_item) (is_item r.item)

-- the first n records are in range
unfoldable pub all_in_range : List ℕ → ℕ → Bool
unfolding every in_range recorded_at
all_in_range b n = every n (λ k. in_range (recorded_at b k))

-- none of "a part of a record or more than 1,024", nor a record out of range
unfoldable pub well_formed : List ℕ → Bool
unfolding all_in_range
well_formed b = eqb (length b % 28) 0 && leb (record_count b) 1024 && all_in_range b (record_count b)
