-- Cases of request 7, "Counters of 64 bits": the rows, on D 2, C 2, T 2, H 1, permissions 3. The root is words 6 to 9, the last two its counter,
-- "low first". A put at depth 1 whose item goes to the root has four accesses: I1 reads the depth, I2 and I5 read the root, I6 changes it. The
-- converter's rows are in Conversions.antt.
use Rattle.std.specs.Prelude.{ℕ, List, [], ◌∷◌, ◌++◌, replicate}
use Rattle.region.specs.Refusal.{done}
use Rattle.region.specs.declared.refusal.Refusal.TheVariants.{CounterSpent}
use Rattle.region.specs.declared.answer.Answer.TheVariants.{Moved, Inserted, Took, Refused}
use Rattle.cases.specs.Row.{Does, puts, takes, turns, shows, writes, Says, answered, shown, Row, item, serves, turns_to, inserting, taking}
use Rattle.cases.specs.Conversions.{conversions, greatest, root, row}

-- the root's counter is written, low and high; the region is readable with it
abbrev counter_written : ℕ → ℕ → Does × Says
counter_written low high = (writes 8 (low ∷ high ∷ []), answered done)

-- A counter of 4,294,967,295 goes on. After I1, I2 and I5 thread 1's first copy, words 39 to 45, has the counter's two words; the root is empty,
-- so the copy of its head is 0. I6 inserts 5, and the low word carries: 0 and 1. Then a take: E1 reads the root, E2 changes it, M1 reads it, M2
-- reads the depth, M6 changes the root. E2 and M6 each add 1 to the low word.
abbrev pub carried : Row
carried =
    row
    (counter_written greatest 0
    ∷ (puts 1 5, answered done)
    ∷ turns_to 1 3 Moved
    ++ (shows 39 7, shown (0 ∷ 0 ∷ greatest ∷ 0 ∷ 0 ∷ 0 ∷ 0 ∷ []))
    ∷ turns_to 1 1 Inserted
    ++ root 1 0 0 1
    ∷ taking 5 (Took (item 5))
    ++ root 0 0 2 1
    ∷ [])

-- "Refusal 11 now stands at 2^64 − 1", and not at 2^64 − 2: I1, I2, I5, I6, and 5 is inserted, which makes the counter 2^64 − 1. Then 3 comes, to
-- go before 5: I1, I2, I5, and I6 is refused 11; the root stays as it was.
abbrev pub last_update : Row
last_update =
    row
    (counter_written 4294967294 greatest
    ∷ inserting (item 5) 4
    ++ root 1 0 greatest greatest
    ∷ (puts 1 3, answered done)
    ∷ turns_to 1 4 (Refused CounterSpent)
    ++ root 1 0 greatest greatest
    ∷ [])

-- At 2^64 − 1 the put of 5 comes to I6 with its fourth turn and is refused 11; it keeps its place, and its next turn is refused again. Then both
-- words of the counter are written back to 0. The copy still has 2^64 − 1, so I6 fails; I1, I2, I5, I6, and 5 is inserted.
abbrev pub goes_on_after_refusal : Row
goes_on_after_refusal =
    row
    (counter_written greatest greatest
    ∷ (puts 1 5, answered done)
    ∷ turns_to 1 4 (Refused CounterSpent)
    ++ turns_to 1 1 (Refused CounterSpent)
    ++ root 0 0 greatest greatest
    ∷ counter_written 0 0
    ∷ turns_to 1 5 Inserted
    ++ root 1 0 1 0
    ∷ [])

-- A carry met by a comparison. Thread 1's put of 5, with cell 1, and thread 2's put of 3, with cell 2, have both read the empty root with the
-- counter 4,294,967,295 when thread 2's I6 comes: 3 is inserted, and the counter's words are 0 and 1. Thread 2 takes 3 again: E1, E2, M1, M2, M6.
-- The root is then empty and clean, as thread 1 has read it, and its counter alone is another: thread 1's I6 fails. I1, I2, I5, I6, and 5 is
-- inserted.
abbrev pub carry_compared : Row
carry_compared =
    row
    (counter_written greatest 0
    ∷ (puts 1 5, answered done)
    ∷ (puts 2 3, answered done)
    ∷ (turns (1 ∷ 1 ∷ 1 ∷ 2 ∷ 2 ∷ 2 ∷ 2 ∷ []), serves (replicate 6 Moved ++ Inserted ∷ []))
    ∷ root 2 0 0 1
    ∷ (takes 2, answered done)
    ∷ turns_to 2 5 (Took (item 3))
    ++ root 0 0 2 1
    ∷ turns_to 1 1 Moved
    ++ root 0 0 2 1
    ∷ turns_to 1 4 Inserted
    ++ root 1 0 3 1
    ∷ [])

-- A comparison takes the high word too. The put of 5 has read the empty root with the words 4,294,967,295 and 0 when 1 is written as the high
-- word, as 2^32 updates later: the root is empty and clean, and the low word is the one that was read. I6 fails; I1, I2, I5, I6, 5 is inserted,
-- and the low word carries.
abbrev pub high_word_compared : Row
high_word_compared =
    row
    (counter_written greatest 0
    ∷ (puts 1 5, answered done)
    ∷ turns_to 1 3 Moved
    ++ counter_written greatest 1
    ∷ turns_to 1 1 Moved
    ++ root 0 0 greatest 1
    ∷ turns_to 1 4 Inserted
    ++ root 1 0 0 2
    ∷ [])

abbrev pub cases_of_request7 : List Row
cases_of_request7 =
    carried
    ∷ last_update
    ∷ goes_on_after_refusal
    ∷ carry_compared
    ∷ high_word_compared
    ∷ conversions
