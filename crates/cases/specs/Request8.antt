-- Cases of request 8, "A put that cannot miss the free leaf": the rows, on D 2, C 2, H 1 and permissions 3, unless said. At D 2 the leaves of
-- level D are nodes 2 and 3; an even choice names node 2, an odd one node 3.
use Rattle.std.specs.Prelude.{ℕ, List, [], ◌∷◌, ◌++◌, replicate}
use Rattle.region.specs.Refusal.{done}
use Rattle.region.specs.declared.answer.Answer.TheVariants.{Moved, Inserted, Took}
use Rattle.cases.specs.Row.{Does, puts, takes, turns, shows, writes, Says, answered, shown, Row, item, both, row_of, calls_row, serves, turns_to, turns_choosing, inserting, one_thread}

-- thread 1's d and leaf word: they are words 18 and 19 with D 1 and C 1, 29 and 30 with D 2 and C 2, 48 and 49 with D 3 and C 3
abbrev d_and_leaf : ℕ → ℕ → ℕ → Does × Says
d_and_leaf at d leaf = (shows at 2, shown (d ∷ leaf ∷ []))

-- Two threads. 5 goes to the root. 7 comes: at d 1 it fails there, I4 grows the tree, at d 2 I2 finds node 2 empty, and 7 is inserted there. Thread
-- 1's take of 5 goes on to E2: the root is empty and dirty, one cell is free, and node 2 has an item less than 9.
-- "each failed try at D puts the next leaf .. in the leaf word for the next try, through later visits to I1 too": thread 2 puts 9 with choice 0 at
-- every turn. I1, I2 fails at node 2; I1, I2 reads node 3, which is empty; I3 finds the root empty; I5, I6. These 7 accesses are within 2^2 + 7.
-- Then thread 1 mends: M1 to M5 exchange the root's 9 with node 2's 7, M1, M2 and M6 clean node 2, and the take has 5.
abbrev pub next_leaf : Row
next_leaf =
    calls_row both
    (inserting (item 5) 4
    ++ inserting (item 7) 9
    ++ (takes 1, answered done)
    ∷ turns_to 1 2 Moved
    ++ (puts 2 9, answered done)
    ∷ (
      turns (replicate 7 2 ++ replicate 8 1),
      serves (replicate 6 Moved ++ Inserted ∷ replicate 7 Moved ++ Took (item 5) ∷ []),
    )
    ∷ [])
    2

-- One thread, and this threshold. The words from the depth to the cells are those that 9 met above, with these for nodes 2 and 3: the root is
-- empty and dirty, cell 1 is free, cell 2 has 7. Then 9 comes.
abbrev nine_comes : ℕ → List ℕ → List (Does × Says) → Row
nine_comes h leaves cs =
    row_of (record { depth = 2; cells = 2; threads = 1; threshold = h }) (3 ∷ []) 240 done
    ((writes 4 (2 ∷ 1 ∷ 0 ∷ 1 ∷ 2 ∷ 0 ∷ leaves ++ 0 ∷ 0 ∷ 0 ∷ 7 ∷ 9 ∷ 0 ∷ []), answered done) ∷ (puts 1 9, answered done) ∷ cs)
    2

-- "after the last, the first": 7 is at node 3, and the choice is 1. I1, I2 fails at node 3; I1, I2 reads node 2; I3, I5, I6.
abbrev pub first_after_last : Row
first_after_last =
    nine_comes 1 (0 ∷ 0 ∷ 0 ∷ 0 ∷ 2 ∷ 0 ∷ 1 ∷ 0 ∷ []) (turns_choosing 1 1 2 Moved ++ d_and_leaf 29 2 2 ∷ turns_choosing 1 1 5 Inserted)

-- with H 2 the next try is at I2 itself: 7 is at node 2, and the choice is 0. I1, I2 fails at node 2, I2 reads node 3; I3, I5, I6.
abbrev pub next_try : Row
next_try =
    nine_comes 2 (2 ∷ 0 ∷ 1 ∷ 0 ∷ 0 ∷ 0 ∷ 0 ∷ 0 ∷ []) (turns_to 1 2 Moved ++ d_and_leaf 29 2 3 ∷ turns_to 1 4 Inserted)

-- "the choice counts only at the first try since the put began at which d was D", on two threads. 7 comes with choice 1. Its try at d 1 leaves
-- leaf word 1, which is no leaf of level 2; I4, I1. So choice 1 counts at d 2: I2 reads node 3, which is empty; I3, I5, I7. Thread 2's E1 and E2
-- empty the root, and I8 fails. This was the first try at D: I1, and with choice 0 I2 reads node 3 again; I3 finds the root empty; I5, I6.
abbrev pub counts_once : Row
counts_once =
    calls_row both
    (inserting (item 5) 4
    ++ (puts 1 7, answered done)
    ∷ turns_choosing 1 1 8 Moved
    ++ (takes 2, answered done)
    ∷ (turns (2 ∷ 2 ∷ 1 ∷ 1 ∷ 1 ∷ []), serves (replicate 5 Moved))
    ∷ d_and_leaf 29 2 3
    ∷ turns_to 1 3 Inserted)
    2

-- with d below D the choice counts at every try. D 3, C 3, one thread, H 3; the words are as puts of 5 and 7 leave them: depth 2, the root has 5,
-- node 2 has 7, cell 3 is free. 8 comes. With choice 0, I1, and I2 fails at node 2 twice; the leaf word stays 2. With choice 1, I2 reads node 3,
-- which is empty; I3 reads 5 at the root; I5, I7, I8.
abbrev pub counts_below : Row
counts_below =
    row_of (record { depth = 3; cells = 3; threads = 1; threshold = 3 }) (3 ∷ []) 316 done
    ((
      writes 4 (2 ∷ 3 ∷ 1 ∷ 0 ∷ 1 ∷ 0 ∷ 2 ∷ 0 ∷ 1 ∷ 0 ∷ replicate 20 0 ++ 5 ∷ 9 ∷ 0 ∷ 7 ∷ 9 ∷ 0 ∷ 0 ∷ 0 ∷ 0 ∷ []),
      answered done,
    )
    ∷ (puts 1 8, answered done)
    ∷ turns_to 1 3 Moved
    ++ d_and_leaf 48 2 2
    ∷ turns_choosing 1 1 5 Inserted)
    2

-- D 1, C 1, one thread: the root is the one leaf, whatever the choice. In a region that no calls leave, the put's own cell stands at the root with
-- a lesser key: I1, I2 fails, and the next leaf is the same one. With the root empty again: I1, I2, I5, I6.
abbrev pub one_leaf : Row
one_leaf =
    one_thread 1 1 196
    ((puts 1 6, answered done)
    ∷ (writes 6 (1 ∷ 0 ∷ 0 ∷ 0 ∷ 5 ∷ []), answered done)
    ∷ turns_choosing 7 1 2 Moved
    ++ d_and_leaf 18 1 1
    ∷ (writes 6 (0 ∷ 0 ∷ 0 ∷ 0 ∷ 6 ∷ []), answered done)
    ∷ turns_choosing 7 1 4 Inserted)
    1

abbrev pub cases_of_request8 : List Row
cases_of_request8 =
    next_leaf
    ∷ first_after_last
    ∷ next_try
    ∷ counts_once
    ∷ counts_below
    ∷ one_leaf
    ∷ []
