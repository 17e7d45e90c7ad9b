-- Cases of request 7's converter: the rows, on D 2, C 2, T 2, H 1, permissions 3.
use Rattle.std.specs.Prelude.{ℕ, List, [], ◌∷◌, ◌++◌, replicate, set, take}
use Rattle.region.specs.Refusal.{done, number_of}
use Rattle.region.specs.declared.refusal.Refusal.TheVariants.{BadShape, BadLength, Unreadable}
use Rattle.region.specs.declared.answer.Answer.TheVariants.{Moved, Idle, Inserted, Took}
use Rattle.cases.specs.Row.{Does, Row, Says, answered, both, calls_row, converts, inserting, item, refused, row_of, shaped, shown, shows, taking, turns_to}

abbrev pub row : List (Does × Says) → Row
row cs = calls_row both cs 1

-- the greatest word
abbrev pub greatest : ℕ
greatest = 4294967295

-- the root: first cell, dirty, and the counter's low and high word
abbrev pub root : ℕ → ℕ → ℕ → ℕ → Does × Says
root first dirty low high = (shows 6 4, shown (first ∷ dirty ∷ low ∷ high ∷ []))

-- A form is how a region writes a counter: in one word before this request, in two with it, "low first". All else is the same in
-- both, so a region is written once, for the form that is given.
abbrev pub Form : Type 0
Form = ℕ → List ℕ

abbrev pub old_form : Form
old_form c = c ∷ []

abbrev pub new_form : Form
new_form c = c ∷ 0 ∷ []

-- a node: first cell, dirty, counter; a copy of it: the same, and the head's key, tag and next cell
abbrev node : Form → ℕ → ℕ → ℕ → List ℕ
node counter first dirty c = first ∷ dirty ∷ counter c

abbrev zero_node : Form → List ℕ
zero_node counter = node counter 0 0 0

abbrev zero_copy : Form → List ℕ
zero_copy counter = zero_node counter ++ 0 ∷ 0 ∷ 0 ∷ []

-- a region from its depth, its first free cell, its nodes, its cells, and of thread 1 the words from the place to the result's tag and the copies;
-- thread 2 is idle. In the old form it has 6 + 9 + 6 + 66 = 87 words, and thread 1's place is word 22; in the new one, 6 + 12 + 6 + 72 = 96.
abbrev region_of : Form → ℕ → ℕ → List ℕ → List ℕ → List ℕ → List ℕ → List ℕ
region_of counter depth free nodes cells fields copies =
    (2 ∷ 2 ∷ 2 ∷ 1 ∷ depth ∷ free ∷ nodes)
    ++ cells
    ++ (3 ∷ fields ++ copies)
    ++ (3 ∷ replicate 14 0 ++ zero_copy counter ++ zero_copy counter ++ zero_copy counter)

-- the same at depth 1, of the root and thread 1's first copy: nodes 2 and 3 and the other copies are all 0
abbrev root_region : Form → ℕ → List ℕ → List ℕ → List ℕ → List ℕ → List ℕ
root_region counter free first cells fields copy =
    region_of counter 1 free (first ++ zero_node counter ++ zero_node counter) cells fields (copy ++ zero_copy counter ++ zero_copy counter)

-- an old region is converted, and all words of the new one are its words in the new form
abbrev converting : (Form → List ℕ) → List (Does × Says)
converting r = (converts (r old_form), answered done) ∷ (shows 0 96, shown (r new_form)) ∷ []

-- 5 is in the root, with cell 1. Thread 1's take has made E1 and stands at E2, place 10: its first copy is the root, with the counter 1
abbrev pub take_at_e2 : Form → List ℕ
take_at_e2 counter =
    root_region counter 2
    (node counter 1 0 1)
    (5 ∷ 9 ∷ 0 ∷ 0 ∷ 0 ∷ 0 ∷ [])
    (10 ∷ replicate 13 0)
    (node counter 1 0 1 ++ 5 ∷ 9 ∷ 0 ∷ [])

-- "operations under way included": converted in the middle of a take. The root's counter 1, and the one in the copy, are now 1 and 0. E2 finds
-- the root as its copy: the root is empty and dirty, with the counter 2, and cell 1 is free again. Then M1 reads the root, M2 the depth, and M6
-- makes the root clean, with the counter 3: took 5.
abbrev pub converted_in_take : Row
converted_in_take =
    row
    (converting take_at_e2
    ++ root 1 0 1 0
    ∷ (shows 39 7, shown (1 ∷ 0 ∷ 1 ∷ 0 ∷ 5 ∷ 9 ∷ 0 ∷ []))
    ∷ turns_to 1 1 Moved
    ++ root 0 1 2 0
    ∷ turns_to 1 3 (Took (item 5))
    ++ root 0 0 3 0
    ∷ [])

-- Depth 2: 5 was in the root, with cell 1, and 7 is in node 2, with cell 2. Thread 1's take has made E1, E2, which freed cell 1, and M1 to M4, and
-- stands at M5, place 15, with d 2, node 1, after 1, the result 5, and copies of nodes 1, 2 and 3, whose counters differ
abbrev take_at_m5 : Form → List ℕ
take_at_m5 counter =
    region_of counter 2 1
    (node counter 0 1 4000000012 ++ node counter 2 0 4000000008 ++ node counter 0 0 4000000004)
    (0 ∷ 0 ∷ 0 ∷ 7 ∷ 9 ∷ 0 ∷ [])
    (15 ∷ 0 ∷ 0 ∷ 0 ∷ 2 ∷ 0 ∷ 0 ∷ 0 ∷ 0 ∷ 1 ∷ 0 ∷ 1 ∷ 5 ∷ 9 ∷ [])
    (node counter 0 1 4000000012 ++ 0 ∷ 0 ∷ 0 ∷ node counter 2 0 4000000008 ++ 7 ∷ 9 ∷ 0 ∷ node counter 0 0 4000000004 ++ 0 ∷ 0 ∷ 0 ∷ [])

-- "no value lost": converted in the middle of mending, into a slice of zeros, since layout is refused 1 for thread 1's permission 4. M5 finds nodes
-- 1 and 2 as their copies and exchanges their lists: 7 is in the root, node 2 is empty and dirty. M1 reads node 2, M2 the depth 2, which is node
-- 2's level, and M6 makes it clean: took 5. The root's counter has risen by 1, node 2's by 2, and node 3's is as it was.
abbrev pub converted_in_mending : Row
converted_in_mending =
    row_of (shaped 2 2) (4 ∷ 3 ∷ []) 384 (number_of BadShape)
    (converting take_at_m5
    ++ turns_to 1 4 (Took (item 5))
    ++ (shows 6 12, shown (2 ∷ 0 ∷ 4000000013 ∷ 0 ∷ 0 ∷ 0 ∷ 4000000010 ∷ 0 ∷ 0 ∷ 0 ∷ 4000000004 ∷ 0 ∷ []))
    ∷ [])
    2

-- The root's list was 5, with cell 2, and 7, with cell 1; no cell is free. Thread 1's list has made 17, 18, M1, M2 and M6 and stands at 19 with
-- own cell 2, d 1, node 1 and after 3. Its first copy is M1's: the root empty and dirty, with the counter 3, which M6 made 4
abbrev list_at19 : Form → List ℕ
list_at19 counter =
    root_region counter 0
    (node counter 0 0 4)
    (7 ∷ 9 ∷ 0 ∷ 5 ∷ 9 ∷ 1 ∷ [])
    (19 ∷ 0 ∷ 0 ∷ 2 ∷ 1 ∷ 0 ∷ 0 ∷ 0 ∷ 0 ∷ 1 ∷ 0 ∷ 3 ∷ 0 ∷ 0 ∷ [])
    (node counter 0 1 3 ++ 0 ∷ 0 ∷ 0 ∷ [])

-- the tree empty after four updates, cell 1 free and cell 2 behind it, both threads idle
abbrev list_handed_out : Form → List ℕ
list_handed_out counter = root_region counter 1 (node counter 0 0 4) (0 ∷ 0 ∷ 2 ∷ 0 ∷ 0 ∷ 0 ∷ []) (replicate 14 0) (zero_copy counter)

-- Converted in the middle of a list. 19 hands out 5 and frees cell 2; own cell is then 1. 19 hands out 7, frees cell 1, and the thread is idle.
abbrev pub converted_in_list : Row
converted_in_list =
    row
    (converting list_at19
    ++ turns_to 1 1 (Took (item 5))
    ++ (shows 24 5, shown (3 ∷ 19 ∷ 0 ∷ 0 ∷ 1 ∷ []))
    ∷ turns_to 1 1 (Took (item 7))
    ++ turns_to 1 1 Idle
    ++ (shows 0 96, shown (list_handed_out new_form))
    ∷ [])

-- The empty root's counter is c. Thread 1's put of 5 has cell 1, has made I1, I2 and I5 and stands at I6, place 6: own cell 1, d 1,
-- leaf 1, lo 1, hi 1, node 1, and its first copy is the root
abbrev pub put_at_i6 : ℕ → Form → List ℕ
put_at_i6 c counter =
    root_region counter 2
    (node counter 0 0 c)
    (5 ∷ 9 ∷ 0 ∷ 0 ∷ 0 ∷ 0 ∷ [])
    (6 ∷ 5 ∷ 9 ∷ 1 ∷ 1 ∷ 1 ∷ 0 ∷ 1 ∷ 1 ∷ 1 ∷ 0 ∷ 0 ∷ 0 ∷ 0 ∷ [])
    (node counter 0 0 c ++ 0 ∷ 0 ∷ 0 ∷ [])

-- A counter that was spent goes on. On the old region I6 is refused 11 (crates/converted/specs/Worked.antt). Converted, I6 finds the root as its copy and inserts 5: the low word
-- carries, 0 and 1. Then a take: E1, E2, M1, M2, M6, and the low word is 2.
abbrev pub converted_counter_goes_on : Row
converted_counter_goes_on =
    row
    (converting (put_at_i6 greatest)
    ++ root 0 0 greatest 0
    ∷ turns_to 1 1 Inserted
    ++ root 1 0 0 1
    ∷ taking 5 (Took (item 5))
    ++ root 0 0 2 1
    ∷ [])

-- a region as layout leaves it, and after a put of 5
abbrev fresh : Form → List ℕ
fresh counter = root_region counter 1 (zero_node counter) (0 ∷ 0 ∷ 2 ∷ 0 ∷ 0 ∷ 0 ∷ []) (replicate 14 0) (zero_copy counter)

abbrev with_five : Form → List ℕ
with_five counter = root_region counter 2 (node counter 1 0 1) (5 ∷ 9 ∷ 0 ∷ 0 ∷ 0 ∷ 0 ∷ []) (replicate 14 0) (zero_copy counter)

-- an old region of D 1, C 1, T 1, H 1 as layout left it: 6 + 3 + 3 + 33 = 45 words, and the thread's place is word 13
abbrev smallest : List ℕ
smallest = replicate 6 1 ++ replicate 6 0 ++ 3 ∷ replicate 32 0

-- "Errors: 7 for the old region, then 2 for the new slice." 5 is inserted in the region. An old one is refused 7 with D 13, with thread 1 at place
-- 20, a word short, or of the new form already. The smallest one is readable, and the region has not its length: 2; at place 20 it is 7. All
-- words of the region are as they were. A fresh old region is then converted, and the region is as that one.
abbrev pub conversion_refused : Row
conversion_refused =
    row
    (inserting (item 5) 4
    ++ (converts (set (fresh old_form) 0 13), refused Unreadable)
    ∷ (converts (set (fresh old_form) 22 20), refused Unreadable)
    ∷ (converts (take 86 (fresh old_form)), refused Unreadable)
    ∷ (converts (fresh new_form), refused Unreadable)
    ∷ (converts smallest, refused BadLength)
    ∷ (converts (set smallest 13 20), refused Unreadable)
    ∷ (shows 0 96, shown (with_five new_form))
    ∷ converting fresh)

-- "380 refused 2": a slice that is a word short is refused by layout, and by the converter for a readable old region. Its 95 words stay 0.
abbrev pub converted_into_short : Row
converted_into_short =
    row_of (shaped 2 2) both 380 (number_of BadLength)
    ((converts (fresh old_form), refused BadLength) ∷ (shows 0 95, shown (replicate 95 0)) ∷ [])
    0

abbrev pub conversions : List Row
conversions =
    converted_in_take
    ∷ converted_in_mending
    ∷ converted_in_list
    ∷ converted_counter_goes_on
    ∷ conversion_refused
    ∷ converted_into_short
    ∷ []
