-- Cases of request 6, "Figures over many scripts": inputs with their reports, worked out by hand. Behind script and thread stand node, depth,
-- cas, dcas, dcss, hand, failed, put, take, list, empty, whole and rest.
use Rattle.std.specs.Prelude.{ℕ, zero, suc, ◌≡◌, List, [], ◌∷◌, ◌++◌}
use Prim.Native.String.{String}
use Rattle.script.specs.Text.{ascii}
use Rattle.figures.specs.Report.{report}

-- an input, and what it prints
pub record Row : Type 0 where
  pub input : List ℕ
  pub output : List ℕ

abbrev pub Holds : Row → Type 0
Holds r = report r.input ≡ r.output

abbrev pub AllHold : List Row → Type 0
AllHold [] = Unit
AllHold (r ∷ rs) = Holds r × AllHold rs

-- a script of this shape with these lines, and the empty line that ends it
abbrev script : String → List ℕ → List ℕ
script shape lines =
    ascii "depth cells threads threshold permission\n" ++ ascii shape ++ ascii "\nwhat thread a b\n" ++ lines ++ ascii "\n"

abbrev heading : List ℕ
heading = ascii "script thread node depth cas dcas dcss hand failed put take list empty whole rest\n"

-- a report of these lines
abbrev reported : List ℕ → List ℕ → Row
reported text lines = record { input = text; output = heading ++ lines }

abbrev times : ℕ → List ℕ → List ℕ
times zero text = []
times (suc n) text = text ++ times n text

-- The script of document 01: I1, I2, I5 and I6 of a put.
abbrev pub worked : Row
worked =
    reported
    (script "1 1 1 1 3" (ascii "put 1 5 9\nturn 1 0 0\nturn 1 0 0\nturn 1 0 0\nturn 1 0 0\n"))
    (ascii "1 1 2 1 1 0 0 0 0 1 0 0 0 4 0\n" ++ ascii "0 0 2 1 1 0 0 0 0 1 0 0 0 4 0\n")

-- Document 01's case I: thread 1's E2 fails once, since thread 2 has put 3 meanwhile.
abbrev pub one_failed_cas : Row
one_failed_cas =
    reported
    (script
    "2 2 2 1 3"
    (ascii "put 1 5 9\nturn 1 0 0\nturn 1 0 0\nturn 1 0 0\nturn 1 0 0\ntake 1 0 0\nput 2 3 9\nturn 1 0 0\n"
    ++ ascii "turn 2 0 0\nturn 2 0 0\nturn 2 0 0\nturn 2 0 0\n"
    ++ ascii "turn 1 0 0\nturn 1 0 0\nturn 1 0 0\nturn 1 0 0\nturn 1 0 0\nturn 1 0 0\n"))
    (ascii "1 1 5 2 4 0 0 0 1 1 1 0 0 5 1\n"
    ++ ascii "1 2 2 1 1 0 0 0 0 1 0 0 0 4 0\n"
    ++ ascii "0 0 7 3 5 0 0 0 1 2 1 0 0 5 0\n")

-- Two scripts. In the first, document 01's case H and a take: I8 puts 7 below, M5 exchanges. In the second both threads read depth 1 and
-- stand at I4; thread 2's fails ("I4's too").
abbrev pub every_update : Row
every_update =
    reported
    (script
    "2 2 1 1 3"
    (ascii "put 1 5 9\n"
    ++ times 4 (ascii "turn 1 0 0\n")
    ++ ascii "put 1 7 9\n"
    ++ times 9 (ascii "turn 1 0 0\n")
    ++ ascii "take 1 0 0\n"
    ++ times 10 (ascii "turn 1 0 0\n"))
    ++ script
    "3 3 2 1 3"
    (ascii "put 1 5 9\n"
    ++ times 4 (ascii "turn 1 0 0\n")
    ++ ascii "put 1 7 9\nput 2 8 9\nturn 1 0 0\nturn 1 0 0\nturn 2 0 0\nturn 2 0 0\nturn 1 0 0\nturn 2 0 0\n"
    ++ times 6 (ascii "turn 1 0 0\n")
    ++ times 7 (ascii "turn 2 1 0\n")))
    (ascii "1 1 12 5 4 1 1 0 0 2 1 0 0 7 2\n"
    ++ ascii "2 1 7 3 2 0 1 0 0 2 0 0 0 6 1\n"
    ++ ascii "2 2 5 2 1 0 1 0 1 1 0 0 0 9 0\n"
    ++ ascii "0 0 24 10 7 1 3 0 1 5 1 0 0 7 3\n")

-- "a list at its last item": 17, 18, M1, M2 and M6, then two hand-outs, the second of which answers the list.
abbrev pub list_of_two : Row
list_of_two =
    reported
    (script
    "2 2 1 1 3"
    (ascii "put 1 7 9\nturn 1 0 0\nturn 1 0 0\nturn 1 0 0\nturn 1 0 0\nput 1 5 9\nturn 1 0 0\nturn 1 0 0\nturn 1 0 0\nturn 1 0 0\n"
    ++ ascii "list 1 0 0\nturn 1 0 0\nturn 1 0 0\nturn 1 0 0\nturn 1 0 0\nturn 1 0 0\nturn 1 0 0\nturn 1 0 0\n"))
    (ascii "1 1 6 3 4 0 0 2 0 2 0 1 0 5 0\n" ++ ascii "0 0 6 3 4 0 0 2 0 2 0 1 0 5 0\n")

-- A put is withdrawn at its second turn: neither that turn nor the put counts. A take then finds the queue empty.
abbrev pub withdrawn_put : Row
withdrawn_put =
    reported
    (script "1 1 1 1 3" (ascii "put 1 5 9\nturn 1 0 0\npermit 1 2 0\nturn 1 0 0\ntake 1 0 0\nturn 1 0 0\n"))
    (ascii "1 1 1 1 0 0 0 0 0 0 0 0 1 2 0\n" ++ ascii "0 0 1 1 0 0 0 0 0 0 0 0 1 2 0\n")

-- A script of no lines: "A group without operations prints 0 and 0." And no script at all.
abbrev pub no_lines : Row
no_lines =
    reported
    (script "1 1 2 1 3" [])
    (ascii "1 1 0 0 0 0 0 0 0 0 0 0 0 0 0\n" ++ ascii "1 2 0 0 0 0 0 0 0 0 0 0 0 0 0\n" ++ ascii "0 0 0 0 0 0 0 0 0 0 0 0 0 0 0\n")

abbrev pub no_script : Row
no_script = reported [] (ascii "0 0 0 0 0 0 0 0 0 0 0 0 0 0 0\n")

-- "prints `unreadable` alone": a line that cannot be read, a refused layout, no empty line at the end, one too many, a 65th script
abbrev unreadable : List ℕ → Row
unreadable text = record { input = text; output = ascii "unreadable\n" }

abbrev small : List ℕ
small = script "1 1 1 1 3" []

abbrev pub bad_line : Row
bad_line = unreadable (script "1 1 1 1 3" (ascii "take 1 0\n"))

abbrev pub bad_layout : Row
bad_layout = unreadable (small ++ script "1 2 1 1 3" [])

abbrev pub no_empty_line : Row
no_empty_line = unreadable (small ++ ascii "depth cells threads threshold permission\n1 1 1 1 3\nwhat thread a b\n")

abbrev pub two_empty_lines : Row
two_empty_lines = unreadable (small ++ ascii "\n")

abbrev pub too_many : Row
too_many = unreadable (times 65 small)

abbrev pub table : List Row
table =
    worked
    ∷ one_failed_cas
    ∷ every_update
    ∷ list_of_two
    ∷ withdrawn_put
    ∷ no_lines
    ∷ no_script
    ∷ bad_line
    ∷ bad_layout
    ∷ no_empty_line
    ∷ two_empty_lines
    ∷ too_many
    ∷ []

abbrev pub ReportsHold : Type 0
ReportsHold = AllHold table
