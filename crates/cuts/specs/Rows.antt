-- Cases of request 14, "Cut a script down": scripts with what is left of them, worked out by hand. With numbers of one digit the opening has 67
-- bytes, a line of a put 10, of a take, a list or a turn 11, of a permission 13.
use Rattle.std.specs.Prelude.{ℕ, ◌≡◌, List, [], ◌∷◌, ◌++◌}
use Prim.Native.String.{String}
use Rattle.script.specs.Text.{ascii}
use Rattle.cut.specs.Cut.{cut_refusal, cut_script}

-- a script, the number, the slice's length, and what is answered and written
pub record Row : Type 0 where
  pub input : List ℕ
  pub number : ℕ
  pub room : ℕ
  pub refusal : ℕ
  pub written : List ℕ

abbrev pub Holds : Row → Type 0
Holds r = (cut_refusal r.input r.number r.room ≡ r.refusal) × (cut_script r.input r.number r.room ≡ r.written)

abbrev pub AllHold : List Row → Type 0
AllHold [] = Unit
AllHold (r ∷ rs) = Holds r × AllHold rs

-- a script of this shape with these lines
abbrev script : String → String → List ℕ
script shape lines =
    ascii "depth cells threads threshold permission\n" ++ ascii shape ++ ascii "\nwhat thread a b\n" ++ ascii lines

-- a script of which this is left, and one that is refused
abbrev leaves : List ℕ → ℕ → ℕ → List ℕ → Row
leaves text n room left = record { input = text; number = n; room = room; refusal = 0; written = left }

abbrev refused : List ℕ → ℕ → ℕ → ℕ → Row
refused text n room refusal = record { input = text; number = n; room = room; refusal = refusal; written = [] }

-- Document 01's case K: a put is 10 while another holds the only cell. That one need only have begun, so the turns go, and thread 2 may put
-- from the start, so its permission goes. The slice is just as long as the script.
abbrev crowded : List ℕ
crowded = script "1 1 2 1 3" "put 1 5 9\nturn 1 0 0\npermit 2 1 0\nturn 2 0 0\nput 2 7 9\nturn 1 0 0\n"

abbrev pub no_cell : Row
no_cell = leaves crowded 10 133 (script "1 1 2 1 3" "put 1 5 9\nput 2 7 9\n")

-- The second and the third put are 9. "From the last to the first": the third goes, then each of the others is needed. From the first to the
-- last, the first would go, and of the two others each would be needed.
abbrev pub shown_twice : Row
shown_twice = leaves (script "1 1 1 1 3" "put 1 5 9\nput 1 6 9\nput 1 7 9\n") 9 97 (script "1 1 1 1 3" "put 1 5 9\nput 1 6 9\n")

-- "Over and over". The first pass keeps the put, since nothing else is refused, and the list, without which the put begins. The turn goes, since
-- without it the take is under way and the list is 9, and so does the permission. The take stays: without it the list begins, and the put,
-- with permission 2, is 8. The second pass leaves the put out, since now the list is 9. From the first to the last, permission, list and put
-- would be left.
abbrev pub second_pass : Row
second_pass =
    leaves
    (script "1 1 1 1 2" "take 1 0 0\npermit 1 3 0\nturn 1 0 0\nlist 1 0 0\nput 1 5 9\n")
    9
    123
    (script "1 1 1 1 2" "take 1 0 0\nlist 1 0 0\n")

-- what was cut is cut no further
abbrev again : Row → Row
again r = leaves r.written r.number r.room r.written

abbrev pub no_cell_again : Row
no_cell_again = again no_cell

abbrev pub second_pass_again : Row
second_pass_again = again second_pass

-- Two cells at depth 1: the layout is refused 1, for which no line is needed. None is run, so thread 2, which is not there, shows no 3.
abbrev pub refused_layout : Row
refused_layout = leaves (script "1 2 1 1 3" "put 2 5 9\nturn 1 0 0\n") 1 88 (script "1 2 1 1 3" "")

abbrev pub lines_not_run : Row
lines_not_run = refused (script "1 2 1 1 3" "put 2 5 9\nturn 1 0 0\n") 3 88 16

-- The script program ends before it comes to the last line, which cannot be read; the script "has a line that cannot be read" all the same.
abbrev pub bad_line_not_run : Row
bad_line_not_run = refused (script "1 2 1 1 3" "put 2 5 9\nturn 1 0\n") 1 86 16

-- a permission above 3 is 1 too, and there the line is needed
abbrev pub bad_permission : Row
bad_permission = leaves (script "1 1 1 1 3" "put 1 5 9\npermit 1 4 0\nturn 1 0 0\n") 1 101 (script "1 1 1 1 3" "permit 1 4 0\n")

-- a put and a take of key 9, which prints "took 9 0": no refusal
abbrev pub took_nine : Row
took_nine =
    refused
    (script
    "1 1 1 1 3"
    "put 1 9 0\nturn 1 0 0\nturn 1 0 0\nturn 1 0 0\nturn 1 0 0\ntake 1 0 0\nturn 1 0 0\nturn 1 0 0\nturn 1 0 0\nturn 1 0 0\nturn 1 0 0\n")
    9
    187
    16

-- a slice one byte short, though what is left would fit; the same for a number that is not shown, "then 16"
abbrev pub slice_short : Row
slice_short = refused crowded 10 132 2

abbrev pub slice_short_first : Row
slice_short_first = refused crowded 9 132 2

-- the last line has no LF
abbrev pub no_line_end : Row
no_line_end = refused (script "1 1 1 1 3" "put 1 5 9\nput 1 6 9\nput 1 7 9") 9 96 16

-- no opening
abbrev pub no_bytes : Row
no_bytes = refused [] 1 0 16

-- A turn of a thread that is not there is 3, before the put that is 3 too. Shape and line keep their leading zeros.
abbrev pub leading_zeros : Row
leading_zeros = leaves (script "1 1 01 1 3" "put 1 5 9\nturn 002 00 0\nput 2 5 9\n") 3 102 (script "1 1 01 1 3" "turn 002 00 0\n")

abbrev pub table : List Row
table =
    no_cell
    ∷ shown_twice
    ∷ second_pass
    ∷ no_cell_again
    ∷ second_pass_again
    ∷ refused_layout
    ∷ lines_not_run
    ∷ bad_line_not_run
    ∷ bad_permission
    ∷ took_nine
    ∷ slice_short
    ∷ slice_short_first
    ∷ no_line_end
    ∷ no_bytes
    ∷ leading_zeros
    ∷ []

abbrev pub CutsHold : Type 0
CutsHold = AllHold table
