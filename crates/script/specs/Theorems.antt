-- The statements that hold of the definition of a script; each is proved in the file of `proofs/` with its name.
use Rattle.std.specs.Prelude.{ℕ, ◌≤◌, ◌≡◌, List, ◌++◌, length}
use Rattle.script.specs.Text.{ascii}
use Rattle.script.specs.Script.{lines_from, script_run}

-- reading at most as many lines as there are bytes leaves no line out: with more allowed, nothing else is printed or done
abbrev pub NoLineLeftOut : Type 0
NoLineLeftOut =
    (n : ℕ) (s : List ℕ) (at line : ℕ) (b : List ℕ) → length s ≤ n
    → lines_from n s at line b ≡ lines_from (length s) s at line b

-- a script with one put and four turns
abbrev pub worked_script : List ℕ
worked_script =
    ascii "depth cells threads threshold permission\n1 1 1 1 3\nwhat thread a b\n"
    ++ ascii "put 1 5 9\nturn 1 0 0\nturn 1 0 0\nturn 1 0 0\nturn 1 0 0\n"

-- and its output, whole
abbrev pub worked_output : List ℕ
worked_output =
    ascii "line thread answer key tag\n1 1 begun 0 0\n2 1 moved 0 0\n3 1 moved 0 0\n4 1 moved 0 0\n5 1 inserted 0 0\n"

abbrev pub WorkedExample : Type 0
WorkedExample = (script_run worked_script).printed ≡ worked_output
