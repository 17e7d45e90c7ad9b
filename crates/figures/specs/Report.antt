-- The report, whole, from the input's bytes: `report`, below all it is made of.
use Rattle.std.specs.Prelude.{ℕ, zero, suc, List, [], ◌∷◌, ◌++◌}
use Rattle.script.specs.Text.{ascii, space, line_end}
use Rattle.script.specs.Printing.{number_text}
use Rattle.figures.specs.Scripts.{Found, found, unfound, Script, read_scripts}
use Rattle.figures.specs.Turns.{TurnMade, all_turns, turns_in}
use Rattle.figures.specs.Figures.{accesses, figures, of_thread, operations, rest, whole}

-- numbers, a space behind each
unfoldable pub spaced : List ℕ → List ℕ
spaced [] = []
spaced (n ∷ ns) = number_text n space ++ spaced ns

-- quotient and remainder, which end a line
unfoldable pub ratio_text : ℕ → ℕ → List ℕ
ratio_text a n = number_text (whole a n) space ++ number_text (rest a n) line_end

-- a line: "script thread", the figures, "whole rest"
unfoldable pub row_text : ℕ → ℕ → List ℕ → List ℕ
unfolding spaced ratio_text
row_text script thread fs =
    number_text script space ++ (number_text thread space ++ (spaced fs ++ ratio_text (accesses fs) (operations fs)))

-- the turns of one thread of one script
pub record Group : Type 0 where
  pub script : ℕ
  pub thread : ℕ
  pub turns : List TurnMade

-- of a script, n threads from thread t on, vs being the script's turns
unfoldable pub thread_groups : ℕ → List TurnMade → ℕ → ℕ → List Group
thread_groups script vs t zero = []
thread_groups script vs t (suc n) =
    record { script = script; thread = t; turns = of_thread t vs } ∷ thread_groups script vs (suc t) n

-- "scripts in input order from 1": all groups of these scripts, the first of which is script k
unfoldable pub all_groups : ℕ → List Script → List Group
unfolding thread_groups
all_groups k [] = []
all_groups k (x ∷ xs) = thread_groups k (turns_in x) 1 x.setup.shape.threads ++ all_groups (suc k) xs

-- "then a line for each script's threads"
unfoldable pub group_rows : List Group → List ℕ
unfolding row_text
group_rows [] = []
group_rows (g ∷ gs) = row_text g.script g.thread (figures g.turns) ++ group_rows gs

abbrev pub heading : List ℕ
heading = ascii "script thread node depth cas dcas dcss hand failed put take list empty whole rest\n"

-- "the total last as 0 0"; "prints `unreadable` alone"
abbrev pub report_of : Found (List Script) → List ℕ
report_of unfound = ascii "unreadable\n"
report_of (found xs end) = heading ++ (group_rows (all_groups 1 xs) ++ row_text 0 0 (figures (all_turns xs)))

unfoldable pub report : List ℕ → List ℕ
unfolding read_scripts all_groups group_rows
report s = report_of (read_scripts s)
