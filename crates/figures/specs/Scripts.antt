-- Reading the input of a report: "up to 64 scripts, 60,000 bytes in all, one after another on standard input, each
-- ended by an empty line". An opening and a line are the script program's own (crates/script/specs/Reading.antt). A position counts the
-- bytes of the whole input.
use Rattle.std.specs.Prelude.{ℕ, zero, suc, List, [], ◌∷◌, leb, eqb, length, get_or, Option, Some, None}
use Rattle.region.specs.Refusal.{done}
use Rattle.region.specs.Pick.{pick}
use Rattle.script.specs.Text.{line_end}
use Rattle.script.specs.Reading.{opening_at, read_line}
use Rattle.script.specs.Script.{setup_refusal}
use Rattle.script.specs.declared.reading.ScriptLine.{ScriptLine}
use Rattle.script.specs.declared.reading.Setup.{Setup}

-- what is read from a position on, with the position after it; or it cannot be read
pub data Found (A : Type 0) : Type 0 where
  found : A → ℕ → Found A
  unfound : Found A

abbrev pub found_then : {A B : Type 0} → Found A → (A → ℕ → Found B) → Found B
found_then unfound f = unfound
found_then (found x next) f = f x next

-- a line, and the lines behind it
abbrev pub line_and_rest : Option ScriptLine → (ScriptLine → Found (List ScriptLine)) → Found (List ScriptLine)
line_and_rest None rest = unfound
line_and_rest (Some l) rest = found_then (rest l) λ ls next. found (l ∷ ls) next

-- the lines from a position on, up to the empty line, which must be there. The first argument is the most lines there can be, that one
-- included: each line has bytes, so as many as there are bytes leave none out (`NoLineLeftOut` in Theorems.antt).
unfoldable pub lines_at : ℕ → List ℕ → ℕ → Found (List ScriptLine)
lines_at zero s at = unfound
lines_at (suc most) s at =
    pick (eqb (get_or s at 0) line_end) (found [] (suc at)) (line_and_rest (read_line s at) λ l. lines_at most s l.next)

pub record Script : Type 0 where
  pub setup : Setup
  pub lines : List ScriptLine

-- "a refused layout" cannot be read either
abbrev pub opening_and_lines : List ℕ → Option Setup → Found Script
opening_and_lines s None = unfound
opening_and_lines s (Some u) =
    pick
    (eqb (setup_refusal u) done)
    (found_then (lines_at (length s) s u.next) λ ls next. found (record { setup = u; lines = ls }) next)
    unfound

-- the script from a position on
unfoldable pub script_at : List ℕ → ℕ → Found Script
unfolding lines_at
script_at s at = opening_and_lines s (opening_at s at)

-- at most this many scripts from a position on, up to the end of the input
unfoldable pub scripts_at : ℕ → List ℕ → ℕ → Found (List Script)
unfolding script_at
scripts_at zero s at = pick (leb (length s) at) (found [] at) unfound
scripts_at (suc n) s at =
    pick
    (leb (length s) at)
    (found [] at)
    (found_then (script_at s at) λ x next. found_then (scripts_at n s next) λ xs last. found (x ∷ xs) last)

abbrev pub input_most : ℕ
input_most = 60000

abbrev pub scripts_most : ℕ
scripts_most = 64

unfoldable pub read_scripts : List ℕ → Found (List Script)
unfolding scripts_at
read_scripts s = pick (leb (length s) input_most) (scripts_at scripts_most s 0) unfound
