-- A script read whole: its opening, "the three heading lines", and all its lines, each with its bytes. Opening and
-- lines are the script program's own (crates/script/specs/Reading.antt). A position counts the bytes of the whole script.
use Rattle.std.specs.Prelude.{ℕ, zero, suc, List, [], ◌∷◌, ◌++◌, ltb, length, take, Option, Some, None}
use Rattle.std.proofs.Math.Seq.{slice}
use Rattle.region.specs.Pick.{pick}
use Rattle.script.specs.Reading.{read_line, read_opening}
use Rattle.script.specs.declared.reading.ScriptLine.{ScriptLine}
use Rattle.script.specs.declared.reading.Setup.{Setup}
use Rattle.script.specs.declared.reading.What.{What}

-- a line: the call that it makes, whose it is, and the line's bytes, LF included
pub record Entry : Type 0 where
  pub what : What
  pub thread : ℕ
  pub text : List ℕ

-- a script: what its opening says, the opening's bytes, and the lines behind it
pub record Script : Type 0 where
  pub setup : Setup
  pub opening : List ℕ
  pub lines : List Entry

-- the line that was read at a position
abbrev pub entry_of : List ℕ → ℕ → ScriptLine → Entry
entry_of s at l = record { what = l.what; thread = l.thread; text = slice at l.next s }

abbrev pub with_first : Entry → Option (List Entry) → Option (List Entry)
with_first e None = None
with_first e (Some es) = Some (e ∷ es)

-- a line, and the lines behind it; there are none if one of them cannot be read
abbrev pub entry_then : List ℕ → ℕ → Option ScriptLine → (ℕ → Option (List Entry)) → Option (List Entry)
entry_then s at None rest = None
entry_then s at (Some l) rest = with_first (entry_of s at l) (rest l.next)

-- the lines from a position on, up to the end. The first argument is more than the lines there can be: each line has bytes, so as many as
-- there are bytes leave none out (`NoLineLeftOut` in Theorems.antt).
unfoldable pub entries_from : ℕ → List ℕ → ℕ → Option (List Entry)
entries_from zero s at = None
entries_from (suc most) s at = pick (ltb at (length s)) (entry_then s at (read_line s at) (entries_from most s)) (Some [])

abbrev pub with_opening : List ℕ → Setup → Option (List Entry) → Option Script
with_opening s u None = None
with_opening s u (Some es) = Some (record { setup = u; opening = take u.next s; lines = es })

abbrev pub opening_and_entries : List ℕ → Option Setup → Option Script
opening_and_entries s None = None
opening_and_entries s (Some u) = with_opening s u (entries_from (length s) s u.next)

-- the script that these bytes are, unless it "has a line that cannot be read"
unfoldable pub read_script : List ℕ → Option Script
unfolding entries_from
read_script s = opening_and_entries s (read_opening s)

-- the bytes of these lines, and of a script
unfoldable pub texts : List Entry → List ℕ
texts [] = []
texts (e ∷ es) = e.text ++ texts es

unfoldable pub script_bytes : Script → List ℕ
unfolding texts
script_bytes x = x.opening ++ texts x.lines

-- the script with these lines and the same opening
abbrev pub with_lines : Script → List Entry → Script
with_lines x es = record { setup = x.setup; opening = x.opening; lines = es }
