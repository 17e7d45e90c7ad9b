-- The statements that hold of a cut; each is proved in the file of `proofs/` with its name.
use Rattle.std.specs.Prelude.{ℕ, ◌≤◌, ◌<◌, ◌≡◌, Bool, true, false, length, Some}
use mathlib.Core.List.{List, ◌∷◌, ◌++◌, Sublistᴰ}
use Rattle.region.specs.Refusal.{done}
use Rattle.script.specs.Script.{output_heading, script_run}
use Rattle.cut.specs.Whole.{Entry, Script, entries_from, read_script, script_bytes, with_lines}
use Rattle.cut.specs.Shown.{printed_by, printed_text, shows}
use Rattle.cut.specs.Cut.{cut_of, cut_refusal, cut_script, pass, passes}

-- reading at most as many lines as there are bytes, if there are any, leaves no line out: with more allowed, nothing else is read
abbrev pub NoLineLeftOut : Type 0
NoLineLeftOut =
    (n : ℕ) (s : List ℕ) (at : ℕ) → 0 < length s → length s ≤ n → entries_from n s at ≡ entries_from (length s) s at

-- a script that can be read is its opening and its lines, one behind the other
abbrev pub ScriptIsItsLines : Type 0
ScriptIsItsLines = (s : List ℕ) (x : Script) → read_script s ≡ Some x → s ≡ script_bytes x

-- "its output shows": what is looked at are the lines that the script program prints
abbrev pub PrintsWhatItShows : Type 0
PrintsWhatItShows =
    (s : List ℕ) (x : Script) → read_script s ≡ Some x
    → (script_run s).printed ≡ output_heading ++ printed_text (printed_by x.setup x.lines)

-- with lines left out a script can still be read, as the lines that are left
abbrev pub StaysReadable : Type 0
StaysReadable =
    (s : List ℕ) (x : Script) → read_script s ≡ Some x → (es : List Entry) → Sublistᴰ es x.lines
    → read_script (script_bytes (with_lines x es)) ≡ Some (with_lines x es)

-- Passes end: one that does not leave the lines as they are removes some; so as many passes as there are lines are enough, and after the last
-- of them a pass removes none.
pub record PassesEnd (A : Type 0) : Type 0 where
  pub removes : (shown : List A → Bool) (es : List A) → (pass shown es ≡ es → ⊥) → length (pass shown es) < length es
  pub enough : (n : ℕ) (shown : List A → Bool) (es : List A) → length es ≤ n → passes n shown es ≡ passes (length es) shown es
  pub last : (shown : List A → Bool) (es : List A) → pass shown (passes (length es) shown es) ≡ passes (length es) shown es

-- What is written when the script s, read as x, is cut down to the number n.
pub record IsCut (s : List ℕ) (n : ℕ) (x : Script) (written : List ℕ) : Type 0 where
  -- "made of lines of the first in their order with the three heading lines kept"; a Sublistᴰ has some of the elements, in their order
  pub made_of_lines : Sublistᴰ (cut_of n x).lines x.lines
  pub is_its_lines : written ≡ script_bytes (cut_of n x)
  pub can_be_read : read_script written ≡ Some (cut_of n x)
  pub no_longer : length written ≤ length s
  -- "that still shows that number"
  pub still_shows : shows n x.setup (cut_of n x).lines ≡ true
  -- "and from which no other single line can be left out without losing it": what is then left can be read, and does not show it
  pub needs_each_line :
      (front : List Entry) (e : Entry) (back : List Entry) → (cut_of n x).lines ≡ front ++ (e ∷ back)
      → (read_script (script_bytes (with_lines x (front ++ back))) ≡ Some (with_lines x (front ++ back)))
      × (shows n x.setup (front ++ back) ≡ false)
  -- cutting what was cut, for the same number, changes nothing
  pub cut_again : (room : ℕ) → length written ≤ room → (cut_refusal written n room ≡ done) × (cut_script written n room ≡ written)

-- of every call that is not refused
abbrev pub CutIsRight : Type 0
CutIsRight =
    (s : List ℕ) (n room : ℕ) → cut_refusal s n room ≡ done
    → (x : Script) × (read_script s ≡ Some x) × IsCut s n x (cut_script s n room)
