-- The lines that are looked at for a refusal are those that the script program prints: it goes through the same lines of the script, on the
-- same regions. Assumes nothing.
use Prim.Native.Nat.{ℕ, suc, ◌<◌}
use mathlib.Core.Path.{◌≡◌, refl, ap, ◌∙◌}
use mathlib.Core.List.{List, ◌∷◌, ◌++◌}
use borrow.Author.Tests.{le-ltb, lt-ltb}
use lib.ListN.{length}
use Rattle.std.specs.Prelude.{Some, Ok, Err}
use Rattle.region.specs.Refusal.{Checked}
use Rattle.region.specs.Pick.{pick}
use Rattle.script.specs.Reading.{read_line}
use Rattle.script.specs.Printing.{line_text}
use Rattle.script.specs.Script.{Ran, call_bytes, call_outcome, laid_region, lines_from, laid_or_refused, opening_then, output_heading, script_run, setup_check}
use Rattle.script.specs.declared.reading.ScriptLine.{ScriptLine}
use Rattle.cut.specs.Whole.{Entry, entries_from, entry_of}
use Rattle.cut.specs.Shown.{Printed, lines_or_refused, lines_printed, printed_by, printed_text}
use Rattle.cut.specs.Theorems.{PrintsWhatItShows}
use Rattle.cut.proofs.Entries.{along_entries}
use Rattle.cut.proofs.ScriptsRead.{is_opening, script_read}

-- the lines from a position on
abbrev SamePrinted : List ℕ → ℕ → ℕ → List Entry → Type 0
SamePrinted s n at es = (line : ℕ) (b : List ℕ) → (lines_from n s at line b).printed ≡ printed_text (lines_printed line es b)

lines_printed_lem : (s : List ℕ) (n at : ℕ) (es : List Entry) → entries_from n s at ≡ Some es → SamePrinted s n at es
unfolding printed_text lines_printed lines_from pick
lines_printed_lem s = along_entries s (SamePrinted s) (λ n at h line b. rw (le-ltb at (length s) h) refl) more
  where
    more : (n at : ℕ) (l : ScriptLine) (es : List Entry) → at < length s → read_line s at ≡ Some l → SamePrinted s n l.next es
        → SamePrinted s (suc n) at (entry_of s at l ∷ es)
    more n at l es h e behind line b =
        rw (lt-ltb at (length s) h, e)
        (ap (λ xs. line_text line l.thread (call_outcome b l.what l.thread) ++ xs)
        (behind (suc line) (call_bytes b l.what l.thread)))

-- those of a layout, be it refused
refused_printed : (c : Checked) (r : Ran) (ps : List Printed) → r.printed ≡ printed_text ps
    → (laid_or_refused c r).printed ≡ printed_text (lines_or_refused c ps)
unfolding printed_text
refused_printed (Ok x) r ps h = h
refused_printed (Err y) r ps h = refl

pub prints_what_it_shows : PrintsWhatItShows
unfolding script_run printed_by
prints_what_it_shows s x e =
    let r = script_read s x e in
    let u = x.setup in
    let region = laid_region u in
    ap (λ o. output_heading ++ (opening_then s o).printed) (is_opening s u r.opening)
    ∙ ap (λ xs. output_heading ++ xs)
    (refused_printed (setup_check u) (lines_from (length s) s u.next 1 region)
    (lines_printed 1 x.lines region)
    (lines_printed_lem s (length s) u.next x.lines r.entries 1 region))
