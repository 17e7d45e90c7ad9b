-- A script that can be read is its opening and its lines, one behind the other: each line's text ends where the next one starts. Assumes
-- nothing.
use Prim.Native.Nat.{ℕ, ◌<◌}
use native.Mathlib.Omega.{arith}
use mathlib.Core.Path.{◌≡◌, sym, ap, ◌∙◌}
use mathlib.Core.List.{List, ◌∷◌, ◌++◌}
use lib.ListN.{length, drop, drop_of_length-le, take-append-drop}
use lib.Seq.{slice}
use Rattle.std.specs.Prelude.{Some}
use Rattle.script.specs.Reading.{read_line}
use Rattle.script.specs.declared.reading.ScriptLine.{ScriptLine}
use Rattle.script.proofs.Readings.{line_long}
use Rattle.cut.specs.Whole.{Entry, entries_from, entry_of, script_bytes, texts}
use Rattle.cut.specs.Theorems.{ScriptIsItsLines}
use Rattle.cut.proofs.TextsRead.{behind_text, reads_text}
use Rattle.cut.proofs.ReadAgain.{line_read}
use Rattle.cut.proofs.Entries.{along_entries}
use Rattle.cut.proofs.ScriptsRead.{script_read}

-- the lines that were read from a position on are the bytes from there
pub lines_are_bytes : (s : List ℕ) (n at : ℕ) (es : List Entry) → entries_from n s at ≡ Some es → drop at s ≡ texts es
unfolding texts
lines_are_bytes s = along_entries s (λ n at es. drop at s ≡ texts es) (λ n at h. drop_of_length-le s h) more
  where
    more : (n at : ℕ) (l : ScriptLine) (es : List Entry) → at < length s → read_line s at ≡ Some l → drop l.next s ≡ texts es
        → drop at s ≡ texts (entry_of s at l ∷ es)
    more n at l es h e behind =
        let p = line_read s at l e in
        let text : slice at l.next s ≡ p.text = reads_text p (omega (arith, line_long s at l e)) in
        let rest : p.rest ≡ texts es =
        sym (behind_text s at p.text p.rest p.here) ∙ ap (λ k. drop k s) (sym p.next) ∙ behind in
        p.here ∙ ap (λ xs. xs ++ p.rest) (sym text) ∙ ap (λ xs. slice at l.next s ++ xs) rest

pub script_is_its_lines : ScriptIsItsLines
unfolding script_bytes
script_is_its_lines s x e =
    let r = script_read s x e in
    let next = x.setup.next in
    sym (take-append-drop next s)
    ∙ ap (λ xs. xs ++ drop next s) (sym r.heading)
    ∙ ap (λ xs. x.opening ++ xs) (lines_are_bytes s (length s) next x.lines r.entries)
