-- With lines left out a script can still be read, as the lines that are left: each line, and the opening, is read again wherever its text
-- stands. Assumes nothing.
use Prim.Native.Nat.{ℕ, zero, suc, ◌+◌, ◌*◌, ◌≤◌, ◌<◌}
use native.Mathlib.Omega.{arith}
use mathlib.Core.Path.{◌≡◌, sym, ap, subst, ◌∙◌}
use mathlib.Core.List.{List, [], ◌∷◌, ◌++◌, Sublistᴰ}
use lib.ListN.{length, drop, length-append, length-drop}
use lib.Seq.{drop_at, slice, take_at}
use Rattle.std.specs.Prelude.{Some}
use Rattle.script.specs.Reading.{read_line}
use Rattle.script.specs.declared.reading.ScriptLine.{ScriptLine}
use Rattle.script.proofs.Readings.{line_long}
use Rattle.cut.specs.Whole.{Entry, Script, entries_from, entry_of, read_script, script_bytes, texts, with_first, with_lines}
use Rattle.cut.specs.Theorems.{StaysReadable}
use Rattle.cut.proofs.TextsRead.{behind_text, reads_text, text_there}
use Rattle.cut.proofs.ReadAgain.{line_read, line_to, opening_read, opening_some, setup_to}
use Rattle.cut.proofs.Entries.{along_entries, entries_over, entries_read}
use Rattle.cut.proofs.ScriptIsItsLines.{script_is_its_lines}
use Rattle.cut.proofs.ScriptsRead.{ScriptRead, read_script_lem, script_read}

-- a line that is read wherever its text stands
record Again (e : Entry) : Type 0 where
  long : 10 ≤ length e.text
  read : (s : List ℕ) (at : ℕ) (rest : List ℕ) → drop at s ≡ e.text ++ rest
      → read_line s at ≡ Some (record { what = e.what; thread = e.thread; next = at + length e.text })

line_again : (s : List ℕ) (at : ℕ) (l : ScriptLine) → read_line s at ≡ Some l → Again (entry_of s at l)
line_again s at l e =
    let p = line_read s at l e in
    let long = line_long s at l e in
    let text : slice at l.next s ≡ p.text = reads_text p (omega arith) in
    record {
      long = omega (arith, p.next, ap length text);
      read = λ s' at' rest' e'.
          p.again s' at' rest' (e' ∙ ap (λ xs. xs ++ rest') text) ∙ ap (λ xs. Some (line_to l (at' + length xs))) (sym text);
    }

-- lines all of which are; those of a script are, and so is a part of them
data Each : List Entry → Type 0 where
  none : Each []
  one : {e : Entry} {es : List Entry} → Again e → Each es → Each (e ∷ es)

lines_again : (s : List ℕ) (n at : ℕ) (es : List Entry) → entries_from n s at ≡ Some es → Each es
lines_again s = along_entries s (λ n at es. Each es) (λ n at h. none) (λ n at l es h e behind. one (line_again s at l e) behind)

part_again : {es fs : List Entry} → Sublistᴰ es fs → Each fs → Each es
part_again Sublistᴰ.slnil none = none
part_again (Sublistᴰ.cons p) (one a more) = part_again p more
part_again (Sublistᴰ.cons-cons e p) (one a more) = one (subst Again (sym e) a) (part_again p more)

texts_long : {es : List Entry} → Each es → 10 * length es ≤ length (texts es)
unfolding texts
texts_long none = omega arith
texts_long (one {e = e} {es = es} a more) = omega (arith, a.long, texts_long more, length-append e.text (texts es))

-- where they stand, up to the end of a script, they are read
read_again : {es : List Entry} → Each es → (n : ℕ) (s : List ℕ) (at : ℕ) → length es < n → drop at s ≡ texts es
    → entries_from n s at ≡ Some es
unfolding texts
read_again none zero s at h e = absurd (omega arith)
read_again none (suc n) s at h e = entries_over n s at (omega (arith, sym (length-drop at s) ∙ ap length e))
read_again (one a more) zero s at h e = absurd (omega arith)
read_again (one {e = f} {es = es} a more) (suc n) s at h e =
    let line : ScriptLine = record { what = f.what; thread = f.thread; next = at + length f.text } in
    let inside : at < length s = omega (arith, a.long, sym (length-drop at s) ∙ ap length e ∙ length-append f.text (texts es)) in
    let rest = read_again more n s (at + length f.text) (omega arith) (behind_text s at f.text (texts es) e) in
    entries_read n s at inside line (a.read s at (texts es) e)
    ∙ ap (with_first (entry_of s at line)) rest
    ∙ ap (λ xs. Some (record { what = f.what; thread = f.thread; text = xs } ∷ es)) (text_there s at f.text (texts es) (omega arith) e)

-- leaving lines out makes no script longer
texts_part : {es fs : List Entry} → Sublistᴰ es fs → length (texts es) ≤ length (texts fs)
unfolding texts
texts_part Sublistᴰ.slnil = omega arith
texts_part (Sublistᴰ.cons {a = f} {l₂ = fs} p) = omega (arith, texts_part p, length-append f.text (texts fs))
texts_part (Sublistᴰ.cons-cons {a = e} {b = f} {l₁ = es} {l₂ = fs} g p) =
    omega (
      arith,
      texts_part p,
      length-append e.text (texts es),
      length-append f.text (texts fs),
      ap (λ x. length x.text) g,
    )

module _ (s : List ℕ) (x : Script) (e : read_script s ≡ Some x) (es : List Entry) (part : Sublistᴰ es x.lines) where
  abbrev left : List ℕ
  left = script_bytes (with_lines x es)

  pub no_longer : length left ≤ length s
  unfolding script_bytes
  no_longer =
      omega (
        arith,
        texts_part part,
        length-append x.opening (texts es),
        ap length (script_is_its_lines s x e) ∙ length-append x.opening (texts x.lines),
      )

  still_read : ScriptRead left (with_lines x es)
  unfolding script_bytes
  still_read =
      let r = script_read s x e in
      let u = x.setup in
      let p = opening_read s 0 u r.opening.read in
      let long : 41 ≤ u.next = omega (arith, opening_some s 0 u r.opening.read) in
      let text : x.opening ≡ p.text = r.heading ∙ reads_text p (omega arith) in
      let next : length x.opening ≡ u.next = omega (arith, ap length text, p.next) in
      let lines = part_again part (lines_again s (length s) u.next x.lines r.entries) in
      let few : length es < length left = omega (arith, texts_long lines, length-append x.opening (texts es)) in
      record {
        opening =
            record {
              short = omega (arith, no_longer, r.opening.short);
              read =
                  p.again left 0 (texts es) (ap (λ xs. xs ++ texts es) text) ∙ ap (λ k. Some (setup_to u k)) (sym p.next);
            };
        heading = sym (take_at x.opening (texts es) u.next next);
        entries = read_again lines (length left) left u.next few (drop_at x.opening (texts es) u.next next);
      }

pub stays_readable : StaysReadable
stays_readable s x e es part = read_script_lem (script_bytes (with_lines x es)) (with_lines x es) (still_read s x e es part)
