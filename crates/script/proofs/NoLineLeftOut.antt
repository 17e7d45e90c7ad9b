-- Reading at most as many lines as there are bytes leaves no line out: each line that is read has bytes. Assumes nothing.
use Prim.Native.Nat.{ℕ, zero, suc, ◌+◌, ◌-◌, ◌≤◌}
use native.Mathlib.Nat.{add-suc, add-zero}
use native.Mathlib.Omega.{arith}
use mathlib.Core.Path.{◌≡◌, refl, sym, ap, ◌∙◌}
use mathlib.Core.Bool.{Bool, true, false}
use mathlib.Core.List.{List}
use borrow.Author.Tests.{ltb-false, ltb-true}
use lib.Dec.{ltb}
use lib.ListN.{length}
use Rattle.std.specs.Prelude.{Option, Some, None}
use Rattle.script.specs.Reading.{read_line}
use Rattle.script.specs.Printing.{line_text}
use Rattle.script.specs.Script.{after, call_bytes, call_outcome, lines_from}
use Rattle.script.specs.Theorems.{NoLineLeftOut}
use Rattle.script.specs.declared.reading.ScriptLine.{ScriptLine}
use Rattle.script.proofs.Readings.{line_long}
use Rattle.script.proofs.LineCalls.{lines_over, lines_read, lines_unreadable}

-- one line more than the bytes that are left changes nothing
one_more : (s : List ℕ) (n at line : ℕ) (b : List ℕ) → length s ≤ at + n → lines_from (suc n) s at line b ≡ lines_from n s at line b
one_more s zero at line b h = lines_over s at line b 1 (omega arith) ∙ sym (lines_over s at line b 0 (omega arith))
one_more s (suc n) at line b h = ways (ltb at (length s)) refl (read_line s at) refl (one_more s n)
  where
    ways : (q : Bool) → ltb at (length s) ≡ q → (r : Option ScriptLine) → read_line s at ≡ r
        → ((at' line' : ℕ) (b' : List ℕ) → length s ≤ at' + n → lines_from (suc n) s at' line' b' ≡ lines_from n s at' line' b')
        → lines_from (suc (suc n)) s at line b ≡ lines_from (suc n) s at line b
    ways false q r e rest =
        let past : length s ≤ at = ltb-false at (length s) q in
        lines_over s at line b (suc (suc n)) past ∙ sym (lines_over s at line b (suc n) past)
    ways true q None e rest =
        let in_it = ltb-true at (length s) q in
        lines_unreadable s at line b (suc n) in_it e ∙ sym (lines_unreadable s at line b n in_it e)
    ways true q (Some l) e rest =
        let in_it = ltb-true at (length s) q in
        lines_read s at line b (suc n) in_it l e
        ∙ ap (after (line_text line l.thread (call_outcome b l.what l.thread)))
        (rest l.next (suc line) (call_bytes b l.what l.thread) (omega (arith, line_long s at l e)))
        ∙ sym (lines_read s at line b n in_it l e)

pub no_line_left_out : NoLineLeftOut
no_line_left_out n s at line b h =
    let e : n ≡ length s + (n - length s) = omega arith in
    ap (λ m. lines_from m s at line b) e ∙ so_many_more (n - length s)
  where
    so_many_more : (d : ℕ) → lines_from (length s + d) s at line b ≡ lines_from (length s) s at line b
    so_many_more zero = ap (λ m. lines_from m s at line b) (add-zero (length s))
    so_many_more (suc d) =
        ap (λ m. lines_from m s at line b) (add-suc (length s) d)
        ∙ one_more s (length s + d) at line b (omega arith)
        ∙ so_many_more d
