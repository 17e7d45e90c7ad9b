-- Reading at most as many lines as there are bytes leaves no line out: each line that is read has ten bytes or more. Assumes nothing.
use Prim.Native.Nat.{ℕ, zero, suc, ◌+◌, ◌*◌, ◌<◌}
use native.Mathlib.Omega.{arith}
use mathlib.Core.Path.{◌≡◌, refl, sym, ap, ◌∙◌}
use mathlib.Core.Bool.{Bool, true, false}
use mathlib.Core.List.{List}
use borrow.Author.Tests.{ltb-false, ltb-true}
use lib.Dec.{ltb}
use lib.ListN.{length}
use Rattle.std.specs.Prelude.{Option, Some, None}
use Rattle.script.specs.declared.reading.ScriptLine.{ScriptLine}
use Rattle.script.specs.Reading.{read_line}
use Rattle.script.proofs.Readings.{line_long}
use Rattle.cut.specs.Whole.{entries_from, entry_of, with_first}
use Rattle.cut.specs.Theorems.{NoLineLeftOut}
use Rattle.cut.proofs.Entries.{entries_over, entries_read, entries_unreadable, line_within}

-- enough lines for the bytes that are left, and one more for the end
pub enough : (n m : ℕ) (s : List ℕ) (at : ℕ) → 0 < n → 0 < m → length s < at + 10 * n → length s < at + 10 * m
    → entries_from n s at ≡ entries_from m s at
enough zero m s at a b h g = absurd (omega arith)
enough (suc n) zero s at a b h g = absurd (omega arith)
enough (suc n) (suc m) s at a b h g = ways (ltb at (length s)) refl (read_line s at) refl (enough n m s)
  where
    ways : (q : Bool) → ltb at (length s) ≡ q → (r : Option ScriptLine) → read_line s at ≡ r
        → ((at' : ℕ) → 0 < n → 0 < m → length s < at' + 10 * n → length s < at' + 10 * m → entries_from n s at' ≡ entries_from m s at')
        → entries_from (suc n) s at ≡ entries_from (suc m) s at
    ways false q r e rest =
        let past = ltb-false at (length s) q in
        entries_over n s at past ∙ sym (entries_over m s at past)
    ways true q None e rest =
        let in_it = ltb-true at (length s) q in
        entries_unreadable n s at in_it e ∙ sym (entries_unreadable m s at in_it e)
    ways true q (Some l) e rest =
        let in_it = ltb-true at (length s) q in
        let long = line_long s at l e in
        let within = line_within s at l e in
        entries_read n s at in_it l e
        ∙ ap (with_first (entry_of s at l)) (rest l.next (omega arith) (omega arith) (omega arith) (omega arith))
        ∙ sym (entries_read m s at in_it l e)

-- as many lines as there are bytes, if there are any
pub no_line_left_out : NoLineLeftOut
no_line_left_out n s at has h = enough n (length s) s at (omega arith) has (omega arith) (omega arith)
