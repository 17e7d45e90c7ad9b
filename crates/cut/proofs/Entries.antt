-- The lines from a position on: none are left, one cannot be read, one is read and others behind it. Assumes nothing.
use Prim.Native.Nat.{ℕ, zero, suc, ◌≤◌, ◌<◌}
use native.Mathlib.Omega.{arith}
use mathlib.Core.Path.{◌≡◌, refl, subst}
use mathlib.Core.Bool.{Bool, true, false}
use mathlib.Core.List.{List, [], ◌∷◌}
use borrow.Author.Tests.{le-ltb, lt-ltb, ltb-false, ltb-true}
use lib.Dec.{ltb}
use lib.ListN.{length}
use Rattle.std.specs.Prelude.{Option, Some, None}
use Rattle.region.specs.Pick.{pick}
use Rattle.script.specs.Reading.{read_line}
use Rattle.script.specs.declared.reading.ScriptLine.{ScriptLine}
use Rattle.script.proofs.Readings.{line_long}
use Rattle.cut.specs.Whole.{Entry, entries_from, entry_of, entry_then, with_first}
use Rattle.cut.proofs.TextsRead.{reads_within}
use Rattle.cut.proofs.ReadAgain.{line_read}

-- A line that can be read ends within the script.
pub line_within : (s : List ℕ) (at : ℕ) (l : ScriptLine) → read_line s at ≡ Some l → l.next ≤ length s
line_within s at l e = reads_within (line_read s at l e) (omega (arith, line_long s at l e))

module _ (n : ℕ) (s : List ℕ) (at : ℕ) where
  pub entries_over : length s ≤ at → entries_from (suc n) s at ≡ Some []
  unfolding entries_from pick
  entries_over h = rw (le-ltb at (length s) h) refl

  module _ (h : at < length s) where
    pub entries_unreadable : read_line s at ≡ None → entries_from (suc n) s at ≡ None
    unfolding entries_from pick
    entries_unreadable e = rw (lt-ltb at (length s) h, e) refl

    pub entries_read : (l : ScriptLine) → read_line s at ≡ Some l
        → entries_from (suc n) s at ≡ with_first (entry_of s at l) (entries_from n s l.next)
    unfolding entries_from pick
    entries_read l e = rw (lt-ltb at (length s) h, e) refl

-- What holds of no lines, and of a line and those behind it if it holds of these, holds of all lines that were read.
module _ (s : List ℕ) (P : ℕ → ℕ → List Entry → Type 0) (over : (n at : ℕ) → length s ≤ at → P (suc n) at [])
    (more : (n at : ℕ) (l : ScriptLine) (es : List Entry) → at < length s → read_line s at ≡ Some l → P n l.next es
    → P (suc n) at (entry_of s at l ∷ es)) where
  pub along_entries : (n at : ℕ) (es : List Entry) → entries_from n s at ≡ Some es → P n at es
  unfolding entries_from pick
  along_entries zero at es e = let z : ◌≡◌ {A = ℕ} 0 1 = cc in absurd (omega arith)
  along_entries (suc n) at es e = ways (ltb at (length s)) refl (read_line s at) refl (entries_from n s) (along_entries n) e
    where
      behind : at < length s → (l : ScriptLine) → read_line s at ≡ Some l → (o : Option (List Entry))
          → ((es' : List Entry) → o ≡ Some es' → P n l.next es') → with_first (entry_of s at l) o ≡ Some es → P (suc n) at es
      behind h l e None rest g = let z : ◌≡◌ {A = ℕ} 0 1 = cc in absurd (omega arith)
      behind h l e (Some es') rest g =
          let same : entry_of s at l ∷ es' ≡ es = cc in
          subst (P (suc n) at) same (more n at l es' h e (rest es' refl))

      ways : (q : Bool) → ltb at (length s) ≡ q → (r : Option ScriptLine) → read_line s at ≡ r → (others : ℕ → Option (List Entry))
          → ((at' : ℕ) (es' : List Entry) → others at' ≡ Some es' → P n at' es')
          → pick q (entry_then s at r others) (Some []) ≡ Some es → P (suc n) at es
      ways false q r e others rest g =
          let same : [] ≡ es = cc in
          subst (P (suc n) at) same (over n at (ltb-false at (length s) q))
      ways true q None e others rest g = let z : ◌≡◌ {A = ℕ} 0 1 = cc in absurd (omega arith)
      ways true q (Some l) e others rest g = behind (ltb-true at (length s) q) l e (others l.next) (rest l.next) g
