-- Reading lines up to the empty one: the most lines allowed do not matter, one line and the rest, and where lines end. Assumes nothing.
use Prim.Native.Nat.{ℕ, zero, suc, ◌+◌, ◌-◌, ◌≤◌, ◌<◌}
use native.Mathlib.Numerals.{add-one}
use native.Mathlib.Omega.{arith}
use mathlib.Core.Path.{◌≡◌, refl, sym, ap, ◌∙◌}
use mathlib.Core.List.{List, [], ◌∷◌}
use borrow.Author.Tests.{eq-eqb, ne_eqb}
use lib.Dec.{eqb}
use lib.ListN.{length, get_or, drop_of_length-le, get_or-eq_default}
use Rattle.std.specs.Prelude.{Option, Some, None}
use Rattle.region.specs.Pick.{pick}
use Rattle.script.specs.Text.{starts_with, text_at}
use Rattle.script.specs.Reading.{read_line}
use Rattle.script.specs.declared.reading.ScriptLine.{ScriptLine}
use Rattle.script.proofs.Readings.{line_long}
use Rattle.figures.specs.Scripts.{Found, found, unfound, found_then, lines_at}
use Rattle.figures.specs.Inner.{end_of}

-- Past the end there is no line, and no empty one.
no_line : (s : List ℕ) (at : ℕ) → length s ≤ at → read_line s at ≡ None
unfolding read_line text_at starts_with pick
no_line s at h = rw (drop_of_length-le s h) refl

pub lines_past : (n : ℕ) (s : List ℕ) (at : ℕ) → length s ≤ at → lines_at n s at ≡ unfound
unfolding lines_at pick
lines_past zero s at h = refl
lines_past (suc n) s at h = rw (get_or-eq_default s 0 h, no_line s at h) refl

-- As many lines as there are bytes left are enough.
pub enough : (n m : ℕ) (s : List ℕ) (at : ℕ) → length s ≤ at + n → length s ≤ at + m → lines_at n s at ≡ lines_at m s at
unfolding lines_at
enough zero m s at h g = lines_past zero s at (omega arith) ∙ sym (lines_past m s at (omega arith))
enough (suc n) zero s at h g = lines_past (suc n) s at (omega arith) ∙ sym (lines_past zero s at (omega arith))
enough (suc n) (suc m) s at h g = ways (read_line s at) refl (enough n m s)
  where
    ways : (r : Option ScriptLine) → read_line s at ≡ r
        → ((at' : ℕ) → length s ≤ at' + n → length s ≤ at' + m → lines_at n s at' ≡ lines_at m s at')
        → lines_at (suc n) s at ≡ lines_at (suc m) s at
    ways None e rest = rw e refl
    ways (Some l) e rest =
        let long = line_long s at l e in
        rw e
        (ap (λ r. pick (eqb (get_or s at 0) 10) (found [] (suc at)) (found_then r λ ls next. found (l ∷ ls) next))
        (rest l.next (omega arith) (omega arith)))

-- One line and the rest.
module _ (s : List ℕ) (at : ℕ) where
  abbrev lines : Found (List ScriptLine)
  lines = lines_at (length s) s at

  step : lines ≡ lines_at (suc (length s)) s at
  step = enough (length s) (suc (length s)) s at (omega arith) (omega arith)

  pub lines_ended : get_or s at 0 ≡ 10 → lines ≡ found [] (suc at)
  unfolding lines_at pick
  lines_ended h = rw (eq-eqb (get_or s at 0) 10 h) at step

  module _ (h : get_or s at 0 ≡ 10 → ⊥) where
    pub lines_unread : read_line s at ≡ None → lines ≡ unfound
    unfolding lines_at pick
    lines_unread e = rw (ne_eqb (get_or s at 0) 10 h, e) at step

    pub lines_more : (l : ScriptLine) → read_line s at ≡ Some l
        → lines ≡ found_then (lines_at (length s) s l.next) λ ls next. found (l ∷ ls) next
    unfolding lines_at pick
    lines_more l e = rw (ne_eqb (get_or s at 0) 10 h, e) at step

-- What is behind a line ends where both end, and is there where both are.
module _ (l : ScriptLine) where
  joined : Found (List ScriptLine) → Found (List ScriptLine)
  joined r = found_then r λ ls next. found (l ∷ ls) next

  same_end : (r : Found (List ScriptLine)) → end_of (joined r) ≡ end_of r
  unfolding joined
  same_end (found ls next) = refl
  same_end unfound = refl

-- Where lines end: what is left from here ends where the whole does.
pub record Ending (s : List ℕ) (start at : ℕ) : Type 0 where
  pub left : end_of (lines_at (length s) s at) ≡ end_of (lines_at (length s) s start)

module _ {s : List ℕ} {start at : ℕ} (e : Ending s start at) where
  pub end_past : length s ≤ at → None ≡ end_of (lines_at (length s) s start)
  end_past h = ap end_of (sym (lines_past (length s) s at h)) ∙ e.left

  pub end_found : get_or s at 0 ≡ 10 → Some (at + 1) ≡ end_of (lines_at (length s) s start)
  end_found h = ap Some (add-one at) ∙ ap end_of (sym (lines_ended s at h)) ∙ e.left

  module _ (h : get_or s at 0 ≡ 10 → ⊥) (r : Option ScriptLine) (er : r ≡ read_line s at) where
    pub end_unread : r ≡ None → (q : Option ℕ) → q ≡ None → q ≡ end_of (lines_at (length s) s start)
    end_unread g q eq = eq ∙ ap end_of (sym (lines_unread s at h (sym er ∙ g))) ∙ e.left

    module _ (l : ScriptLine) (g : r ≡ Some l) where
      pub end_less : at < length s → length s - l.next < length s - at
      end_less i = omega (arith, line_long s at l (sym er ∙ g))

      pub end_more : Ending s start l.next
      unfolding joined
      end_more =
          record {
            left = sym (same_end l (lines_at (length s) s l.next)) ∙ ap end_of (sym (lines_more s at h l (sym er ∙ g))) ∙ e.left;
          }
