-- What a call that is not refused writes is made of lines of the script, can be read, shows the number and needs each of its lines: from
-- what passes leave, that they end, and that a script with lines left out can be read. Assumes nothing.
use Prim.Native.Nat.{ℕ, ◌≤◌}
use native.Mathlib.Omega.{arith}
use mathlib.Core.Path.{◌≡◌, refl, sym, ap, subst, ◌∙◌}
use mathlib.Core.Bool.{Bool, true, false}
use mathlib.Core.List
use mathlib.Core.List.{List, [], ◌∷◌, ◌++◌, Sublistᴰ}
use borrow.Author.Tests.{le-leb, leb-true}
use lib.Dec.{eqb, leb}
use lib.ListN.{length}
use Rattle.std.specs.Prelude.{Option, Some, None}
use Rattle.region.specs.Refusal.{code_of, done, granted, ◌unless◌otherwise◌}
use Rattle.region.specs.declared.refusal.Refusal.TheVariants.{BadLength, NotShown}
use Rattle.region.specs.Pick.{pick}
use Rattle.cut.specs.Whole.{Entry, Script, read_script, script_bytes, with_lines}
use Rattle.cut.specs.Shown.{shows}
use Rattle.cut.specs.Cut.{cut_bytes, cut_of, cut_refusal, cut_script, pass, shown_check}
use Rattle.cut.specs.Theorems.{CutIsRight, IsCut}
use Rattle.cut.proofs.Sublists.{part_without}
use Rattle.cut.proofs.Tried.{needs_each, passes_part, passes_same, passes_shows}
use Rattle.cut.proofs.PassesEnd.{passes_end}
use Rattle.cut.proofs.StaysReadable.{no_longer, stays_readable}

-- A call is not refused just where the slice has room, the script can be read and the number is shown.
pub record NotRefused (s : List ℕ) (n room : ℕ) (x : Script) : Type 0 where
  pub fits : length s ≤ room
  pub read : read_script s ≡ Some x
  pub shown : shows n x.setup x.lines ≡ true

pub not_refused : (s : List ℕ) (n room : ℕ) → cut_refusal s n room ≡ done → (x : Script) × NotRefused s n room x
unfolding cut_refusal pick
not_refused s n room = ways (leb (length s) room) refl (read_script s) refl
  where
    ways : (q : Bool) → leb (length s) room ≡ q → (o : Option Script) → read_script s ≡ o
        → code_of (BadLength unless q otherwise shown_check n o) ≡ done → (x : Script) × NotRefused s n room x
    ways false eq o e h = absurd (omega arith)
    ways true eq None e h = absurd (omega arith)
    ways true eq (Some x) e h = (x, shown (shows n x.setup x.lines) refl h)
      where
        shown : (q : Bool) → shows n x.setup x.lines ≡ q → code_of (NotShown unless q otherwise granted) ≡ done → NotRefused s n room x
        shown true g h = record { fits = leb-true (length s) room eq; read = e; shown = g }
        shown false g h = absurd (omega arith)

module _ {s : List ℕ} {n room : ℕ} {x : Script} (c : NotRefused s n room x) where
  pub is_not_refused : cut_refusal s n room ≡ done
  unfolding cut_refusal pick
  is_not_refused = rw (le-leb (length s) room c.fits, c.read, c.shown) refl

  pub cut_written : cut_script s n room ≡ script_bytes (cut_of n x)
  unfolding cut_script pick
  cut_written = ap (λ k. pick (eqb k done) (cut_bytes n (read_script s)) []) is_not_refused ∙ ap (cut_bytes n) c.read

-- What a script is cut down to: part of its lines, after which a pass removes none.
module _ (n : ℕ) (x : Script) where
  cut_part : Sublistᴰ (cut_of n x).lines x.lines
  unfolding cut_of
  cut_part = passes_part (shows n x.setup) (length x.lines) x.lines

  cut_shows : shows n x.setup x.lines ≡ true → shows n x.setup (cut_of n x).lines ≡ true
  unfolding cut_of
  cut_shows h = passes_shows (shows n x.setup) (length x.lines) x.lines h

  cut_last : pass (shows n x.setup) (cut_of n x).lines ≡ (cut_of n x).lines
  unfolding cut_of
  cut_last = passes_end.last (shows n x.setup) x.lines

  cut_twice : cut_of n (cut_of n x) ≡ cut_of n x
  unfolding cut_of
  cut_twice = ap (with_lines x) (passes_same (shows n x.setup) (length (cut_of n x).lines) (cut_of n x).lines cut_last)

  cut_reads : (s : List ℕ) → read_script s ≡ Some x → read_script (script_bytes (cut_of n x)) ≡ Some (cut_of n x)
  unfolding cut_of
  cut_reads s e = stays_readable s x e (cut_of n x).lines cut_part

module _ (s : List ℕ) (n room : ℕ) (x : Script) (c : NotRefused s n room x) where
  abbrev written : List ℕ
  written = cut_script s n room

  abbrev cut : Script
  cut = cut_of n x

  written_read : read_script written ≡ Some cut
  written_read = ap read_script (cut_written c) ∙ cut_reads n x s c.read

  written_short : length written ≤ length s
  unfolding cut_of
  written_short = omega (arith, ap length (cut_written c), no_longer s x c.read cut.lines (cut_part n x))

  -- a line less: it can be read, and does not show the number
  line_needed : (front : List Entry) (e : Entry) (back : List Entry) → cut.lines ≡ front ++ (e ∷ back)
      → (read_script (script_bytes (with_lines x (front ++ back))) ≡ Some (with_lines x (front ++ back)))
      × (shows n x.setup (front ++ back) ≡ false)
  line_needed front e back h =
      let part : Sublistᴰ (front ++ back) cut.lines =
      subst (λ es. Sublistᴰ (front ++ back) es) (sym h) (part_without front e back) in (
        stays_readable s x c.read (front ++ back) (List.Sublistᴰ.trans part (cut_part n x)),
        needs_each (shows n x.setup) cut.lines (cut_last n x) front e back h,
      )

  -- the next call
  next_call : (room' : ℕ) → length written ≤ room' → NotRefused written n room' cut
  unfolding cut_of
  next_call room' h = record { fits = h; read = written_read; shown = cut_shows n x c.shown }

  is_cut : IsCut s n x written
  is_cut =
      record {
        made_of_lines = cut_part n x;
        is_its_lines = cut_written c;
        can_be_read = written_read;
        no_longer = written_short;
        still_shows = cut_shows n x c.shown;
        needs_each_line = line_needed;
        cut_again = λ room' h. (
          is_not_refused (next_call room' h),
          cut_written (next_call room' h) ∙ ap script_bytes (cut_twice n x) ∙ sym (cut_written c),
        );
      }

pub cut_is_right : CutIsRight
cut_is_right s n room h =
    let (x, c) = not_refused s n room h in
    (x, c.read, is_cut s n room x c)
