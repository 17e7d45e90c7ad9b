-- A script can be read just where its opening and its lines can: its parts, and back. Assumes nothing.
use Prim.Native.Nat.{ℕ, ◌≤◌}
use native.Mathlib.Omega.{arith}
use mathlib.Core.Path.{◌≡◌, refl, sym, ap, subst, ◌∙◌}
use mathlib.Core.Bool.{Bool, true, false}
use mathlib.Core.List.{List}
use borrow.Author.Tests.{leb-true, le-leb}
use lib.Dec.{leb}
use lib.ListN.{length, take}
use Rattle.std.specs.Prelude.{Option, Some, None}
use Rattle.region.specs.Pick.{pick}
use Rattle.script.specs.Reading.{opening_at, read_opening}
use Rattle.script.specs.declared.reading.Setup.{Setup}
use Rattle.cut.specs.Whole.{Entry, Script, entries_from, opening_and_entries, read_script, with_opening}

-- The opening.
pub record OpeningIs (s : List ℕ) (u : Setup) : Type 0 where
  pub short : length s ≤ 60000
  pub read : opening_at s 0 ≡ Some u

pub opening_is : (s : List ℕ) (u : Setup) → read_opening s ≡ Some u → OpeningIs s u
unfolding read_opening pick
opening_is s u = ways (leb (length s) 60000) refl
  where
    ways : (q : Bool) → leb (length s) 60000 ≡ q → pick q (opening_at s 0) None ≡ Some u → OpeningIs s u
    ways true q e = record { short = leb-true (length s) 60000 q; read = e }
    ways false q e = let z : ◌≡◌ {A = ℕ} 0 1 = cc in absurd (omega arith)

pub is_opening : (s : List ℕ) (u : Setup) → OpeningIs s u → read_opening s ≡ Some u
unfolding read_opening pick
is_opening s u o = rw (le-leb (length s) 60000 o.short) o.read

-- The parts of a script that can be read.
pub record ScriptRead (s : List ℕ) (x : Script) : Type 0 where
  pub opening : OpeningIs s x.setup
  pub heading : x.opening ≡ take x.setup.next s
  pub entries : entries_from (length s) s x.setup.next ≡ Some x.lines

pub script_read : (s : List ℕ) (x : Script) → read_script s ≡ Some x → ScriptRead s x
unfolding read_script
script_read s x = ways (read_opening s) refl
  where
    lines : (u : Setup) → read_opening s ≡ Some u → (o : Option (List Entry)) → entries_from (length s) s u.next ≡ o
        → with_opening s u o ≡ Some x → ScriptRead s x
    lines u e None g h = let z : ◌≡◌ {A = ℕ} 0 1 = cc in absurd (omega arith)
    lines u e (Some es) g h =
        let same : record { setup = u; opening = take u.next s; lines = es } ≡ x = cc in
        subst (ScriptRead s) same (record { opening = opening_is s u e; heading = refl; entries = g })

    ways : (r : Option Setup) → read_opening s ≡ r → opening_and_entries s r ≡ Some x → ScriptRead s x
    ways None e h = let z : ◌≡◌ {A = ℕ} 0 1 = cc in absurd (omega arith)
    ways (Some u) e h = lines u e (entries_from (length s) s u.next) refl h

pub read_script_lem : (s : List ℕ) (x : Script) → ScriptRead s x → read_script s ≡ Some x
unfolding read_script
read_script_lem s x r =
    ap (opening_and_entries s) (is_opening s x.setup r.opening)
    ∙ ap (with_opening s x.setup) r.entries
    ∙ ap (λ t. Some (record { setup = x.setup; opening = t; lines = x.lines })) (sym r.heading)
