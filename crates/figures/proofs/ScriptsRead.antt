-- Reading scripts one after the other: each way out of the functions, over plain variables; and where scripts lie. Assumes nothing.
use Prim.Native.Nat.{ℕ, zero, suc, ◌+◌, ◌-◌, ◌≤◌, ◌<◌}
use native.Mathlib.Omega.{arith}
use mathlib.Core.Path.{◌≡◌, refl, sym, ap, ◌∙◌}
use mathlib.Core.Bool.{Bool, true, false}
use mathlib.Core.List.{List, [], ◌∷◌}
use borrow.Author.Tests.{le-leb, lt-leb, eq-eqb, ne_eqb}
use lib.Dec.{leb}
use lib.ListN.{length}
use Rattle.std.specs.Prelude.{Option, Some, None, Ok, Err}
use Rattle.region.specs.Refusal.{Checked, code_of, done}
use Rattle.region.specs.declared.refusal.Refusal.{Refusal}
use Rattle.region.proofs.Refusals.{not_done}
use Rattle.region.specs.Pick.{pick}
use Rattle.script.specs.Reading.{opening_at}
use Rattle.script.specs.Script.{setup_check, setup_refusal}
use Rattle.script.specs.declared.reading.ScriptLine.{ScriptLine}
use Rattle.script.specs.declared.reading.Setup.{Setup}
use Rattle.figures.specs.Scripts.{Found, found, unfound, found_then, Script, lines_at, opening_and_lines, read_scripts, script_at, scripts_at}
use Rattle.figures.specs.Inner.{end_of, is_found}

-- The script from a position on: its opening, its layout, its lines.
unfoldable pub with_lines : Setup → Found (List ScriptLine) → Found Script
with_lines u r = found_then r λ ls next. found (record { setup = u; lines = ls }) next

module _ (s : List ℕ) (at : ℕ) (r : Option Setup) (er : r ≡ opening_at s at) where
  whole : script_at s at ≡ opening_and_lines s r
  unfolding script_at
  whole = ap (opening_and_lines s) (sym er)

  pub no_script : r ≡ None → script_at s at ≡ unfound
  no_script g = whole ∙ ap (opening_and_lines s) g

  module _ (u : Setup) (g : r ≡ Some u) where
    pub not_accepted : (setup_refusal u ≡ done → ⊥) → script_at s at ≡ unfound
    unfolding pick
    not_accepted n = rw (ne_eqb (setup_refusal u) done n) at (whole ∙ ap (opening_and_lines s) g)

    pub accepted : setup_refusal u ≡ done
        → script_at s at ≡ with_lines u (lines_at (length s) s u.next)
    unfolding pick with_lines
    accepted e = rw (eq-eqb (setup_refusal u) done e) at (whole ∙ ap (opening_and_lines s) g)

pub same_end : (u : Setup) (r : Found (List ScriptLine)) → end_of (with_lines u r) ≡ end_of r
unfolding with_lines
same_end u (found ls next) = refl
same_end u unfound = refl

-- Where it ends.
module _ (s : List ℕ) (at : ℕ) (r : Option Setup) (er : r ≡ opening_at s at) where
  pub end_no_script : r ≡ None → (q : Option ℕ) → q ≡ None → q ≡ end_of (script_at s at)
  end_no_script g q e = e ∙ ap end_of (sym (no_script s at r er g))

  module _ (u : Setup) (g : r ≡ Some u) {c : Checked} (ec : c ≡ setup_check u) where
    pub end_refused : {y : Refusal} → c ≡ Err y → None ≡ end_of (script_at s at)
    unfolding setup_refusal
    end_refused {y} h = ap end_of (sym (not_accepted s at r er u g (λ z. not_done y (sym (ap code_of (sym ec ∙ h)) ∙ z))))

    pub end_lines : {x : Unit {0}} → c ≡ Ok x → (q : Option ℕ) → q ≡ end_of (lines_at (length s) s u.next) → q ≡ end_of (script_at s at)
    unfolding setup_refusal
    end_lines h q e =
        e ∙ sym (same_end u (lines_at (length s) s u.next)) ∙ ap end_of (sym (accepted s at r er u g (ap code_of (sym ec ∙ h))))

-- One script and the rest: n more are allowed.
module _ (n : ℕ) (s : List ℕ) (at : ℕ) where
  pub scripts_over : length s ≤ at → scripts_at n s at ≡ found [] at
  unfolding scripts_at pick
  scripts_over h = ways n
    where
      ways : (k : ℕ) → scripts_at k s at ≡ found [] at
      ways zero = rw (le-leb (length s) at h) refl
      ways (suc k) = rw (le-leb (length s) at h) refl

  module _ (h : at < length s) where
    pub too_many : n ≡ 0 → scripts_at n s at ≡ unfound
    unfolding scripts_at pick
    too_many e = rw (e, lt-leb (length s) at h) refl

    pub scripts_more : (k : ℕ) → n ≡ suc k
        → scripts_at n s at ≡ found_then (script_at s at) λ x next. found_then (scripts_at k s next) λ xs last. found (x ∷ xs) last
    unfolding scripts_at pick
    scripts_more k e = rw (e, lt-leb (length s) at h) refl

-- a script and those behind it
and_more : Found Script → (ℕ → Found (List Script)) → Found (List Script)
and_more r rest = found_then r λ x next. found_then (rest next) λ xs last. found (x ∷ xs) last

no_end : (r : Found Script) (rest : ℕ → Found (List Script)) → None ≡ end_of r → is_found (and_more r rest) ≡ false
unfolding and_more
no_end (found x next) rest e = let z : ◌≡◌ {A = ℕ} 0 1 = cc in absurd (omega arith)
no_end unfound rest e = refl

at_end : (r : Found Script) (rest : ℕ → Found (List Script)) (next : ℕ) → Some next ≡ end_of r → is_found (and_more r rest) ≡ is_found (rest next)
unfolding and_more
at_end unfound rest next e = let z : ◌≡◌ {A = ℕ} 0 1 = cc in absurd (omega arith)
at_end (found x n) rest next e =
    let same : n ≡ next = cc in
    both (rest n) ∙ ap (λ k. is_found (rest k)) same
  where
    both : (q : Found (List Script)) → is_found (found_then q λ xs last. found (x ∷ xs) last) ≡ is_found q
    both (found xs last) = refl
    both unfound = refl

-- Whether all can be read: what is left from here decides.
pub record Reading (s : List ℕ) (at count : ℕ) : Type 0 where
  pub left : is_found (scripts_at (64 - count) s at) ≡ is_found (read_scripts s)

pub input_long : (s : List ℕ) → 60000 < length s → false ≡ is_found (read_scripts s)
unfolding read_scripts pick
input_long s h = rw (lt-leb (length s) 60000 h) refl

pub read_start : (s : List ℕ) → length s ≤ 60000 → Reading s 0 0
unfolding read_scripts pick
read_start s h = record { left = rw (le-leb (length s) 60000 h) refl }

module _ {s : List ℕ} {at count : ℕ} (e : Reading s at count) where
  pub read_end : length s ≤ at → true ≡ is_found (read_scripts s)
  read_end h = ap is_found (sym (scripts_over (64 - count) s at h)) ∙ e.left

  -- no more scripts are read
  pub read_all : 64 ≤ count → leb (length s) at ≡ is_found (read_scripts s)
  unfolding scripts_at pick
  read_all h =
      let none : 64 - count ≡ 0 = omega arith in
      sym (last (leb (length s) at) refl) ∙ ap (λ n. is_found (scripts_at n s at)) (sym none) ∙ e.left
    where
      last : (q : Bool) → leb (length s) at ≡ q → is_found (scripts_at 0 s at) ≡ leb (length s) at
      last true g = rw g refl
      last false g = rw g refl

  module _ (h : at < length s) (n : count < 64) (r : Option ℕ) (er : r ≡ end_of (script_at s at)) where
    one_less : 64 - count ≡ suc (64 - (count + 1))
    one_less = omega arith

    pub read_not : r ≡ None → false ≡ is_found (read_scripts s)
    unfolding and_more
    read_not g =
        sym (no_end (script_at s at) (scripts_at (64 - (count + 1)) s) (sym g ∙ er))
        ∙ ap is_found (sym (scripts_more (64 - count) s at h (64 - (count + 1)) one_less))
        ∙ e.left

    pub read_more : (next : ℕ) → r ≡ Some next → Reading s next (count + 1)
    unfolding and_more
    read_more next g =
        record {
          left =
              sym (at_end (script_at s at) (scripts_at (64 - (count + 1)) s) next (sym g ∙ er))
              ∙ ap is_found (sym (scripts_more (64 - count) s at h (64 - (count + 1)) one_less))
              ∙ e.left;
        }
