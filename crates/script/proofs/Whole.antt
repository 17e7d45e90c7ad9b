-- The whole script: its heading, then what its opening leads to. Assumes nothing.
use Prim.Native.Nat.{ℕ, ◌+◌, ◌≤◌}
use native.Mathlib.Omega.{arith}
use mathlib.Core.Path.{◌≡◌, refl, sym, ap, subst, ◌∙◌}
use mathlib.Core.Bool.{Bool, true, false}
use mathlib.Core.List.{List, ◌++◌, append-nil}
use borrow.Author.Tests.{leb-true}
use lib.Dec.{leb}
use lib.ListN.{length, drop}
use Rattle.std.specs.Prelude.{Option, Some, None}
use Rattle.region.specs.Pick.{pick}
use Rattle.script.specs.Inner.{Appends, Wrote, SetupRan}
use Rattle.script.specs.Reading.{opening_at, read_opening}
use Rattle.script.specs.Printing.{line_text}
use Rattle.script.specs.Script.{Ran, after, opening_then, output_heading, script_run, setup_then}
use Rattle.script.specs.Promises.{ScriptRan}
use Rattle.script.specs.declared.printing.Outcome.TheVariants.{Unreadable}
use Rattle.script.specs.declared.reading.Setup.{Setup}
use Rattle.script.specs.declared.text.Text.{Text}
use Rattle.script.proofs.Texts.{appends_length, appends_more, written}

-- A script whose opening can be read is short enough.
pub opening_short : (s : List ℕ) (u : Setup) (r : Option Setup) → r ≡ read_opening s → r ≡ Some u → length s ≤ 60000
unfolding read_opening pick
opening_short s u r e g = ways (leb (length s) 60000) refl (sym e ∙ g)
  where
    ways : (q : Bool) → leb (length s) 60000 ≡ q → pick q (opening_at s 0) None ≡ Some u → length s ≤ 60000
    ways true f e = leb-true (length s) 60000 f
    ways false f e = let z : ◌≡◌ {A = ℕ} 0 1 = cc in absurd (omega arith)

module _ (s out g : List ℕ) (t₀ t₁ : Text) (from : t₀.len ≡ 0) (bytes : t₀.out.now ≡ out) (w : Appends t₀ t₁ output_heading)
    (r : Option Setup) (e : r ≡ read_opening s) where
  pub heading_room : length out ≡ 330082 → t₁.len + 330055 ≤ length t₁.out.now
  heading_room h = omega (arith, from, ap length bytes, w.wrote.next, appends_length w)

  run_is : (x : Ran) → opening_then s r ≡ x → script_run s ≡ after output_heading x
  unfolding script_run
  run_is x ex = ap (λ o. after output_heading (opening_then s o)) (sym e) ∙ ap (after output_heading) ex

  -- the whole from what the opening leads to
  whole_ran : (x : Ran) → opening_then s r ≡ x → {t₂ : Text} (g' : List ℕ) → Appends t₁ t₂ x.printed
      → g' ≡ x.region ++ drop (length x.region) g → ScriptRan s out t₂.out.now g g' t₂.len
  whole_ran x ex {t₂} g' v eg =
      let all : script_run s ≡ after output_heading x = run_is x ex in
      let done : Wrote out t₂.out.now 0 t₂.len (script_run s).printed =
      subst (λ y. Wrote out t₂.out.now 0 t₂.len y.printed) (sym all)
      (subst (λ n. Wrote out t₂.out.now n t₂.len (output_heading ++ x.printed)) from
      (subst (λ l. Wrote l t₂.out.now t₀.len t₂.len (output_heading ++ x.printed)) bytes (appends_more w v).wrote)) in
      record {
        count = omega (arith, done.next);
        output = written out t₂.out.now t₂.len (script_run s).printed done;
        region = eg ∙ ap (λ y. y.region ++ drop (length y.region) g) (sym all);
      }

  pub not_opened : r ≡ None → {t₂ : Text} → Appends t₁ t₂ (line_text 0 0 Unreadable) → ScriptRan s out t₂.out.now g g t₂.len
  not_opened n {t₂} v =
      whole_ran (opening_then s None) (ap (opening_then s) n) g
      (subst (Appends t₁ t₂) (sym (append-nil (line_text 0 0 Unreadable))) v)
      refl

  pub opened : (u : Setup) → r ≡ Some u → (g' : List ℕ) {t₂ : Text} → SetupRan s u g g' t₁ t₂ → ScriptRan s out t₂.out.now g g' t₂.len
  opened u n g' v = whole_ran (setup_then s u) (ap (opening_then s) n) g' v.output v.region
