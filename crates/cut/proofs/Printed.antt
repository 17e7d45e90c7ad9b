-- What the program prints: the number's line and the script read, and each way out of the functions, over plain variables. Assumes nothing.
use Prim.Native.Nat.{ℕ, ◌-◌, ◌≤◌, ◌<◌}
use native.Mathlib.Nat.{zero-add}
use native.Mathlib.Omega.{arith}
use mathlib.Core.Path.{◌≡◌, refl, sym, ap, subst, ◌∙◌}
use mathlib.Core.List.{List, [], ◌++◌, append_assoc}
use borrow.Author.Tests.{eq-eqb, le-leb, lt-leb, ne_eqb}
use lib.ListN.{length, take, drop, length-drop, take-append-drop}
use lib.Seq.{drop-append-le, length-take-le, take_all}
use Rattle.std.specs.Prelude.{Option, Some, None, Result, Ok, Err}
use Rattle.region.specs.Refusal.{code_of, done}
use Rattle.region.specs.declared.refusal.Refusal.{Refusal}
use Rattle.region.proofs.Refusals.{not_done}
use Rattle.region.specs.Pick.{pick}
use Rattle.script.specs.Inner.{Wrote}
use Rattle.script.specs.Reading.{number_then}
use Rattle.script.proofs.Decimals.{field_next, line_ends}
use Rattle.script.proofs.Texts.{written}
use Rattle.cut.specs.Cut.{cut_refusal, cut_script}
use Rattle.cut.specs.Promises.{CutDown, written_of}
use Rattle.cut.specs.Program.{CutPrinted, cut_or_refused, cut_output, refused_line}
use Rattle.cut.specs.Inner.{ScriptPrinted, ScriptRoom}
use Rattle.cut.proofs.CutIsRight.{cut_is_right}
use Rattle.cut.proofs.ReadAgain.{number_read}
use Rattle.cut.proofs.TextsRead.{reads_within}

-- A script printed: it stands at the start of its part of the output, and the rest of that part and what is behind it are as they were.
module _ {s out : List ℕ} (h : ScriptRoom s out) (n : ℕ) where
  pub part_long : length s ≡ length (take (length s) out)
  part_long = sym (length-take-le (length s) out h.room)

  module _ (part : List ℕ) (o : Result ℕ Refusal) (c : CutDown s n (take (length s) out) part (code_of o) (written_of o)) where
    abbrev k : ℕ
    k = written_of o

    refusal_is : code_of o ≡ cut_refusal s n (length s)
    refusal_is = c.refused ∙ ap (cut_refusal s n) (sym part_long)

    script_is : cut_script s n (length (take (length s) out)) ≡ cut_script s n (length s)
    script_is = ap (cut_script s n) (sym part_long)

    part_is : part ++ drop (length s) out ≡ cut_script s n (length s) ++ (drop k (take (length s) out) ++ drop (length s) out)
    part_is =
        ap (λ x. x ++ drop (length s) out) (c.bytes ∙ ap (λ x. x ++ drop k (take (length s) out)) script_is)
        ∙ append_assoc (cut_script s n (length s)) (drop k (take (length s) out)) (drop (length s) out)

    pub printed_cut : (m : ℕ) → o ≡ Ok m → ScriptPrinted s n out (part ++ drop (length s) out) m
    unfolding cut_or_refused pick
    printed_cut m em =
        let d : code_of o ≡ done = ap code_of em in
        let left : cut_or_refused s n ≡ cut_script s n (length s) = rw (eq-eqb (cut_refusal s n (length s)) done (sym refusal_is ∙ d)) refl in
        let (x, e, right) = cut_is_right s n (length s) (sym refusal_is ∙ d) in
        let long : k ≡ length (cut_script s n (length s)) = c.count ∙ ap length script_is in
        let behind : drop k (take (length s) out) ++ drop (length s) out ≡ drop k out =
        sym (drop-append-le k (take (length s) out) (drop (length s) out) (omega (arith, part_long, right.no_longer)))
        ∙ ap (drop k) (take-append-drop (length s) out) in
        subst (ScriptPrinted s n out (part ++ drop (length s) out)) (ap written_of em)
        (record {
          count = long ∙ ap length (sym left);
          output = part_is ∙ ap (λ x. cut_script s n (length s) ++ x) behind ∙ ap (λ x. x ++ drop k out) (sym left);
        })

    pub printed_refused : (y : Refusal) → o ≡ Err y → (out' : List ℕ) (m : ℕ) → Wrote (part ++ drop (length s) out) out' 0 m refused_line
        → ScriptPrinted s n out out' m
    unfolding cut_or_refused cut_script pick
    printed_refused y ey out' m w =
        let other : cut_refusal s n (length s) ≡ done → ⊥ = λ e. not_done y (sym (ap code_of ey) ∙ refusal_is ∙ e) in
        let left : cut_or_refused s n ≡ refused_line = rw (ne_eqb (cut_refusal s n (length s)) done other) refl in
        let nothing : cut_script s n (length s) ≡ [] = rw (ne_eqb (cut_refusal s n (length s)) done other) refl in
        let long : k ≡ 0 = c.count ∙ ap length (script_is ∙ nothing) in
        let same : part ++ drop (length s) out ≡ out =
        part_is
        ∙ ap (λ x. x ++ (drop k (take (length s) out) ++ drop (length s) out)) nothing
        ∙ ap (λ j. drop j (take (length s) out) ++ drop (length s) out) long
        ∙ take-append-drop (length s) out in
        record {
          count = w.next ∙ zero-add (length refused_line) ∙ ap length (sym left);
          output =
              written (part ++ drop (length s) out) out' m refused_line w
              ∙ ap (λ x. refused_line ++ drop m x) same
              ∙ ap (λ x. x ++ drop m out) (sym left);
        }

-- The whole output.
module _ (input out : List ℕ) where
  refused_output : cut_output input ≡ refused_line → (out' : List ℕ) (r : ℕ) → Wrote out out' 0 r refused_line → CutPrinted input out out' r
  refused_output e out' r w =
      record {
        count = w.next ∙ zero-add (length refused_line) ∙ ap length (sym e);
        output = written out out' r refused_line w ∙ ap (λ x. x ++ drop r out) (sym e);
      }

  pub too_long : 60011 < length input → (out' : List ℕ) (r : ℕ) → Wrote out out' 0 r refused_line → CutPrinted input out out' r
  unfolding cut_output pick
  too_long h = refused_output (rw (lt-leb (length input) 60011 h) refl)

  module _ (h : length input ≤ 60011) (x : Option (ℕ × ℕ)) (ex : x ≡ number_then input 0 10) where
    pub no_number : x ≡ None → (out' : List ℕ) (r : ℕ) → Wrote out out' 0 r refused_line → CutPrinted input out out' r
    unfolding cut_output pick
    no_number g = refused_output (rw (le-leb (length input) 60011 h, ← ex, g) refl)

    module _ (n at : ℕ) (g : x ≡ Some (n, at)) where
      pub script_there : at ≤ length input
      script_there =
          let read = sym ex ∙ g in
          reads_within (number_read 10 input 0 n at read) (omega (arith, field_next input 0 10 n at line_ends read))

      all_of_it : take (length input - at) (drop at input) ≡ drop at input
      all_of_it = take_all (length input - at) (drop at input) (omega (arith, length-drop at input))

      pub script_room : length out ≡ 60011 → ScriptRoom (take (length input - at) (drop at input)) out
      script_room z =
          record { room = omega (arith, ap length all_of_it, length-drop at input); line = omega arith }

      pub script_printed : (out' : List ℕ) (r : ℕ) → ScriptPrinted (take (length input - at) (drop at input)) n out out' r
          → CutPrinted input out out' r
      unfolding cut_output pick
      script_printed out' r p =
          let left : cut_or_refused (take (length input - at) (drop at input)) n ≡ cut_output input =
          ap (λ s. cut_or_refused s n) all_of_it ∙ sym (rw (le-leb (length input) 60011 h, ← ex, g) refl) in
          record { count = p.count ∙ ap length left; output = p.output ∙ ap (λ y. y ++ drop r out) left }
