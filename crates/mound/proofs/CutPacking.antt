-- A cut's numbers in one, over plain variables: they fit, and the number is the definition's. Assumes nothing.
use Prim.Native.Nat.{ℕ}
use native.Mathlib.Omega.{arith}
use mathlib.Core.Path.{◌≡◌, ap, ◌∙◌}
use mathlib.Core.List.{List, ◌++◌}
use lib.ListN.{length, drop}
use Rattle.std.specs.Prelude.{Result}
use Rattle.region.specs.Refusal.{code_of}
use Rattle.region.specs.declared.refusal.Refusal.{Refusal}
use Rattle.cut.specs.Cut.{cut_refusal, cut_script}
use Rattle.cut.specs.Promises.{CutDown, written_of}
use Rattle.cut.proofs.Laws.{refusal_few, written_short}
use Rattle.mound.specs.Calls.{CutDone, cut_answer, packed_cut}
use Rattle.mound.specs.Inner.{CutPackable}

pub cut_fits : (s : List ℕ) (n room : ℕ) → CutPackable (cut_refusal s n room) (length (cut_script s n room))
cut_fits s n room = record { known = refusal_few s n room; short = written_short s n room }

module _ (s : List ℕ) (n : ℕ) (out out' : List ℕ) (o : Result ℕ Refusal) (h : CutDown s n out out' (code_of o) (written_of o)) where
  pub outcome_fits : CutPackable (code_of o) (written_of o)
  outcome_fits =
      record {
        known = omega (arith, h.refused, refusal_few s n (length out));
        short = omega (arith, h.count, written_short s n (length out));
      }

  pub cut_done : (r : ℕ) → r ≡ packed_cut (code_of o) (written_of o) → CutDone s n out out' r
  unfolding cut_answer
  cut_done r e =
      record {
        answer = e ∙ (λ i. packed_cut (h.refused i) (h.count i));
        bytes = h.bytes ∙ ap (λ m. cut_script s n (length out) ++ drop m out) h.count;
      }
