-- A run's numbers in one, over plain variables: they fit, and the number is the definition's. Assumes nothing.
use Prim.Native.Nat.{ℕ}
use native.Mathlib.Omega.{arith}
use mathlib.Core.Path.{◌≡◌, ap, ◌∙◌}
use mathlib.Core.List.{List}
use lib.ListN.{length}
use Rattle.std.specs.Prelude.{Result}
use Rattle.region.specs.Refusal.{code_of}
use Rattle.region.specs.declared.refusal.Refusal.{Refusal}
use Rattle.run.specs.Run.{run_refusal, run_result}
use Rattle.run.specs.Inner.{Ran, counts_of}
use Rattle.run.specs.declared.Counts.{Counts}
use Rattle.run.proofs.Laws.{refusal_most, counts_most}
use Rattle.mound.specs.Calls.{RunDone, packed, run_answer}
use Rattle.mound.specs.Inner.{Packable}

module _ (b s : List ℕ) (limit : ℕ) (a : List ℕ) where
  pub answer_fits : Packable (run_refusal b s (length a)) (run_result b s limit a).turns (run_result b s limit a).accesses
  answer_fits =
      record {
        known = refusal_most b s (length a);
        few_turns = (counts_most b s limit a).turns;
        few_accesses = (counts_most b s limit a).accesses;
      }

  module _ (b' a' : List ℕ) (o : Result Counts Refusal) (h : Ran b b' s limit a a' o) where
    pub fits_outcome : Packable (code_of o) (counts_of o).turns (counts_of o).accesses
    fits_outcome =
        record {
          known = omega (arith, h.refusal, answer_fits.known);
          few_turns = omega (arith, ap (λ z. z.turns) h.served, answer_fits.few_turns);
          few_accesses = omega (
            arith,
            ap (λ z. z.turns) h.served,
            ap (λ z. z.accesses) h.served,
            answer_fits.few_accesses,
          );
        }

    pub run_done : (r : ℕ) → r ≡ packed (code_of o) (counts_of o).turns (counts_of o).accesses → RunDone b b' s limit a a' r
    unfolding run_answer
    run_done r e =
        record {
          answer = e ∙ (λ i. packed (h.refusal i) (h.served i).turns (h.served i).accesses);
          region = ap (λ z. z.region) h.served;
          answers = ap (λ z. z.answers) h.served;
        }
