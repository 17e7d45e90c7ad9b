-- The old machine's answers, computed from the definitions. Assumes nothing.
use mathlib.Core.Path.{refl}
use Rattle.region.specs.Record.{counter_of}
use Rattle.computes.proofs.Computes.{computes}
use Rattle.converted.specs.Forms.{capped, old_counters_fit}
use Rattle.converted.specs.Replies.{refusal_by, serve_by, turns_of, turns_replied}
use Rattle.converted.specs.Worked.{OldMachineAnswers}

pub old_machine_answers : OldMachineAnswers
unfolding computes counter_of capped old_counters_fit refusal_by serve_by turns_replied turns_of
old_machine_answers = record { takes = refl; inserts = refl; refuses = refl }
