-- The number that a cut answers tells its refusal and its length, since each keeps to its own bits. Assumes nothing.
use Prim.Native.Nat.{ℕ}
use native.Mathlib.Omega.{arith}
use Rattle.mound.specs.Calls.{cut_answer, packed_cut}
use Rattle.mound.specs.Inner.{CutPackable}
use Rattle.mound.specs.Theorems.{CutAnswerTellsAll, TellsCut}
use Rattle.mound.proofs.CutPacking.{cut_fits}

tells : (r k : ℕ) → CutPackable r k → TellsCut (packed_cut r k) r k
tells r k h = record { refusal_told = omega arith; length_told = omega arith }

pub cut_answer_tells_all : CutAnswerTellsAll
unfolding cut_answer
cut_answer_tells_all s n room = tells _ _ (cut_fits s n room)
