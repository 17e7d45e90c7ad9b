-- The number that a run answers tells its refusal, turns and accesses, since each keeps to its own bits. Assumes nothing.
use Prim.Native.Nat.{ℕ}
use native.Mathlib.Omega.{arith}
use Rattle.mound.specs.Calls.{packed, run_answer}
use Rattle.mound.specs.Inner.{Packable}
use Rattle.mound.specs.Theorems.{RunAnswerTellsAll, Tells}
use Rattle.mound.proofs.Packing.{answer_fits}

tells : (r k m : ℕ) → Packable r k m → Tells (packed r k m) r k m
tells r k m h = record { refusal = omega arith; turns = omega arith; accesses = omega arith }

pub run_answer_tells_all : RunAnswerTellsAll
unfolding run_answer
run_answer_tells_all b schedule limit a = tells _ _ _ (answer_fits b schedule limit a)
