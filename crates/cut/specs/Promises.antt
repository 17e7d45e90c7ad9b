-- What `cut_script` answers and leaves in the lent slice.
use Rattle.std.specs.Prelude.{ℕ, ◌≡◌, List, ◌++◌, Result, Ok, Err, length, drop}
use Rattle.region.specs.declared.refusal.Refusal.{Refusal}
use Rattle.cut.specs.Cut.{cut_refusal, cut_script}

-- how many bytes a cut wrote: none where it is refused
abbrev pub written_of : Result ℕ Refusal → ℕ
written_of (Ok n) = n
written_of (Err r) = 0

-- s is the script, n the number, out and out' the slice before and after: the cut script stands at its start, and the bytes past it stay
pub record CutDown (s : List ℕ) (n : ℕ) (out out' : List ℕ) (refusal written : ℕ) : Type 0 where
  pub refused : refusal ≡ cut_refusal s n (length out)
  pub count : written ≡ length (cut_script s n (length out))
  pub bytes : out' ≡ cut_script s n (length out) ++ drop written out
