-- What the crates above cite of a cut: its refusals are known, and what it writes is short. Assumes nothing.
use Prim.Native.Nat.{ℕ, ◌≤◌}
use native.Mathlib.Omega.{arith}
use mathlib.Core.Path.{◌≡◌, refl, ap}
use mathlib.Core.Bool.{Bool, true, false}
use mathlib.Core.List.{List, []}
use borrow.Author.Tests.{eqb-true}
use lib.Dec.{eqb}
use lib.ListN.{length}
use Rattle.std.specs.Prelude.{Ok, Err}
use Rattle.region.specs.Refusal.{Checked, code_of, done}
use Rattle.region.specs.Pick.{pick}
use Rattle.region.proofs.Refusals.{number_most}
use Rattle.cut.specs.Whole.{read_script}
use Rattle.cut.specs.Cut.{cut_bytes, cut_check, cut_refusal, cut_script}
use Rattle.cut.proofs.CutIsRight.{cut_is_right}
use Rattle.cut.proofs.ScriptsRead.{script_read}

pub refusal_few : (s : List ℕ) (n room : ℕ) → cut_refusal s n room ≤ 16
unfolding cut_refusal
refusal_few s n room = go (cut_check s n room)
  where
    go : (c : Checked) → code_of c ≤ 16
    go (Ok x) = omega arith
    go (Err r) = number_most r

pub written_short : (s : List ℕ) (n room : ℕ) → length (cut_script s n room) ≤ 60000
unfolding cut_script pick
written_short s n room =
    ways (eqb (cut_refusal s n room) done) refl
  where
    ways : (q : Bool) → eqb (cut_refusal s n room) done ≡ q → length (cut_script s n room) ≤ 60000
    ways true q =
        let (x, e, c) = cut_is_right s n room (eqb-true (cut_refusal s n room) done q) in
        omega (arith, c.no_longer, (script_read s x e).opening.short)
    ways false q =
        let nothing : cut_script s n room ≡ [] = ap (λ p. pick p (cut_bytes n (read_script s)) []) q in
        omega (arith, ap length nothing)
