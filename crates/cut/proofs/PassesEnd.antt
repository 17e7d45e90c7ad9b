-- Passes end: a pass that does not leave the lines as they are removes some, since what is left is part of them. Assumes nothing.
use Prim.Native.Nat.{ℕ, zero, suc, ◌≤◌, ◌<◌}
use native.Mathlib.Omega.{arith}
use mathlib.Core.Path.{◌≡◌, refl, sym}
use mathlib.Core.Bool.{Bool, true, false}
use mathlib.Core.List.{List, [], ◌∷◌}
use borrow.Author.Tests.{eqb-true, eqb-false}
use lib.Dec.{eqb}
use lib.ListN.{length}
use Rattle.region.specs.Pick.{pick}
use Rattle.cut.specs.Cut.{pass, passes, tried}
use Rattle.cut.specs.Theorems.{PassesEnd}
use Rattle.cut.proofs.Sublists.{part_length, part_same}
use Rattle.cut.proofs.Tried.{pass_part, passes_none}

module _ {A : Type 0} (shown : List A → Bool) where
  removes : (es : List A) → (pass shown es ≡ es → ⊥) → length (pass shown es) < length es
  removes es h =
      let other : length (pass shown es) ≡ length es → ⊥ = λ e. h (part_same (pass_part shown es) e) in
      omega (arith, part_length (pass_part shown es))

  fewer : (es : List A) → eqb (length (pass shown es)) (length es) ≡ false → length (pass shown es) < length es
  fewer es q = omega (arith, part_length (pass_part shown es), eqb-false (length (pass shown es)) (length es) q)

  -- as many passes as there are lines are enough
  same : (n m : ℕ) (es : List A) → length es ≤ n → length es ≤ m → passes n shown es ≡ passes m shown es
  unfolding passes pick
  same zero m [] h g = sym (passes_none shown m)
  same zero m (e ∷ es) h g = absurd (omega arith)
  same (suc n) zero [] h g = passes_none shown (suc n)
  same (suc n) zero (e ∷ es) h g = absurd (omega arith)
  same (suc n) (suc m) es h g = ways (eqb (length (pass shown es)) (length es)) refl (same n m (pass shown es))
    where
      ways : (q : Bool) → eqb (length (pass shown es)) (length es) ≡ q
          → (length (pass shown es) ≤ n → length (pass shown es) ≤ m → passes n shown (pass shown es) ≡ passes m shown (pass shown es))
          → pick q es (passes n shown (pass shown es)) ≡ pick q es (passes m shown (pass shown es))
      ways true q rest = refl
      ways false q rest = rest (omega (arith, fewer es q)) (omega (arith, fewer es q))

  -- after them a pass removes none
  at_end : (n : ℕ) (es : List A) → length es ≤ n → pass shown (passes n shown es) ≡ passes n shown es
  unfolding passes tried pick
  at_end zero [] h = refl
  at_end zero (e ∷ es) h = absurd (omega arith)
  at_end (suc n) es h = ways (eqb (length (pass shown es)) (length es)) refl (at_end n (pass shown es))
    where
      ways : (q : Bool) → eqb (length (pass shown es)) (length es) ≡ q
          → (length (pass shown es) ≤ n → pass shown (passes n shown (pass shown es)) ≡ passes n shown (pass shown es))
          → pass shown (pick q es (passes n shown (pass shown es))) ≡ pick q es (passes n shown (pass shown es))
      ways true q rest = part_same (pass_part shown es) (eqb-true (length (pass shown es)) (length es) q)
      ways false q rest = rest (omega (arith, fewer es q))

pub passes_end : {A : Type 0} → PassesEnd A
passes_end =
    record {
      removes = removes;
      enough = λ n shown es h. same shown n (length es) es h (omega arith);
      last = λ shown es. at_end shown (length es) es (omega arith);
    }
