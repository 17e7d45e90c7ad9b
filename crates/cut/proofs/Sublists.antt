-- A list with elements left out is no longer than it was, and as long only where none is left out. Assumes nothing.
use Prim.Native.Nat.{◌≤◌}
use native.Mathlib.Nat.{suc_inj}
use native.Mathlib.Omega.{arith}
use mathlib.Core.Path.{◌≡◌, refl}
use mathlib.Core.List.Sublistᴰ
use mathlib.Core.List.{List, [], ◌∷◌, ◌++◌, Sublistᴰ}
use lib.ListN.{length}

module _ {A : Type 0} where
  pub part_length : {xs ys : List A} → Sublistᴰ xs ys → length xs ≤ length ys
  part_length Sublistᴰ.slnil = omega arith
  part_length (Sublistᴰ.cons p) = omega (arith, part_length p)
  part_length (Sublistᴰ.cons-cons e p) = omega (arith, part_length p)

  pub part_same : {xs ys : List A} → Sublistᴰ xs ys → length xs ≡ length ys → xs ≡ ys
  part_same Sublistᴰ.slnil h = refl
  part_same (Sublistᴰ.cons p) h = absurd (omega (arith, part_length p))
  part_same (Sublistᴰ.cons-cons e p) h = λ i. e i ∷ part_same p (suc_inj h) i

  pub part_without : (front : List A) (e : A) (back : List A) → Sublistᴰ (front ++ back) (front ++ (e ∷ back))
  part_without [] e back = Sublistᴰ.cons (Sublistᴰ.refl back)
  part_without (x ∷ front) e back = Sublistᴰ.cons-cons refl (part_without front e back)
