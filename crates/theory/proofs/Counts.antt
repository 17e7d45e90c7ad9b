-- The tree's count as a sum over chains: walking every node's list counts the items of its chain. Assumes nothing.
use Prim.Native.Nat.{ℕ, zero, suc, ◌*◌, ◌≤◌}
use native.Mathlib.Omega.{arith}
use mathlib.Core.Path.{◌≡◌, refl, subst}
use mathlib.Core.Bool.{Bool}
use mathlib.Core.List.{List}
use lib.ListN.{length}
use Rattle.region.specs.Shared.{Shared}
use Rattle.region.specs.declared.record.Cell.{Cell}
use Rattle.region.specs.declared.record.Item.{Item}
use Rattle.theory.specs.Tree.{in_nodes}
use Rattle.theory.proofs.Cells.{Chains}
use Rattle.theory.proofs.Chains.{Chain, among, items, walk_counts}
use Rattle.theory.proofs.Sums.{sum}

-- how many items in the chain of node k pass the test
unfoldable pub in_chain : (ℕ → Cell) → (ℕ → List ℕ) → (Item → Bool) → ℕ → ℕ
in_chain cell list test k = among test (items cell (list (2 * k)))

pub tree_counts : (m : Shared) (own rank head : ℕ → ℕ) (list : ℕ → List ℕ) → Chains m.cell own rank head list
    → ((k : ℕ) → 1 ≤ k → head (2 * k) ≡ (m.node k).first) → (l : ℕ) (test : Item → Bool) (n : ℕ)
    → ((k : ℕ) → 1 ≤ k → k ≤ n → length (list (2 * k)) ≤ l) → in_nodes m test l n ≡ sum (in_chain m.cell list test) n
unfolding in_nodes in_chain sum
tree_counts m own rank head list chains heads l test zero few = refl
tree_counts m own rank head list chains heads l test (suc n) few =
    cc (
      tree_counts m own rank head list chains heads l test n (λ k p q. few k p (omega arith)),
      walk_counts m test l
          (subst (λ c. Chain m.cell own rank (2 * suc n) c (list (2 * suc n))) (heads (suc n) (omega arith)) (chains (2 * suc n)))
          (few (suc n) (omega arith) (omega arith)),
    )
