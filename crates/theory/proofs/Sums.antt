-- Sums over nodes 1 to n: what a change at one node, and an exchange of two, make of them. Assumes nothing.
use Prim.Native.Nat.{ℕ, zero, suc, ◌+◌, ◌≤◌}
use native.Mathlib.Decide.{ℕ_discrete}
use native.Mathlib.Omega.{arith}
use mathlib.Core.Path.{◌≡◌, refl, sym, ap, subst, ◌∙◌}
use Rattle.region.specs.Pick.{upd}
use Rattle.region.proofs.Picks.{upd_same, upd_other}

-- f 1 + .. + f n
unfoldable pub sum : (ℕ → ℕ) → ℕ → ℕ
sum f zero = 0
sum f (suc n) = sum f n + f (suc n)

pub sum_same : (f g : ℕ → ℕ) (n : ℕ) → ((k : ℕ) → 1 ≤ k → k ≤ n → g k ≡ f k) → sum g n ≡ sum f n
unfolding sum
sum_same f g zero h = refl
sum_same f g (suc n) h =
    cc (sum_same f g n (λ k l u. h k l (omega arith)), h (suc n) (omega arith) (omega arith))

pub sum_zero : (f : ℕ → ℕ) (n : ℕ) → ((k : ℕ) → 1 ≤ k → k ≤ n → f k ≡ 0) → sum f n ≡ 0
unfolding sum
sum_zero f zero h = refl
sum_zero f (suc n) h = omega (arith, sum_zero f n (λ k l u. h k l (omega arith)), h (suc n) (omega arith) (omega arith))

-- each summand is within the sum
pub sum_has : (f : ℕ → ℕ) (n k : ℕ) → 1 ≤ k → k ≤ n → f k ≤ sum f n
unfolding sum
sum_has f zero k l u = absurd (omega arith)
sum_has f (suc n) k l u = go (ℕ_discrete k (suc n)) (sum_has f n k l)
  where
    go : Dec (k ≡ suc n) → (k ≤ n → f k ≤ sum f n) → f k ≤ sum f n + f (suc n)
    go (yes e) r = omega (arith, ap f e)
    go (no ne) r = omega (arith, r (omega arith))

-- a sum that is not 0 has a summand that is not
pub record Some (f : ℕ → ℕ) (n : ℕ) : Type 0 where
  pub at : ℕ
  pub least : 1 ≤ at
  pub most : at ≤ n
  pub some : 1 ≤ f at

pub sum_some : (f : ℕ → ℕ) (n : ℕ) → 1 ≤ sum f n → Some f n
unfolding sum
sum_some f zero h = absurd (omega arith)
sum_some f (suc n) h = go (ℕ_discrete (f (suc n)) 0) (sum_some f n)
  where
    go : Dec (f (suc n) ≡ 0) → (1 ≤ sum f n → Some f n) → Some f (suc n)
    go (yes e) r = let w = r (omega arith) in record { at = w.at; least = w.least; most = omega (arith, w.most); some = w.some }
    go (no ne) r = record { at = suc n; least = omega arith; most = omega arith; some = omega arith }

-- a change at one node
pub sum_but : (f g : ℕ → ℕ) (n k : ℕ) → 1 ≤ k → k ≤ n → ((x : ℕ) → 1 ≤ x → (x ≡ k → ⊥) → g x ≡ f x) → sum g n + f k ≡ sum f n + g k
unfolding sum
sum_but f g zero k l u b = absurd (omega arith)
sum_but f g (suc n) k l u b = go (ℕ_discrete k (suc n)) (λ q. sum_but f g n k l q b)
  where
    go : Dec (k ≡ suc n) → (k ≤ n → sum g n + f k ≡ sum f n + g k) → sum g n + g (suc n) + f k ≡ sum f n + f (suc n) + g k
    go (yes e) r =
        let s = sum_same f g n (λ x p q. b x p (λ z. omega arith)) in
        omega (arith, s, ap f e, ap g e)
    go (no ne) r = omega (arith, r (omega arith), b (suc n) (omega arith) (λ z. ne (sym z)))

-- two nodes exchange their summands
pub sum_exchange : (f g : ℕ → ℕ) (n j k : ℕ) → 1 ≤ j → j ≤ n → 1 ≤ k → k ≤ n → (j ≡ k → ⊥) → g j ≡ f k → g k ≡ f j
    → ((x : ℕ) → (x ≡ j → ⊥) → (x ≡ k → ⊥) → g x ≡ f x) → sum g n ≡ sum f n
sum_exchange f g n j k lj uj lk uk ne ej ek b =
    let h = upd f j (f k) in
    let s₁ = sum_but f h n j lj uj (λ x p q. upd_other f j x (f k) q) in
    let s₂ = sum_but h g n k lk uk (λ x p q. rest x q (ℕ_discrete x j)) in
    omega (arith, s₁, s₂, upd_same f j (f k), upd_other f j k (f k) (λ z. ne (sym z)), ej, ek)
  where
    rest : (x : ℕ) → (x ≡ k → ⊥) → Dec (x ≡ j) → g x ≡ upd f j (f k) x
    rest x nk (yes e) = subst (λ y. g y ≡ upd f j (f k) y) (sym e) (ej ∙ sym (upd_same f j (f k)))
    rest x nk (no nj) = b x nj nk ∙ sym (upd_other f j x (f k) nj)
