-- The holders of cells: 0 is the free chain, 2n node n, 2t + 1 thread t. The first cell of each, and sums over those of one queue. Assumes
-- nothing.
use Prim.Native.Nat.{ℕ, ◌+◌, ◌*◌, ◌/◌, ◌%◌, ◌≤◌}
use native.Mathlib.Decide.{ℕ_discrete}
use native.Mathlib.Omega.{arith}
use mathlib.Core.Path.{◌≡◌, refl, sym, ap, subst, ◌∙◌}
use borrow.Author.Tests.{eq-eqb, ne_eqb}
use lib.Dec.{eqb}
use Rattle.region.specs.Pick.{pick, upd}
use Rattle.region.specs.Shape.{node_count}
use Rattle.region.specs.declared.record.Node.{Node}
use Rattle.region.specs.declared.shape.Shape.{Shape}
use Rattle.region.proofs.Picks.{upd_same, upd_other}
use Rattle.theory.proofs.Sums.{sum, sum_but, sum_has, sum_same}

-- the first cell of each
unfoldable pub heads : ℕ → (ℕ → Node) → (ℕ → ℕ) → ℕ → ℕ
heads free node own o = pick (eqb o 0) free (pick (eqb (o % 2) 0) (node (o / 2)).first (own (o / 2)))

module _ (free : ℕ) (node : ℕ → Node) (own : ℕ → ℕ) where
  pub head_free : heads free node own 0 ≡ free
  unfolding heads pick
  head_free = refl

  pub head_node : (n : ℕ) → 1 ≤ n → heads free node own (2 * n) ≡ (node n).first
  unfolding heads pick
  head_node n p =
      let e : (2 * n) / 2 ≡ n = omega arith in
      let r : (2 * n) % 2 ≡ 0 = omega arith in
      rw (ne_eqb (2 * n) 0 (λ z. omega arith), eq-eqb ((2 * n) % 2) 0 r) (ap (λ k. (node k).first) e)

  pub head_thread : (t : ℕ) → heads free node own (2 * t + 1) ≡ own t
  unfolding heads pick
  head_thread t =
      let e : (2 * t + 1) / 2 ≡ t = omega arith in
      let r : (2 * t + 1) % 2 ≡ 0 → ⊥ = λ z. omega arith in
      rw (ne_eqb (2 * t + 1) 0 (λ z. omega arith), ne_eqb ((2 * t + 1) % 2) 0 r) (ap own e)

  -- a holder whose part is left alone
  pub head_still : (free' : ℕ) (node' : ℕ → Node) (own' : ℕ → ℕ) (x : ℕ) → (x ≡ 0 → free' ≡ free)
      → ((n : ℕ) → 1 ≤ n → x ≡ 2 * n → (node' n).first ≡ (node n).first) → ((t : ℕ) → x ≡ 2 * t + 1 → own' t ≡ own t)
      → heads free' node' own' x ≡ heads free node own x
  unfolding heads pick
  head_still free' node' own' x hf hn ho = go (ℕ_discrete x 0) (ℕ_discrete (x % 2) 0)
    where
      go : Dec (x ≡ 0) → Dec (x % 2 ≡ 0)
          → pick (eqb x 0) free' (pick (eqb (x % 2) 0) (node' (x / 2)).first (own' (x / 2)))
          ≡ pick (eqb x 0) free (pick (eqb (x % 2) 0) (node (x / 2)).first (own (x / 2)))
      go (yes e) d = rw (eq-eqb x 0 e) (hf e)
      go (no n) (yes e) = rw (ne_eqb x 0 n, eq-eqb (x % 2) 0 e) (hn (x / 2) (omega arith) (omega arith))
      go (no n) (no m) = rw (ne_eqb x 0 n, ne_eqb (x % 2) 0 m) (ho (x / 2) (omega arith))

-- those of a queue of shape s
pub data Holder (s : Shape) : ℕ → Type 0 where
  free_holds : Holder s 0
  node_holds : (n : ℕ) → 1 ≤ n → n ≤ node_count s → Holder s (2 * n)
  thread_holds : (t : ℕ) → 1 ≤ t → t ≤ s.threads → Holder s (2 * t + 1)

-- f summed over them
unfoldable pub over_all : Shape → (ℕ → ℕ) → ℕ
over_all s f = f 0 + sum (λ n. f (2 * n)) (node_count s) + sum (λ t. f (2 * t + 1)) s.threads

-- each summand is within the sum
pub over_has : (s : Shape) (f : ℕ → ℕ) (x : ℕ) → Holder s x → f x ≤ over_all s f
unfolding over_all
over_has s f x free_holds = omega arith
over_has s f x (node_holds n l u) = omega (arith, sum_has (λ k. f (2 * k)) (node_count s) n l u)
over_has s f x (thread_holds t l u) = omega (arith, sum_has (λ k. f (2 * k + 1)) s.threads t l u)

-- a change at one holder
over_but : (s : Shape) (f g : ℕ → ℕ) (x : ℕ) → Holder s x → ((y : ℕ) → (y ≡ x → ⊥) → g y ≡ f y) → over_all s g + f x ≡ over_all s f + g x
unfolding over_all
over_but s f g x free_holds b =
    let n = sum_same (λ k. f (2 * k)) (λ k. g (2 * k)) (node_count s) (λ k l u. b (2 * k) (λ z. omega arith)) in
    let t = sum_same (λ k. f (2 * k + 1)) (λ k. g (2 * k + 1)) s.threads (λ k l u. b (2 * k + 1) (λ z. omega arith)) in
    omega (arith, n, t)
over_but s f g x (node_holds j l u) b =
    let n = sum_but (λ k. f (2 * k)) (λ k. g (2 * k)) (node_count s) j l u (λ k p q. b (2 * k) (λ z. q (omega arith))) in
    let t = sum_same (λ k. f (2 * k + 1)) (λ k. g (2 * k + 1)) s.threads (λ k p q. b (2 * k + 1) (λ z. omega arith)) in
    omega (arith, n, t, b 0 (λ z. omega arith))
over_but s f g x (thread_holds j l u) b =
    let n = sum_same (λ k. f (2 * k)) (λ k. g (2 * k)) (node_count s) (λ k p q. b (2 * k) (λ z. omega arith)) in
    let t = sum_but (λ k. f (2 * k + 1)) (λ k. g (2 * k + 1)) s.threads j l u (λ k p q. b (2 * k + 1) (λ z. q (omega arith))) in
    omega (arith, n, t, b 0 (λ z. omega arith))

-- a change at two holders
pub over_two : (s : Shape) (f g : ℕ → ℕ) (o q : ℕ) → Holder s o → Holder s q → (o ≡ q → ⊥)
    → ((y : ℕ) → (y ≡ o → ⊥) → (y ≡ q → ⊥) → g y ≡ f y) → over_all s g + f o + f q ≡ over_all s f + g o + g q
over_two s f g o q ho hq apart b =
    let h = upd f o (g o) in
    let a = over_but s f h o ho (λ y n. upd_other f o y (g o) n) in
    let c = over_but s h g q hq (λ y n. rest y n (ℕ_discrete y o)) in
    omega (arith, a, c, upd_same f o (g o), upd_other f o q (g o) (λ z. apart (sym z)))
  where
    rest : (y : ℕ) → (y ≡ q → ⊥) → Dec (y ≡ o) → g y ≡ upd f o (g o) y
    rest y n (yes e) = subst (λ x. g x ≡ upd f o (g o) x) (sym e) (sym (upd_same f o (g o)))
    rest y n (no e) = b y e n ∙ sym (upd_other f o y (g o) e)
