-- The order of the tree, for all depths together: a clean node's value is at most that of every node below it. Each effect
-- keeps it. Nodes are numbers, their values and marks functions; of the order of values only reflexivity and transitivity are
-- used. Assumes nothing.
use Prim.Native.Nat.{ℕ, zero, suc, ◌+◌, ◌*◌, ◌/◌, ◌≤◌}
use native.Mathlib.Decide.{ℕ_discrete}
use native.Mathlib.Omega.{arith}
use mathlib.Core.Path.{◌≡◌, refl, sym, ap, subst, subst₂, ◌∙◌}
use mathlib.Core.Logic.{◌⊎◌, inl, inr, ⊎_elim}

-- node a is x or an ancestor of x
pub data Above (a : ℕ) : ℕ → Type 0 where
  itself : Above a a
  further : (x : ℕ) → Above a (x / 2) → Above a x

-- An ancestor that is not x itself is one of its parent's.
pub above_parent : (a x : ℕ) → Above a x → (a ≡ x → ⊥) → Above a (x / 2)
above_parent a x itself n = absurd (n refl)
above_parent a x (further y h) n = h

-- Ancestors are no greater, so what lies above a node exists.
pub above_le : (a x : ℕ) → Above a x → a ≤ x
above_le a x itself = omega arith
above_le a x (further y h) = omega (arith, above_le a (y / 2) h)

a_child : (n x : ℕ) → n ≡ x / 2 → (2 * n ≡ x) ⊎ (2 * n + 1 ≡ x)
a_child n x e = side (ℕ_discrete (2 * n) x)
  where
    side : Dec (2 * n ≡ x) → (2 * n ≡ x) ⊎ (2 * n + 1 ≡ x)
    side (yes p) = inl p
    side (no p) = inr (omega arith)

lower : (n x : ℕ) → (n ≡ x / 2) ⊎ (Above (2 * n) (x / 2) ⊎ Above (2 * n + 1) (x / 2)) → Above (2 * n) x ⊎ Above (2 * n + 1) x
lower n x (inl e) = ⊎_elim (λ p. inl (subst (Above (2 * n)) p itself)) (λ p. inr (subst (Above (2 * n + 1)) p itself)) (a_child n x e)
lower n x (inr (inl p)) = inl (further x p)
lower n x (inr (inr p)) = inr (further x p)

-- What lies below n is n or lies below one of its children.
pub below_children : (n x : ℕ) → Above n x → (n ≡ x) ⊎ (Above (2 * n) x ⊎ Above (2 * n + 1) x)
below_children n x itself = inl refl
below_children n x (further y h) = inr (lower n y (below_children n (y / 2) h))

-- The root lies above every node.
pub root_above : (k x : ℕ) → x ≤ k → 1 ≤ x → Above 1 x
root_above zero x h p = absurd (omega arith)
root_above (suc k) x h p = go (ℕ_discrete 1 x) (root_above k (x / 2))
  where
    go : Dec (1 ≡ x) → (x / 2 ≤ k → 1 ≤ x / 2 → Above 1 (x / 2)) → Above 1 x
    go (yes e) r = subst (Above 1) e itself
    go (no n) r = further x (r (omega arith) (omega arith))

module _ {Value : Type 0} (◌≼◌ : Value → Value → Type 0) (≼_refl : (v : Value) → ◌≼◌ v v)
    (≼_trans : (u v w : Value) → ◌≼◌ u v → ◌≼◌ v w → ◌≼◌ u w) where
  infix 20 ◌≼◌
  -- a clean node's value is at most that of every node below it
  abbrev pub Ordered : (ℕ → Value) → (ℕ → ℕ) → Type 0
  Ordered val dirty = (a x : ℕ) → 1 ≤ a → Above a x → dirty a ≡ 0 → val a ≼ val x

  -- the same functions but at n
  abbrev pub But : {A : Type 0} → (ℕ → A) → (ℕ → A) → ℕ → Type 0
  But f g n = (x : ℕ) → 1 ≤ x → (x ≡ n → ⊥) → g x ≡ f x

  module _ (val val' : ℕ → Value) (dirty dirty' : ℕ → ℕ) (ord : Ordered val dirty) where
    -- A put's value at n: at most n's, and at least its parent's where it has one. The marks stay.
    pub push_ordered : (n : ℕ) (v : Value) → But val val' n → val' n ≡ v → ((x : ℕ) → dirty' x ≡ dirty x) → v ≼ val n
        → (2 ≤ n → val (n / 2) ≼ v) → Ordered val' dirty'
    push_ordered n v b ev ed le par a x p h c = go (ℕ_discrete a n) (ℕ_discrete x n)
      where
        clean : dirty a ≡ 0
        clean = sym (ed a) ∙ c

        go : Dec (a ≡ n) → Dec (x ≡ n) → val' a ≼ val' x
        go (yes ea) (yes ex) = subst (λ u. val' u ≼ val' x) (sym (ea ∙ sym ex)) (≼_refl (val' x))
        go (yes ea) (no nx) =
            subst (λ u. u ≼ val' x) (sym (ap val' ea ∙ ev))
            (subst (λ u. v ≼ u) (sym (b x (omega (arith, p, above_le a x h)) nx))
            (≼_trans v (val n) (val x) le (subst (λ u. val u ≼ val x) ea (ord a x p h clean))))
        go (no na) (yes ex) =
            let q = above_parent a n (subst (Above a) ex h) na in
            let g = above_le a (n / 2) q in
            subst (λ u. val' a ≼ u) (sym (ap val' ex ∙ ev))
            (subst (λ u. u ≼ v) (sym (b a p na)) (≼_trans (val a) (val (n / 2)) v (ord a (n / 2) p q clean) (par (omega arith))))
        go (no na) (no nx) = subst₂ (λ u w. u ≼ w) (sym (b a p na)) (sym (b x (omega (arith, p, above_le a x h)) nx)) (ord a x p h clean)

    -- The root's value changes and the root is dirty.
    pub pop_ordered : But val val' 1 → But dirty dirty' 1 → dirty' 1 ≡ 1 → Ordered val' dirty'
    pop_ordered b bd e a x p h c = go (ℕ_discrete a 1) (ℕ_discrete x 1)
      where
        go : Dec (a ≡ 1) → Dec (x ≡ 1) → val' a ≼ val' x
        go (yes ea) d = absurd (let z = sym (ap dirty' ea) ∙ c in omega arith)
        go (no na) (yes ex) = absurd (let g = above_le a x h in omega arith)
        go (no na) (no nx) =
            subst₂ (λ u w. u ≼ w) (sym (b a p na)) (sym (b x (omega (arith, p, above_le a x h)) nx))
            (ord a x p h (sym (bd a p na) ∙ c))

    -- Node n becomes clean: its children are clean and no less.
    pub clean_ordered : (n : ℕ) → 1 ≤ n → ((x : ℕ) → val' x ≡ val x) → But dirty dirty' n
        → dirty (2 * n) ≡ 0 → dirty (2 * n + 1) ≡ 0 → val n ≼ val (2 * n) → val n ≼ val (2 * n + 1) → Ordered val' dirty'
    clean_ordered n pn ev bd cl cr ll lr a x p h c =
        subst₂ (λ u w. u ≼ w) (sym (ev a)) (sym (ev x)) (go (ℕ_discrete a n))
      where
        under : (n ≡ x) ⊎ (Above (2 * n) x ⊎ Above (2 * n + 1) x) → val n ≼ val x
        under (inl e) = subst (λ u. val n ≼ val u) e (≼_refl (val n))
        under (inr (inl q)) = ≼_trans (val n) (val (2 * n)) (val x) ll (ord (2 * n) x (omega arith) q cl)
        under (inr (inr q)) = ≼_trans (val n) (val (2 * n + 1)) (val x) lr (ord (2 * n + 1) x (omega arith) q cr)

        go : Dec (a ≡ n) → val a ≼ val x
        go (yes e) = subst (λ u. val u ≼ val x) (sym e) (under (below_children n x (subst (λ u. Above u x) e h)))
        go (no na) = ord a x p h (sym (bd a p na) ∙ c)

    -- Node n and its child k exchange values; n is clean and k dirty. The child and its sibling j were clean, the child least
    -- of the three.
    module _ (n k j : ℕ) (pn : 1 ≤ n) (pk : k / 2 ≡ n) (ck : dirty k ≡ 0) (cj : dirty j ≡ 0)
        (kids : (x : ℕ) → Above n x → (n ≡ x) ⊎ (Above k x ⊎ Above j x)) (pj : 1 ≤ j) (lk : val k ≼ val n) (lj : val k ≼ val j)
        (vn : val' n ≡ val k) (vk : val' k ≡ val n) (vx : (x : ℕ) → (x ≡ n → ⊥) → (x ≡ k → ⊥) → val' x ≡ val x)
        (dk : dirty' k ≡ 1) (dx : (x : ℕ) → (x ≡ n → ⊥) → (x ≡ k → ⊥) → dirty' x ≡ dirty x) where
      -- the child's value is at most that of every other node below n
      under : (x : ℕ) → (n ≡ x) ⊎ (Above k x ⊎ Above j x) → (x ≡ n → ⊥) → val k ≼ val x
      under x (inl e) nn = absurd (nn (sym e))
      under x (inr (inl q)) nn = ord k x (omega arith) q ck
      under x (inr (inr q)) nn = ≼_trans (val k) (val j) (val x) lj (ord j x pj q cj)

      from_node : (x : ℕ) → Above n x → Dec (x ≡ n) → Dec (x ≡ k) → val' n ≼ val' x
      from_node x h (yes e) d = subst (λ u. val' n ≼ val' u) (sym e) (≼_refl (val' n))
      from_node x h (no nn) (yes e) = subst₂ (λ u w. u ≼ w) (sym vn) (sym (ap val' e ∙ vk)) lk
      from_node x h (no nn) (no nk) = subst₂ (λ u w. u ≼ w) (sym vn) (sym (vx x nn nk)) (under x (kids x h) nn)

      from_other : (a x : ℕ) → 1 ≤ a → Above a x → dirty a ≡ 0 → (a ≡ n → ⊥) → (a ≡ k → ⊥) → Dec (x ≡ n) → Dec (x ≡ k) → val a ≼ val' x
      from_other a x p h c nn nk (yes e) d =
          let q : Above a (k / 2) = subst (Above a) (e ∙ sym pk) h in
          subst (λ u. val a ≼ u) (sym (ap val' e ∙ vn)) (ord a k p (further k q) c)
      from_other a x p h c nn nk (no xn) (yes e) =
          let q = subst (Above a) pk (above_parent a k (subst (Above a) e h) nk) in
          subst (λ u. val a ≼ u) (sym (ap val' e ∙ vk)) (ord a n p q c)
      from_other a x p h c nn nk (no xn) (no xk) = subst (λ u. val a ≼ u) (sym (vx x xn xk)) (ord a x p h c)

      pub exchange_ordered : Ordered val' dirty'
      exchange_ordered a x p h c = go (ℕ_discrete a n) (ℕ_discrete a k)
        where
          go : Dec (a ≡ n) → Dec (a ≡ k) → val' a ≼ val' x
          go (yes e) d =
              subst (λ u. val' u ≼ val' x) (sym e) (from_node x (subst (λ u. Above u x) e h) (ℕ_discrete x n) (ℕ_discrete x k))
          go (no nn) (yes e) = absurd (let z = sym (ap dirty' e) ∙ c in omega arith)
          go (no nn) (no nk) =
              subst (λ u. u ≼ val' x) (sym (vx a nn nk))
              (from_other a x p h (sym (dx a nn nk) ∙ c) nn nk (ℕ_discrete x n) (ℕ_discrete x k))
