-- The loops of push and pop, and the ways of `lesser_child`: the invariants, one pass of each and each way out, over plain variables.
-- The hole filled with the number to be stored always counts what the contract says. Assumes nothing.
use Prim.Native.Nat.{ℕ, suc, ◌+◌, ◌-◌, ◌/◌, ◌≤◌, ◌<◌}
use native.Mathlib.Numerals.{add-one}
use native.Mathlib.Omega.{arith}
use mathlib.Core.Path.{◌≡◌, refl, sym, ap, subst, ◌∙◌}
use mathlib.Core.Logic.{◌≢◌}
use mathlib.Core.List.{List}
use lib.Dec.{eqb}
use lib.ListN.{length, get_or, set, length-set}
use lib.Seq.{get_or-set_same, get_or-set_other}
use Rattle.region.specs.Pick.{pick}
use Rattle.heap.specs.Heap.{copies, Ordered, Popped}
use Rattle.heap.specs.Inner.{LeastChild}
use Rattle.heap.proofs.Laws.{copies_above, copies-set}
use Rattle.heap.proofs.Holes.{Hole, FitsAbove, FitsBelow, settled, up_hole, up_below, down_hole, down_above}

-- A step of the hole from i to k changes no count.
moved : (h : List ℕ) (m i k x y : ℕ) → 1 ≤ i → i ≤ m → 1 ≤ k → k ≤ m → m < length h → k ≢ i
    → copies (set (set h i (get_or h k 0)) k x) m y ≡ copies (set h i x) m y
moved h m i k x y li ui lk uk r n =
    omega (
      arith,
      copies-set h m i x y li ui (omega arith),
      copies-set h m i (get_or h k 0) y li ui (omega arith),
      ap (λ v. copies (set (set h i (get_or h k 0)) k x) m y + pick (eqb v y) 1 0) (sym (get_or-set_other h i k (get_or h k 0) 0 n)),
      copies-set (set h i (get_or h k 0)) m k x y lk uk (simp length-set (omega arith)),
    )

-- Push: the hole at i has risen from the end.
pub record Rising (h₀ : List ℕ) (n x : ℕ) (h : List ℕ) (i : ℕ) : Type 0 where
  pub some : 1 ≤ i
  pub within : i ≤ n + 1
  pub room : n + 1 < length h
  pub same : length h ≡ length h₀
  pub hole : Ordered h₀ n → Hole h (n + 1) i
  pub below : Ordered h₀ n → FitsBelow h (n + 1) i x
  pub counted : (y : ℕ) → copies (set h i x) (n + 1) y ≡ copies h₀ n y + pick (eqb x y) 1 0

pub push_start : (h : List ℕ) (n x : ℕ) → n + 1 < length h → Rising h n x h (n + 1)
unfolding copies
push_start h n x r =
    record {
      some = omega arith;
      within = omega arith;
      room = r;
      same = refl;
      hole = λ o. record { apart = λ j l u a b. o j l (omega arith); around = λ j l u e k. absurd (omega arith) };
      below = λ o j l u e. absurd (omega arith);
      counted = λ y.
          let s : suc n < length h = omega arith in
          rw (add-one n, get_or-set_same h (suc n) x 0 s, copies_above h n (suc n) x y (omega arith)) refl;
    }

module _ {h₀ : List ℕ} {n x : ℕ} {h : List ℕ} {i : ℕ} (e : Rising h₀ n x h i) where
  pub push_more : 1 < i → x < get_or h (i / 2) 0 → Rising h₀ n x (set h i (get_or h (i / 2) 0)) (i / 2)
  push_more l g =
      let r : i < length h = omega arith in
      record {
        some = omega arith;
        within = omega arith;
        room = simp length-set (omega arith);
        same = simp length-set e.same;
        hole = λ o. up_hole h (n + 1) i r (e.hole o) x (e.below o) l e.within g;
        below = λ o. up_below h (n + 1) i r (e.hole o) x (e.below o) l e.within g;
        counted = λ y.
            moved h (n + 1) i (i / 2) x y e.some e.within (omega arith) (omega arith) e.room (λ z. omega arith)
            ∙ e.counted y;
      }

-- Pop: the hole at i has sunk from the top; the last number, x, is to be stored and still stands behind the others.
pub record Sinking (h₀ : List ℕ) (n x : ℕ) (h : List ℕ) (i : ℕ) : Type 0 where
  pub some : 1 ≤ i
  pub within : i ≤ n - 1
  pub room : n < length h
  pub same : length h ≡ length h₀
  pub behind : get_or h n 0 ≡ x
  pub hole : Ordered h₀ n → Hole h (n - 1) i
  pub above : Ordered h₀ n → FitsAbove h i x
  pub counted : (y : ℕ) → copies (set h i x) (n - 1) y + pick (eqb (get_or h₀ 1 0) y) 1 0 ≡ copies h₀ n y

copies_last : (h : List ℕ) (n y : ℕ) → 1 ≤ n → copies h (n - 1) y + pick (eqb (get_or h n 0) y) 1 0 ≡ copies h n y
unfolding copies
copies_last h n y l =
    let e : suc (n - 1) ≡ n = omega arith in
    subst (λ k. copies h (n - 1) y + pick (eqb (get_or h k 0) y) 1 0 ≡ copies h k y) e refl

pub pop_start : (h : List ℕ) (n : ℕ) → n < length h → (n - 1 ≡ 0 → ⊥) → Sinking h n (get_or h n 0) h 1
pop_start h n r k =
    record {
      some = omega arith;
      within = omega arith;
      room = r;
      same = refl;
      behind = refl;
      hole = λ o. record { apart = λ j l u a b. o j l (omega arith); around = λ j l u e t. absurd (omega arith) };
      above = λ o t. absurd (omega arith);
      counted = λ y.
          copies-set h (n - 1) 1 (get_or h n 0) y (omega arith) (omega arith) (omega arith)
          ∙ copies_last h n y (omega arith);
    }

pub pop_one : (h : List ℕ) (n : ℕ) → 1 ≤ n → n - 1 ≡ 0 → Popped h n h
pop_one h n l z =
    let e : n ≡ 1 = omega arith in
    record {
      same_length = refl;
      ordered = λ o k a b. absurd (omega arith);
      counted = λ y. subst (λ k. copies h (n - 1) y + pick (eqb (get_or h k 0) y) 1 0 ≡ copies h n y) e (copies_last h n y l);
    }

module _ {h₀ : List ℕ} {n x : ℕ} {h : List ℕ} {i : ℕ} (e : Sinking h₀ n x h i) where
  popped : (Ordered h₀ n → FitsBelow h (n - 1) i x) → Popped h₀ n (set h i x)
  popped b =
      record {
        same_length = simp length-set e.same;
        ordered = λ o. settled h (n - 1) i (omega arith) (e.hole o) x (e.above o) (b o);
        counted = e.counted;
      }

  pub pop_end : (n - 1) / 2 < i → Popped h₀ n (set h i x)
  pop_end l = popped (λ o j a b z. absurd (omega arith))

  module _ (c : ℕ) (w : LeastChild h n i c) where
    pub pop_stop : x ≤ get_or h c 0 → Popped h₀ n (set h i x)
    pop_stop g = popped (λ o j a b z. let k = w.least j (omega arith) z in omega (arith, g, k))

    -- the number behind the others is not less than itself
    inside : get_or h c 0 < x → LeastChild h (n - 1) i c
    inside g =
        record {
          child = w.child;
          within =
              let k : c ≡ n → ⊥ = λ z. omega (arith, g, ap (λ y. get_or h y 0) z, e.behind) in
              omega (arith, w.within, k);
          least = λ j u z. w.least j (omega arith) z;
        }

    pub pop_more : get_or h c 0 < x → Sinking h₀ n x (set h i (get_or h c 0)) c
    pop_more g =
        let r : i < length h = omega arith in
        let s = inside g in
        record {
          behind = get_or-set_other h i n (get_or h c 0) 0 (λ z. omega (arith, z, e.within, e.some)) ∙ e.behind;
          some = omega (arith, s.child);
          within = s.within;
          room = simp length-set e.room;
          same = simp length-set e.same;
          hole = λ o. down_hole h (n - 1) i r (e.hole o) c x s e.some;
          above = λ o. down_above h (n - 1) i r (e.hole o) c x s e.some g;
          counted = λ y.
              ap (λ k. k + pick (eqb (get_or h₀ 1 0) y) 1 0)
              (moved h (n - 1) i c x y e.some e.within (omega (arith, s.child)) s.within (omega arith) (λ z. omega (arith, s.child)))
              ∙ e.counted y;
        }
