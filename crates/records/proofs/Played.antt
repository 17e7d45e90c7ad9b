-- The walk by position that plays the bag: what is left to play, from the bag that the heap holds, decides the whole. Over plain variables.
-- Assumes nothing.
use Prim.Native.Nat.{ℕ, suc, ◌+◌, ◌-◌, ◌≤◌, ◌<◌}
use native.Mathlib.Omega.{arith}
use native.Mathlib.Numerals.{add-one}
use mathlib.Core.Path.{◌≡◌, refl, sym, ap, ◌∙◌}
use mathlib.Core.Bool.{Bool, true, false, ◌&&◌}
use mathlib.Core.List.{List, []}
use Rattle.region.specs.declared.record.Item.{Item}
use Rattle.heap.specs.Heap.{copies}
use Rattle.records.specs.Accepts.{by_position, in_place, listed}
use Rattle.records.specs.Inner.{InHeap, PlayedOne, packed_copies}
use Rattle.records.specs.Play.{bag_after, bag_gives, plays}
use Rattle.records.specs.declared.form.Recorded.{Recorded}

-- the first k positions are played, and the heap h holds the bag
pub record Playing (n : ℕ) (r : ℕ → Recorded) (h : List ℕ) (size k : ℕ) : Type 0 where
  pub within : k ≤ n
  pub most : size ≤ k
  pub bag : List Item
  pub held : InHeap h size bag
  pub left : plays bag (listed (in_place n r) k (n - k)) ≡ plays [] (by_position n r)

pub play_start : (n : ℕ) (r : ℕ → Recorded) (h : List ℕ) → Playing n r h 0 0
unfolding copies packed_copies
play_start n r h =
    record {
      within = omega arith;
      most = omega arith;
      bag = [];
      held = record { ordered = λ k l m. absurd (omega arith); same = λ x. refl; size = refl; items = tt };
      left = ap (λ m. plays [] (listed (in_place n r) 0 m)) (omega arith);
    }

module _ {n : ℕ} {r : ℕ → Recorded} {h : List ℕ} {size k : ℕ} (f : Playing n r h size k)
    (l : k < n) (x : Recorded) (here : x ≡ in_place n r k) {h' : List ℕ} {size' : ℕ} (q : Bool) (d : PlayedOne h size x h' size' q) where
  -- one position less is left
  next : plays f.bag (listed (in_place n r) k (n - k)) ≡ bag_gives f.bag x && plays (bag_after f.bag x) (listed (in_place n r) (k + 1) (n - (k + 1)))
  unfolding plays listed
  next =
      ap (λ m. plays f.bag (listed (in_place n r) k m)) one_less
      ∙ ap (λ y. bag_gives f.bag y && plays (bag_after f.bag y) (listed (in_place n r) (suc k) (n - (k + 1)))) (sym here)
      ∙ ap (λ m. bag_gives f.bag x && plays (bag_after f.bag x) (listed (in_place n r) m (n - (k + 1)))) (sym (add-one k))
    where
      one_less : n - k ≡ suc (n - (k + 1))
      one_less = omega (arith, l)

  pub play_more : q ≡ true → Playing n r h' size' (k + 1)
  play_more given =
      record {
        within = omega arith;
        most = omega (arith, d.most, f.most);
        bag = bag_after f.bag x;
        held = d.after f.bag f.held given;
        left =
            ap (λ z. z && plays (bag_after f.bag x) (listed (in_place n r) (k + 1) (n - (k + 1)))) (sym given ∙ d.given f.bag f.held)
            ∙ sym next
            ∙ f.left;
      }

  pub play_stop : q ≡ false → false ≡ plays [] (by_position n r)
  play_stop g =
      ap (λ z. z && plays (bag_after f.bag x) (listed (in_place n r) (k + 1) (n - (k + 1))))
      (sym g ∙ d.given f.bag f.held)
      ∙ sym next
      ∙ f.left

pub play_end : {n : ℕ} {r : ℕ → Recorded} {h : List ℕ} {size k : ℕ} → Playing n r h size k → n ≤ k → true ≡ plays [] (by_position n r)
unfolding plays listed
play_end {n} {r} {h} {size} {k} f l =
    let none : 0 ≡ n - k = omega (arith, l) in ap (λ m. plays f.bag (listed (in_place n r) k m)) none ∙ f.left
