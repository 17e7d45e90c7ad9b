-- The columns in which a turn counts: the ways out of the functions, over plain variables. Assumes nothing.
use Prim.Native.Nat.{ℕ, ◌+◌}
use native.Mathlib.Omega.{arith}
use mathlib.Core.Path.{◌≡◌, refl, sym, subst}
use mathlib.Core.Bool.{false}
use mathlib.Core.List.{List}
use mir.Syntax.{w32}
use mir.Val.{Fits}
use lib.ListN.{get_or}
use Rattle.region.specs.Pick.{pick}
use Rattle.region.specs.declared.place.Place.{Place}
use Rattle.region.specs.declared.place.Place.TheVariants.{Idle, ReadDepth, ReadLeaf, ReadAncestor, GrowDepth, ReadTarget, InsertAtRoot, ReadParent, InsertBelow, ReadRoot, RemoveHead, MendReadNode, MendReadDepth, MendReadLeft, MendReadRight, MendSwap, MendClean, ListReadRoot, RemoveList, HandOut}
use Rattle.region.specs.declared.thread.Thread.{Thread}
use Rattle.access.specs.declared.plan.Plan.{Plan}
use Rattle.figures.proofs.Tally.{most_added, most_more}
use Rattle.figures.specs.Figures.{is_hand_out}
use Rattle.figures.specs.Inner.{Most, access_column, added, answer_column, counted, failed_column, took_column}

-- A place that does not hand out.
pub not_hand_out : (p : Place) → (p ≡ HandOut → ⊥) → is_hand_out p ≡ false
not_hand_out Idle h = refl
not_hand_out ReadDepth h = refl
not_hand_out ReadLeaf h = refl
not_hand_out ReadAncestor h = refl
not_hand_out GrowDepth h = refl
not_hand_out ReadTarget h = refl
not_hand_out InsertAtRoot h = refl
not_hand_out ReadParent h = refl
not_hand_out InsertBelow h = refl
not_hand_out ReadRoot h = refl
not_hand_out RemoveHead h = refl
not_hand_out (MendReadNode w) h = refl
not_hand_out (MendReadDepth w) h = refl
not_hand_out (MendReadLeft w) h = refl
not_hand_out (MendReadRight w) h = refl
not_hand_out (MendSwap w) h = refl
not_hand_out (MendClean w) h = refl
not_hand_out ListReadRoot h = refl
not_hand_out RemoveList h = refl
not_hand_out HandOut h = absurd (h refl)

pub takes_one : (p : Place) (t : Thread) → (p ≡ HandOut → ⊥) → 8 ≡ took_column p t
unfolding took_column pick
takes_one p t h = rw (not_hand_out p h) refl

-- One more in a column, and in the three of a turn.
pub one_fits : (l : List ℕ) (k : ℕ) → Most 4294967294 l → Fits w32 (get_or l k 0 + 1)
one_fits l k h = record { fits = omega (arith, h.each k) }

-- no figure is then more than one greater
module _ {l : List ℕ} (h : Most 4294967292 l) where
  pub first_room : Most 4294967294 l
  first_room = most_more (omega arith) h

  module _ (l₁ : List ℕ) (k₁ : ℕ) (e₁ : l₁ ≡ added l k₁) where
    pub second_room : Most 4294967294 l₁
    second_room = most_more (omega arith) (subst (Most 4294967293) (sym e₁) (most_added k₁ h))

    pub third_room : (l₂ : List ℕ) (k₂ : ℕ) → l₂ ≡ added l₁ k₂ → Most 4294967294 l₂
    third_room l₂ k₂ e₂ =
        subst (Most 4294967294) (sym e₂) (most_added k₂ (subst (Most 4294967293) (sym e₁) (most_added k₁ h)))

pub turn_counted : (l l₁ l₂ l₃ : List ℕ) (p : Place) (q : Plan) (k₁ k₂ k₃ : ℕ) → l₁ ≡ added l k₁ → k₁ ≡ access_column p q
    → l₂ ≡ added l₁ k₂ → k₂ ≡ failed_column p q → l₃ ≡ added l₂ k₃ → k₃ ≡ answer_column p q → l₃ ≡ counted l p q
unfolding counted
turn_counted l l₁ l₂ l₃ p q k₁ k₂ k₃ e₁ c₁ e₂ c₂ e₃ c₃ = rw (← c₁, ← c₂, ← c₃, ← e₁, ← e₂) e₃
