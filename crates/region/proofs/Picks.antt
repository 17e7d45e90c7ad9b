-- Choosing by a test, and a function changed at one number: what holds of both values holds of the chosen one. Assumes nothing.
use Prim.Native.Nat.{ℕ}
use mathlib.Core.Path.{◌≡◌, refl}
use mathlib.Core.Bool.{Bool, true, false}
use borrow.Author.Tests.{eq-eqb, ne_eqb}
use lib.Dec.{eqb}
use Rattle.region.specs.Pick.{pick, upd}

pub pick_good : {A : Type 0} (P : A → Type 0) (q : Bool) {a b : A} → (q ≡ true → P a) → (q ≡ false → P b) → P (pick q a b)
unfolding pick
pick_good P true h g = h refl
pick_good P false h g = g refl

pub upd_same : {A : Type 0} (f : ℕ → A) (n : ℕ) (a : A) → upd f n a n ≡ a
unfolding upd pick
upd_same f n a = rw (eq-eqb n n refl) refl

pub upd_other : {A : Type 0} (f : ℕ → A) (n m : ℕ) (a : A) → (m ≡ n → ⊥) → upd f n a m ≡ f m
unfolding upd pick
upd_other f n m a h = rw (ne_eqb m n h) refl

pub upd_good : {A : Type 0} (P : A → Type 0) (f : ℕ → A) (n : ℕ) (a : A) → ((k : ℕ) → P (f k)) → P a → (k : ℕ) → P (upd f n a k)
unfolding upd
upd_good P f n a hf ha k = pick_good P (eqb k n) (λ e. ha) (λ e. hf k)
