-- Choosing by a test, and a function changed at one number.
use Rattle.std.specs.Prelude.{ℕ, Bool, true, false, eqb}

-- a where the test holds, else b
unfoldable pub pick : {A : Type 0} → Bool → A → A → A
pick true a b = a
pick false a b = b

-- f, but a at n
unfoldable pub upd : {A : Type 0} → (ℕ → A) → ℕ → A → ℕ → A
upd f n a m = pick (eqb m n) a (f m)
