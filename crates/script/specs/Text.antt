-- Text as bytes: quoted text, decimal numbers, and text at a position.
use Rattle.std.specs.Prelude.{ℕ, zero, suc, ◌+◌, ◌/◌, ◌%◌, Bool, true, false, ◌&&◌, List, [], ◌∷◌, ◌++◌, ltb, eqb, drop}
use Prim.Native.Char.{code}
use Prim.Native.String.{String, [] as none, ◌∷◌ as ◌then◌}
use Rattle.region.specs.Pick.{pick}
use Rattle.region.specs.Shape.{between}

-- a quoted text as its ASCII codes
abbrev pub ascii : String → List ℕ
ascii none = []
ascii (c then s) = code c ∷ ascii s

abbrev pub space : ℕ
space = 32

-- LF
abbrev pub line_end : ℕ
line_end = 10

-- whether the second list starts with the first
unfoldable pub starts_with : List ℕ → List ℕ → Bool
starts_with [] s = true
starts_with (c ∷ t) [] = false
starts_with (c ∷ t) (x ∷ s) = eqb c x && starts_with t s

-- whether the text t stands in s at a position
unfoldable pub text_at : List ℕ → ℕ → List ℕ → Bool
unfolding starts_with
text_at s at t = starts_with t (drop at s)

-- the digits 0 to 9
unfoldable pub is_digit : ℕ → Bool
is_digit c = between 48 c 57

-- the decimal digits of n, at most k of them
unfoldable pub digits : ℕ → ℕ → List ℕ
digits zero n = []
digits (suc k) n = pick (ltb n 10) ((48 + n) ∷ []) (digits k (n / 10) ++ ((48 + n % 10) ∷ []))

-- a number of 32 bits has at most ten
unfoldable pub decimal : ℕ → List ℕ
unfolding digits
decimal n = digits 10 n
