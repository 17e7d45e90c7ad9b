-- What only the contracts of inner functions and the proofs need. A reader of the result may skip this file.
use Rattle.std.specs.Prelude.{ℕ, ◌^◌, ◌<◌, List, [], ◌∷◌, get_or}

-- every element is a byte
abbrev pub Bytes : List ℕ → Type 0
Bytes b = (i : ℕ) → get_or b i 0 < 256

-- every element fits a word
abbrev pub Fit : List ℕ → Type 0
Fit [] = Unit
Fit (v ∷ vs) = (v < 2 ^ 32) × Fit vs
