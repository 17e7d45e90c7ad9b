-- Little-endian 32-bit words in a list of bytes. Words count from 0; word k is bytes 4k to 4k + 3.
-- Past the end a byte reads as 0 and a store does nothing.
use Rattle.std.specs.Prelude.{ℕ, zero, suc, ◌+◌, ◌*◌, ◌/◌, ◌%◌, List, [], ◌∷◌, get_or, set}

-- word k of the bytes b, the least byte first
unfoldable pub word : List ℕ → ℕ → ℕ
word b k =
    get_or b (4 * k) 0 + 256 * get_or b (4 * k + 1) 0 + 65536 * get_or b (4 * k + 2) 0 + 16777216 * get_or b (4 * k + 3) 0

-- the bytes b with v as word k
unfoldable pub set_word : List ℕ → ℕ → ℕ → List ℕ
set_word b k v =
    set
    (set
    (set (set b (4 * k) (v % 256)) (4 * k + 1) (v / 256 % 256))
    (4 * k + 2)
    (v / 65536 % 256))
    (4 * k + 3)
    (v / 16777216 % 256)

-- the n words from word `at` on
abbrev pub words_at : List ℕ → ℕ → ℕ → List ℕ
words_at b at zero = []
words_at b at (suc n) = word b at ∷ words_at b (suc at) n

-- the bytes b with vs as the words from word `at` on
abbrev pub set_words : List ℕ → ℕ → List ℕ → List ℕ
set_words b at [] = b
set_words b at (v ∷ vs) = set_words (set_word b at v) (suc at) vs
