-- The shape of a region, and the length of a region of that shape.
use Rattle.std.specs.Prelude.{ℕ, ◌+◌, ◌-◌, ◌*◌, ◌^◌, Bool, ◌&&◌, leb}
use Rattle.region.specs.Record.{counter_size, node_size, cell_size}
use Rattle.region.specs.Thread.{thread_size}
use Rattle.region.specs.declared.shape.Shape.{Shape}

-- lo ≤ x ≤ hi
unfoldable pub between : ℕ → ℕ → ℕ → Bool
between lo x hi = leb lo x && leb x hi

-- greatest depth D 1 to 12, cells C 1 to 2^(D−1), threads T 1 to 64, threshold H 1 to 16
unfoldable pub shape_fits : Shape → Bool
shape_fits s =
    between 1 s.depth 12
    && between 1 s.cells (2 ^ (s.depth - 1))
    && between 1 s.threads 64
    && between 1 s.threshold 16

-- 2^D − 1 nodes
abbrev pub node_count : Shape → ℕ
node_count s = 2 ^ s.depth - 1

-- six words: D, C, T, H, present depth, first free cell
abbrev pub head_size : ℕ
head_size = 6

-- the length in words; w is the words of a counter: 6 + 3 × (2^D − 1) + 3 × C + 33 × T where it is one
unfoldable pub region_words_of_width : ℕ → Shape → ℕ
region_words_of_width w s = head_size + node_size w * node_count s + cell_size * s.cells + thread_size w * s.threads

-- 6 + 4 × (2^D − 1) + 3 × C + 36 × T words
abbrev pub region_words : Shape → ℕ
region_words s = region_words_of_width counter_size s
