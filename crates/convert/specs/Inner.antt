-- What only the contracts of inner functions and the proofs need. A reader of the result may skip this file.
use Rattle.std.specs.Prelude.{ℕ, ◌+◌, ◌*◌, ◌≤◌, ◌≡◌, List}
use Rattle.words.specs.Word.{words_at}
use Rattle.region.specs.Inner.{InRange}
use Rattle.region.specs.Shape.{region_words, region_words_of_width}
use Rattle.region.specs.Record.{old_counter_size, cell_size}
use Rattle.region.specs.declared.shape.Shape.{Shape}

-- n words from word `from` of l bytes go to m words from word `to` of r bytes
pub record Room (l from n r to m : ℕ) : Type 0 where
  pub source : 4 * (from + n) ≤ l
  pub target : 4 * (to + m) ≤ r

-- slices of the exact lengths of an old region and of a new one of the same shape
pub record Exact (s : Shape) (l r : ℕ) : Type 0 where
  pub shape : InRange s
  pub source : l ≡ 4 * region_words_of_width old_counter_size s
  pub target : r ≡ 4 * region_words s

-- the words of the cell at word `at`, which are carried over as they are
abbrev pub cell_carried : List ℕ → ℕ → List ℕ
cell_carried b at = words_at b at cell_size
