-- Laying out a region (document 01, The region): "Layout sets depth 1, all nodes empty, clean, counter 0; cells chain 1, 2, .. C as free,
-- keys and tags 0; thread words 0 but the permission."
use Rattle.std.specs.Prelude.{ℕ, zero, suc, ◌+◌, ◌-◌, ◌*◌, ◌/◌, ◌%◌, ◌≡◌, Bool, true, ◌&&◌, List, [], ◌∷◌, leb, ltb, eqb, length, get_or}
use Rattle.words.specs.Word.{set_words}
use Rattle.region.specs.Refusal.{Checked, granted, code_of, done, ◌unless◌otherwise◌}
use Rattle.region.specs.declared.refusal.Refusal.TheVariants.{BadShape, BadLength}
use Rattle.region.specs.Frame.{frame_of, frame_of_width}
use Rattle.region.specs.Pick.{pick}
use Rattle.region.specs.Record.{counter_size, cell_size}
use Rattle.region.specs.Shape.{head_size, shape_fits, region_words}
use Rattle.region.specs.Thread.{thread_size, greatest_permission}
use Rattle.region.specs.declared.shape.Shape.{Shape}

-- every element is at most m
unfoldable pub at_most : ℕ → List ℕ → Bool
at_most m [] = true
at_most m (x ∷ xs) = leb x m && at_most m xs

-- "a permission list .. of T bytes of 0..3"
unfoldable pub permissions_fit : Shape → List ℕ → Bool
unfolding at_most
permissions_fit s ps = eqb (length ps) s.threads && at_most greatest_permission ps

-- what a layout is refused for: a shape outside the ranges, or a permission list that is not a byte of 0 to 3 for each thread; then a slice not of
-- the exact length. l is the slice's length in bytes
abbrev pub layout_check : Shape → List ℕ → ℕ → Checked
layout_check s ps l =
    BadShape unless shape_fits s && permissions_fit s ps
    otherwise BadLength unless eqb l (4 * region_words s)
    otherwise granted

unfoldable pub layout_refusal : Shape → List ℕ → ℕ → ℕ
layout_refusal s ps l = code_of (layout_check s ps l)

-- which word of a cell is the next cell: "key, tag, next cell (0 ends)"
abbrev pub next_word : ℕ
next_word = 2

-- word j of the cells: they chain, the last ends the chain
unfoldable pub cell_word : ℕ → ℕ → ℕ
cell_word cells j =
    pick (eqb (j % cell_size) next_word) (pick (ltb (j / cell_size + 1) cells) (j / cell_size + 2) 0) 0

-- word j of the threads: 0 but the permission, which comes first
unfoldable pub thread_word : List ℕ → ℕ → ℕ
thread_word ps j = pick (eqb (j % thread_size counter_size) 0) (get_or ps (j / thread_size counter_size) 0) 0

-- word k of a region as layout leaves it: "D, C, T, H, present depth, first free cell", nodes, cells, threads
unfoldable pub laid_word : Shape → List ℕ → ℕ → ℕ
unfolding frame_of_width cell_word thread_word
laid_word s ps k =
    pick
    (ltb k head_size)
    (get_or (s.depth ∷ s.cells ∷ s.threads ∷ s.threshold ∷ 1 ∷ 1 ∷ []) k 0)
    (pick
    (ltb k (frame_of s).cells)
    0
    (pick
    (ltb k (frame_of s).threads)
    (cell_word s.cells (k - (frame_of s).cells))
    (thread_word ps (k - (frame_of s).threads))))

-- the n words from word k on
unfoldable pub laid_words : Shape → List ℕ → ℕ → ℕ → List ℕ
laid_words s ps k zero = []
laid_words s ps k (suc n) = laid_word s ps k ∷ laid_words s ps (suc k) n

-- the slice b afterwards: each word is laid out, or, where the call is refused, no byte changes
unfoldable pub layout_bytes : Shape → List ℕ → List ℕ → List ℕ
layout_bytes s ps b = pick (eqb (layout_refusal s ps (length b)) done) (set_words b 0 (laid_words s ps 0 (region_words s))) b

-- what the call answers and leaves
pub record LaidOut (s : Shape) (ps b b' : List ℕ) (r : ℕ) : Type 0 where
  pub answer : r ≡ layout_refusal s ps (length b)
  pub bytes : b' ≡ layout_bytes s ps b
