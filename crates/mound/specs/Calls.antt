-- What the calls' numbers stand for, and what a run and a cut answer and leave.
use Rattle.std.specs.Prelude.{ℕ, ◌+◌, ◌*◌, ◌≡◌, List, ◌++◌, length, drop}
use Rattle.region.specs.declared.record.Item.{Item}
use Rattle.region.specs.declared.shape.Shape.{Shape}
use Rattle.run.specs.Run.{run_refusal, run_result}
use Rattle.cut.specs.Cut.{cut_refusal, cut_script}

-- the shape that layout's numbers give: D, C, T, H
abbrev pub shape_given : ℕ → ℕ → ℕ → ℕ → Shape
shape_given d c t h = record { depth = d; cells = c; threads = t; threshold = h }

-- the item that put's numbers give
abbrev pub item_given : ℕ → ℕ → Item
item_given k t = record { key = k; tag = t }

-- a run's three numbers in one: bits 0 to 15 the refusal (0 none), 16 to 31 the turns served, 32 to 63 the accesses made
abbrev pub packed : ℕ → ℕ → ℕ → ℕ
packed refusal turns accesses = refusal + 65536 * turns + 4294967296 * accesses

-- "The result is the turns served .. and the accesses made"; of a refused run both are 0
unfoldable pub run_answer : List ℕ → List ℕ → ℕ → List ℕ → ℕ
run_answer b schedule limit answers =
    packed (run_refusal b schedule (length answers)) (run_result b schedule limit answers).turns
    (run_result b schedule limit answers).accesses

-- b, a are the region and the answers, b', a' afterwards
pub record RunDone (b b' schedule : List ℕ) (limit : ℕ) (a a' : List ℕ) (r : ℕ) : Type 0 where
  pub answer : r ≡ run_answer b schedule limit a
  pub region : b' ≡ (run_result b schedule limit a).region
  pub answers : a' ≡ (run_result b schedule limit a).answers

-- a cut's two numbers in one: bits 0 to 31 the refusal (0 none), 32 to 63 the length of what is written
abbrev pub packed_cut : ℕ → ℕ → ℕ
packed_cut refusal written = refusal + 4294967296 * written

unfoldable pub cut_answer : List ℕ → ℕ → ℕ → ℕ
cut_answer s n room = packed_cut (cut_refusal s n room) (length (cut_script s n room))

-- out, out' are the lent slice before and afterwards: what is left of the script s stands at its start, and "bytes past it stay" (document 02,
-- request 14); of a refused call all bytes do
pub record CutDone (s : List ℕ) (n : ℕ) (out out' : List ℕ) (r : ℕ) : Type 0 where
  pub answer : r ≡ cut_answer s n (length out)
  pub bytes : out' ≡ cut_script s n (length out) ++ drop (length (cut_script s n (length out))) out
