-- Every history of a laid-out region, and its parts.
use Rattle.std.specs.Prelude.{ℕ, ◌≡◌, List, [], ◌∷◌, ◌++◌, length}
use Rattle.region.specs.Refusal.{done}
use Rattle.region.specs.declared.shape.Shape.{Shape}
use Rattle.layout.specs.Layout.{layout_refusal, layout_bytes}
use Rattle.bag.specs.Calls.{Call, NoAcceptedLayout}
use Rattle.bag.specs.History.{Moment, history}

-- for every shape, permission list and slice that layout accepts, and every list of calls without another accepted layout: P holds of the
-- shape, the permission list, the laid-out region and the calls' history
abbrev pub InEveryHistory : (Shape → List ℕ → List ℕ → List Moment → Type 0) → Type 0
InEveryHistory P =
    (s : Shape) (permissions b : List ℕ) → layout_refusal s permissions (length b) ≡ done → (calls : List Call)
    → NoAcceptedLayout (length b) calls → P s permissions (layout_bytes s permissions b) (history (layout_bytes s permissions b) calls)

-- P holds of the region before each moment and of the moment, b before the first
abbrev pub EachMoment : (List ℕ → Moment → Type 0) → List ℕ → List Moment → Type 0
EachMoment P b [] = Unit
EachMoment P b (m ∷ ms) = P b m × EachMoment P m.region ms

-- the region after these moments, b before them
abbrev pub region_after : List ℕ → List Moment → List ℕ
region_after b [] = b
region_after b (m ∷ ms) = region_after m.region ms

-- P holds of the shape, the permission list and the region after any of the moments: before, between and after the calls, and between the
-- turns of a run
abbrev pub Throughout : (Shape → List ℕ → List ℕ → Type 0) → Type 0
Throughout P =
    InEveryHistory λ s permissions b ms. (earlier later : List Moment) → ms ≡ earlier ++ later → P s permissions (region_after b earlier)
