-- "When I1 reads depth D, the choice counts only at the first try since the put began at which d was D .. The leaf word already tells whether there
-- was such a try." (document 02, request 8): I2 goes by the leaf word (`has_tried_deepest`), and here such a try is told from the history. The two
-- agree. Proved in proofs/Tries.antt.
use Rattle.std.specs.Prelude.{ℕ, ◌≡◌, Bool, true, false, ◌&&◌, ◌||◌, List, [], ◌∷◌, eqb}
use Rattle.region.specs.Pick.{pick}
use Rattle.region.specs.Thread.{is_idle}
use Rattle.region.specs.declared.place.Place.TheVariants.{ReadLeaf}
use Rattle.region.specs.declared.shape.Shape.{Shape}
use Rattle.access.specs.Plan.{accesses_of}
use Rattle.readable.specs.Readable.{shape_in}
use Rattle.insert.specs.Insert.{has_tried_deepest}
use Rattle.bag.specs.History.{Event, called, turned, Moment}
use Rattle.bag.specs.Operations.{begins}
use Rattle.bag.specs.Permission.{thread_on}
use Rattle.bag.specs.Told.{stands}

-- a try of thread t with d at D: it makes its access at I2, b being the region just before
abbrev pub tries_deepest : ℕ → List ℕ → Event → Bool
tries_deepest t b (called c r) = false
tries_deepest t b (turned x) =
    eqb t x.thread
    && stands x.from ReadLeaf
    && eqb (accesses_of x.answer) 1
    && eqb (thread_on b t).depth (shape_in b).depth

-- whether there was one since thread t last began an operation, once e has happened on the region b; `before` is what was so before e
abbrev pub tried_after : ℕ → Bool → List ℕ → Event → Bool
tried_after t before b e = pick (begins t e) false (before || tries_deepest t b e)

-- and once these moments have, from the region b on
abbrev pub tried_since : ℕ → Bool → List ℕ → List Moment → Bool
tried_since t before b [] = before
tried_since t before b (m ∷ ms) = tried_since t (tried_after t before b m.event) m.region ms

-- at I2 with d at D the leaf word of thread t tells it
abbrev pub WordTells : Shape → List ℕ → ℕ → Bool → Type 0
WordTells s b t tried =
    (thread_on b t).place ≡ ReadLeaf → (thread_on b t).depth ≡ s.depth → has_tried_deepest s (thread_on b t) ≡ tried

-- a thread that is idle has leaf word 0, and so has a put when it begins
abbrev pub NoLeafIdle : List ℕ → Type 0
NoLeafIdle b = (t : ℕ) → is_idle (thread_on b t) ≡ true → (thread_on b t).search_state.leaf ≡ 0
