-- What begins, decides, answers and withdraws an operation, and how often an operation decides. "An operation begins with a put or take call that
-- is not refused", or with a list (request 1). "It is answered by the first turn of its thread, before that thread's next beginning, that answers
-- inserted, took or empty.", and a list by later ones too. "A deciding access belongs to its thread's operation begun last."
use Rattle.std.specs.Prelude.{ℕ, ◌+◌, ◌≤◌, ◌≡◌, Bool, true, false, ◌&&◌, List, [], ◌∷◌, ◌++◌, eqb}
use Rattle.region.specs.Pick.{pick}
use Rattle.access.specs.Plan.{answers_operation}
use Rattle.theory.specs.Told.{Told, nothing, begins_put, begins_take, begins_list, decides_put, decides_take, decides_list, decides_empty, answers_took, withdraws}
use Rattle.bag.specs.History.{Event, called, turned, Moment}
use Rattle.bag.specs.Told.{tells}

-- an operation of thread t begins, or decides
abbrev pub beginning : ℕ → Told → Bool
beginning t nothing = false
beginning t (begins_put u i) = eqb t u
beginning t (begins_take u) = eqb t u
beginning t (begins_list u) = eqb t u
beginning t (decides_put u) = false
beginning t (decides_take u i) = false
beginning t (decides_list u is) = false
beginning t (decides_empty u) = false
beginning t (answers_took u i) = false
beginning t (withdraws u) = false

abbrev pub deciding : ℕ → Told → Bool
deciding t nothing = false
deciding t (begins_put u i) = false
deciding t (begins_take u) = false
deciding t (begins_list u) = false
deciding t (decides_put u) = eqb t u
deciding t (decides_take u i) = eqb t u
deciding t (decides_list u is) = eqb t u
deciding t (decides_empty u) = eqb t u
deciding t (answers_took u i) = false
deciding t (withdraws u) = false

-- an operation of thread t is withdrawn (request 5). That ends it, and is no answer: document 01's answers are inserted, took and empty.
abbrev pub withdrawing : ℕ → Told → Bool
withdrawing t nothing = false
withdrawing t (begins_put u i) = false
withdrawing t (begins_take u) = false
withdrawing t (begins_list u) = false
withdrawing t (decides_put u) = false
withdrawing t (decides_take u i) = false
withdrawing t (decides_list u is) = false
withdrawing t (decides_empty u) = false
withdrawing t (answers_took u i) = false
withdrawing t (withdraws u) = eqb t u

abbrev pub begins : ℕ → Event → Bool
begins t e = beginning t (tells e)

abbrev pub decides : ℕ → Event → Bool
decides t e = deciding t (tells e)

abbrev pub withdrawn : ℕ → Event → Bool
withdrawn t e = withdrawing t (tells e)

-- "that answers inserted, took or empty"
abbrev pub answered : ℕ → Event → Bool
answered t (called c r) = false
answered t (turned x) = eqb t x.thread && answers_operation x.answer

-- how many of these pass the test
unfoldable pub count : (Event → Bool) → List Moment → ℕ
count test [] = 0
count test (m ∷ ms) = pick (test m.event) 1 0 + count test ms

-- "Each operation has at most one deciding access": y begins an operation of t, and `since` comes before t's next beginning
abbrev pub DecidesAtMostOnce : List Moment → Type 0
DecidesAtMostOnce all =
    (t : ℕ) (y : Moment) (before since later : List Moment) → all ≡ before ++ y ∷ (since ++ later) → begins t y.event ≡ true
    → count (begins t) since ≡ 0 → count (decides t) since ≤ 1

-- "each answered one exactly one, after its beginning and no later than its answer": x answers that operation, first or again
abbrev pub AnsweredDecidesOnce : List Moment → Type 0
AnsweredDecidesOnce all =
    (t : ℕ) (y x : Moment) (before since later : List Moment) → all ≡ before ++ y ∷ (since ++ x ∷ later) → begins t y.event ≡ true
    → count (begins t) since ≡ 0 → answered t x.event ≡ true → count (decides t) (since ++ x ∷ []) ≡ 1

-- "A withdrawn operation has no deciding access" (request 5), before or after, and no answer: x withdraws the operation of t that y begins, and
-- `after` comes before t's next beginning
abbrev pub WithdrawnNeverDecides : List Moment → Type 0
WithdrawnNeverDecides all =
    (t : ℕ) (y x : Moment) (before since after later : List Moment) → all ≡ before ++ y ∷ (since ++ x ∷ (after ++ later))
    → begins t y.event ≡ true → count (begins t) since ≡ 0 → withdrawn t x.event ≡ true → count (begins t) after ≡ 0
    → (count (decides t) (since ++ x ∷ after) ≡ 0) × (count (answered t) (since ++ x ∷ after) ≡ 0)
