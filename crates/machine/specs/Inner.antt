-- What only the contracts of inner functions and the proofs need. A reader of the result may skip this file.
use Rattle.std.specs.Prelude.{ℕ, ◌≡◌, Bool, true, false, List}
use Rattle.region.specs.Shared.{shared_in, thread_in}
use Rattle.region.specs.declared.answer.Answer.{Answer}
use Rattle.region.specs.declared.answer.Answer.TheVariants.{Moved, Idle, Inserted, Took, Empty, Refused, Withdrawn}
use Rattle.region.specs.declared.frame.Frame.{Frame}
use Rattle.region.specs.declared.place.Place.{Place}
use Rattle.permission.specs.Withdraw.{withdrawal}
use Rattle.machine.specs.Turn.{carried_out, decide}

abbrev pub is_withdrawn : Answer → Bool
is_withdrawn Moved = false
is_withdrawn Idle = false
is_withdrawn Inserted = false
is_withdrawn (Took i) = false
is_withdrawn Empty = false
is_withdrawn (Refused n) = false
is_withdrawn Withdrawn = true

-- what a turn of thread t answers and leaves at its place, where a withdrawal is not carried out yet
pub record Placed (f : Frame) (b b' : List ℕ) (t c : ℕ) (r : Answer) : Type 0 where
  pub answer : is_withdrawn r ≡ false → r ≡ (decide f.shape (shared_in f b) (thread_in f b t) c).answer
  pub bytes : is_withdrawn r ≡ false → b' ≡ carried_out f b t (decide f.shape (shared_in f b) (thread_in f b t) c)
  pub withdrawn : is_withdrawn r ≡ true → (decide f.shape (shared_in f b) (thread_in f b t) c ≡ withdrawal (thread_in f b t)) × (b' ≡ b)

-- thread t stands at place z
pub record Stands (f : Frame) (b : List ℕ) (t : ℕ) (z : Place) : Type 0 where
  pub there : z ≡ (thread_in f b t).place
