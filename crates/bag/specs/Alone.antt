-- An operation while no other thread moves: what document 01's ceiling and request 3's figure of a take and request 8's promise of a put
-- suppose of what comes after its beginning, "no other thread moving and no turn refused 11", and with request 5 "the permission kept"; and
-- what it is to end in n accesses.
use Rattle.std.specs.Prelude.{ℕ, suc, ◌≤◌, ◌≡◌, Bool, true, List, [], ◌∷◌, eqb, length}
use Rattle.region.specs.declared.refusal.Refusal.TheVariants.{CounterSpent}
use Rattle.region.specs.Pick.{pick}
use Rattle.region.specs.Shared.{thread_in}
use Rattle.region.specs.declared.answer.Answer.{Answer}
use Rattle.region.specs.declared.answer.Answer.TheVariants.{Moved, Refused}
use Rattle.region.specs.declared.frame.Frame.{Frame}
use Rattle.region.specs.declared.thread.Thread.{Thread}
use Rattle.access.specs.Plan.{changes_nothing}
use Rattle.permission.specs.Permit.{permit_bytes_in}
use Rattle.run.specs.Run.{Turn}
use Rattle.machine.specs.Turn.{turn_answer, turn_bytes}

-- a turn: the region before it, its answer, and the region after it
pub record Step : Type 0 where
  pub before : List ℕ
  pub answer : Answer
  pub after : List ℕ

-- the turn of thread t with choice c on the region b
abbrev pub step_of : Frame → List ℕ → ℕ → ℕ → Step
step_of f b t c = record { before = b; answer = turn_answer f b t c; after = turn_bytes f b t c }

-- what may come after the beginning: a turn, or the host's call that sets a permission (request 5)
pub data Between : Type 0 where
  turn : Turn → Between
  permit : ℕ → ℕ → Between

-- the region after it
abbrev pub gone_by : Frame → List ℕ → Between → List ℕ
gone_by f b (turn u) = turn_bytes f b u.thread u.choice
gone_by f b (permit k p) = permit_bytes_in f b k p

-- thread t's turns among these, each on the bytes that were left before
unfoldable pub steps_of : Frame → List ℕ → ℕ → List Between → List Step
steps_of f b t [] = []
steps_of f b t (turn u ∷ xs) =
    pick
    (eqb u.thread t)
    (step_of f b u.thread u.choice ∷ steps_of f (turn_bytes f b u.thread u.choice) t xs)
    (steps_of f (turn_bytes f b u.thread u.choice) t xs)
steps_of f b t (permit k p ∷ xs) = steps_of f (permit_bytes_in f b k p) t xs

-- "no other thread moving": no other thread's turn changes the region. Its idle and refused turns may stand between, not its withdrawn ones; so
-- may checks, which leave the region as it is.
abbrev pub NoOtherMoves : Frame → List ℕ → ℕ → List Between → Type 0
NoOtherMoves f b t [] = Unit
NoOtherMoves f b t (turn u ∷ xs) =
    ((u.thread ≡ t → ⊥) → changes_nothing (turn_answer f b u.thread u.choice) ≡ true)
    × NoOtherMoves f (turn_bytes f b u.thread u.choice) t xs
NoOtherMoves f b t (permit k p ∷ xs) = NoOtherMoves f (permit_bytes_in f b k p) t xs

-- "Request 3 supposes the permission kept" (request 5), "its permission kept" (request 8): whatever comes, thread t has it just before
abbrev pub PermissionKept : (Thread → Bool) → Frame → List ℕ → ℕ → List Between → Type 0
PermissionKept may f b t [] = Unit
PermissionKept may f b t (x ∷ xs) = (may (thread_in f b t) ≡ true) × PermissionKept may f (gone_by f b x) t xs

-- "no turn refused 11"
abbrev pub NoneSpent : List Step → Type 0
NoneSpent [] = Unit
NoneSpent (x ∷ rest) = (x.answer ≡ Refused CounterSpent → ⊥) × NoneSpent rest

-- thread t, which has just begun on the bytes b, goes on alone and has at least n turns
pub record Alone (may : Thread → Bool) (f : Frame) (b : List ℕ) (t : ℕ) (xs : List Between) (n : ℕ) : Type 0 where
  pub quiet : NoOtherMoves f b t xs
  pub permission : PermissionKept may f b t xs
  pub unspent : NoneSpent (steps_of f b t xs)
  pub enough : n ≤ length (steps_of f b t xs)

-- n accesses: each turn before the n-th answers moved, and P holds of the n-th
pub data EndsAt (P : Step → Type 0) : ℕ → List Step → Type 0 where
  last : {x : Step} {rest : List Step} → P x → EndsAt P 1 (x ∷ rest)
  moved_then : {n : ℕ} {x : Step} {rest : List Step} → x.answer ≡ Moved → EndsAt P n rest → EndsAt P (suc n) (x ∷ rest)
