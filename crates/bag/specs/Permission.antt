-- What request 5 says of every history: the permission at each deciding access, what a withdrawn turn leaves, and the thread with an empty list.
-- Parts of demand 3.
use Rattle.std.specs.Prelude.{ℕ, ◌≤◌, ◌≡◌, Bool, true, false, List, [], ◌∷◌, eqb}
use Rattle.region.specs.Record.{zero_item}
use Rattle.region.specs.Shape.{node_count}
use Rattle.region.specs.Shared.{cell_in, node_in, shared_in, thread_in}
use Rattle.region.specs.Thread.{gone_idle, is_idle}
use Rattle.region.specs.declared.frame.Frame.{Frame}
use Rattle.region.specs.declared.thread.Thread.{Thread}
use Rattle.permission.specs.Grants.{may_put, may_take}
use Rattle.permission.specs.Withdraw.{is_put_place}
use Rattle.readable.specs.Readable.{frame_in}
use Rattle.theory.specs.Told.{Told, nothing, begins_put, begins_take, begins_list, decides_put, decides_take, decides_list, decides_empty, answers_took, withdraws}
use Rattle.theory.specs.Tree.{Listed, list_from}
use Rattle.bag.specs.Calls.{layout, convert, put, take, list, permit, run, check}
use Rattle.bag.specs.History.{Event, called, turned, Moment}
use Rattle.bag.specs.Operations.{withdrawn}

-- thread t's record in the region b
abbrev pub thread_on : List ℕ → ℕ → Thread
thread_on b t = thread_in (frame_in b) b t

-- the erratum: "a permission must still be there when the operation takes effect". At each deciding access the thread has the permission of its
-- kind in the region b just before.
abbrev pub Granted : List ℕ → Told → Type 0
Granted b nothing = Unit
Granted b (begins_put t i) = Unit
Granted b (begins_take t) = Unit
Granted b (begins_list t) = Unit
Granted b (decides_put t) = may_put (thread_on b t) ≡ true
Granted b (decides_take t i) = may_take (thread_on b t) ≡ true
Granted b (decides_list t is) = may_take (thread_on b t) ≡ true
Granted b (decides_empty t) = may_take (thread_on b t) ≡ true
Granted b (answers_took t i) = Unit
Granted b (withdraws t) = Unit

-- cell c is not in the list
abbrev pub NotIn : ℕ → List Listed → Type 0
NotIn c [] = Unit
NotIn c (x ∷ xs) = (x.cell ≡ c → ⊥) × NotIn c xs

-- cell c is the first free one, with key and tag 0, and in no node's list
pub record FreeAgain (f : Frame) (b : List ℕ) (c : ℕ) : Type 0 where
  pub first : (shared_in f b).free ≡ c
  pub zeroed : (cell_in f b c).item ≡ zero_item
  pub in_no_list : (n : ℕ) → 1 ≤ n → n ≤ node_count f.shape → NotIn c (list_from (cell_in f b) f.shape.cells (node_in f b n).first)

-- "frees a put's own cell .., goes idle": what a moment that withdraws an operation of thread t leaves
pub record Withdrew (t : ℕ) (before after : List ℕ) : Type 0 where
  pub idle : thread_on after t ≡ gone_idle (thread_on before t)
  pub cell : is_put_place (thread_on before t).place ≡ true → FreeAgain (frame_in after) after (thread_on before t).own

abbrev pub WithdrawnLeaves : List ℕ → Moment → Type 0
WithdrawnLeaves before m = (t : ℕ) → withdrawn t m.event ≡ true → Withdrew t before m.region

-- "put, take, list or turn of it": what thread t does. The permit call is the host's, not the thread's.
abbrev pub makes : ℕ → Event → Bool
makes t (called (layout s permissions) r) = false
makes t (called (convert old) r) = false
makes t (called (put u i) r) = eqb t u
makes t (called (take u) r) = eqb t u
makes t (called (list u) r) = eqb t u
makes t (called (permit u p) r) = false
makes t (called (run schedule limit answers) r) = false
makes t (called check r) = false
makes t (turned x) = eqb t x.thread

-- "while a thread is idle with an empty list, no put, take, list or turn of it changes the region"
abbrev pub StaysBarred : List ℕ → Moment → Type 0
StaysBarred before m =
    (t : ℕ) → is_idle (thread_on before t) ≡ true → (thread_on before t).permission ≡ 0 → makes t m.event ≡ true → m.region ≡ before
