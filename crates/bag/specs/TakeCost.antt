-- What a take of one item costs (document 02, request 3): it ends in exactly as many accesses as `take_cost` says of the region before it, and
-- its last access leaves the root's list without its head at the level from which the figure is computed. The ceiling of document 01
-- follows. Proved in proofs/TakeCost.antt.
use Rattle.std.specs.Prelude.{ℕ, ◌*◌, ◌≤◌, ◌≡◌, List, ◌∷◌}
use Rattle.region.specs.Refusal.{done}
use Rattle.region.specs.Level.{level}
use Rattle.region.specs.Shape.{node_count}
use Rattle.region.specs.Shared.{cell_in, node_in, shared_in, thread_in}
use Rattle.region.specs.declared.answer.Answer.TheVariants.{Took, Empty}
use Rattle.region.specs.declared.frame.Frame.{Frame}
use Rattle.region.specs.declared.place.Place.TheVariants.{ReadRoot, MendClean}
use Rattle.readable.specs.Readable.{frame_in}
use Rattle.permission.specs.Grants.{may_take}
use Rattle.begin.specs.Begin.{take_bytes, take_refusal}
use Rattle.cost.specs.Cost.{rest_level, take_cost}
use Rattle.theory.specs.Tree.{Listed, list_from}
use Rattle.bag.specs.Alone.{Alone, Between, EndsAt, Step, steps_of}
use Rattle.bag.specs.History.{root_item}

-- "with all nodes clean"
abbrev pub AllClean : Frame → List ℕ → Type 0
AllClean f b = (n : ℕ) → 1 ≤ n → n ≤ node_count f.shape → (node_in f b n).dirty ≡ 0

-- thread t's turns after it has begun a take on the region b
abbrev pub take_steps : List ℕ → ℕ → List Between → List Step
take_steps b t xs = steps_of (frame_in b) (take_bytes b t ReadRoot) t xs

-- what the ceiling and the figure suppose: the take is begun with all nodes clean, and goes on alone with at least n turns
pub record TakesAlone (b : List ℕ) (t : ℕ) (xs : List Between) (n : ℕ) : Type 0 where
  pub begun : take_refusal b t ≡ done
  pub clean : AllClean (frame_in b) b
  pub alone : Alone may_take (frame_in b) (take_bytes b t ReadRoot) t xs n

-- node n's list: its cells with their items
abbrev pub list_of : Frame → List ℕ → ℕ → List Listed
list_of f b n = list_from (cell_in f b) f.shape.cells (node_in f b n).first

-- the head of the root's list
abbrev pub root_head : Frame → List ℕ → Listed
root_head f b = record { cell = (node_in f b 1).first; item = root_item f b }

-- "its last mending leaves the list at level j": what x does, the last access of a take that thread t began on the region b
pub record LeavesList (f : Frame) (b : List ℕ) (t j : ℕ) (x : Step) : Type 0 where
  pub node : ℕ
  pub at_level : level node ≡ j
  -- It is M6 of that node, the only dirty one, and all are clean afterwards. E2 leaves the list at the root with the dirty mark, and M5 moves
  -- both down together: so the list is known by the mark, also where it is empty and has no cell to be known by.
  pub place : (thread_in f x.before t).place ≡ MendClean 0
  pub mends : (thread_in f x.before t).node ≡ node
  pub dirty : (node_in f x.before node).dirty ≡ 1
  pub others : (n : ℕ) → (n ≡ node → ⊥) → (node_in f x.before n).dirty ≡ 0
  pub clean : AllClean f x.after
  -- The list that stands there afterwards is the root's list without its head, and the head's item is the answer.
  pub list : list_of f b 1 ≡ root_head f b ∷ list_of f x.after node
  pub answer : x.answer ≡ Took (root_head f b).item

-- the last access of a take begun on the region b: it reads an empty root, or ends the last mending
pub record LastAccess (b : List ℕ) (t : ℕ) (x : Step) : Type 0 where
  pub empty : (node_in (frame_in b) b 1).first ≡ 0 → x.answer ≡ Empty
  pub mended : ((node_in (frame_in b) b 1).first ≡ 0 → ⊥) → LeavesList (frame_in b) b t (rest_level (shared_in (frame_in b) b)) x

-- "a take of one item begun at depth d ends in exactly" `take_cost` accesses
abbrev pub TakesCost : List ℕ → Type 0
TakesCost b =
    (t : ℕ) (xs : List Between) → TakesAlone b t xs (take_cost (shared_in (frame_in b) b))
    → EndsAt (LastAccess b t) (take_cost (shared_in (frame_in b) b)) (take_steps b t xs)

-- "a take begun at depth d ends in at most 5 × d accesses"
abbrev pub TakesEnd : List ℕ → Type 0
TakesEnd b =
    (t : ℕ) (xs : List Between) → TakesAlone b t xs (5 * (shared_in (frame_in b) b).depth)
    → (n : ℕ) × (1 ≤ n) × (n ≤ 5 * (shared_in (frame_in b) b).depth) × EndsAt (LastAccess b t) n (take_steps b t xs)
