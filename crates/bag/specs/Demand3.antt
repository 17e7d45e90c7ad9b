-- Demand 3, whole: `RegionIsABag`, proved by the one term `region_is_a_bag` of proofs/Proved.antt.
use Rattle.std.specs.Prelude.{ℕ, ◌≡◌, List, [], ◌∷◌}
use Rattle.region.specs.Record.{same_item}
use Rattle.region.specs.Shape.{node_count}
use Rattle.region.specs.Shared.{shared_in}
use Rattle.region.specs.declared.answer.Answer.{Answer}
use Rattle.region.specs.declared.answer.Answer.TheVariants.{Moved, Idle, Inserted, Took, Empty, Refused, Withdrawn}
use Rattle.region.specs.declared.refusal.Refusal.{Refusal}
use Rattle.region.specs.declared.frame.Frame.{Frame}
use Rattle.region.specs.declared.record.Item.{Item}
use Rattle.region.specs.declared.shape.Shape.{Shape}
use Rattle.readable.specs.Readable.{frame_in}
use Rattle.theory.specs.Ledger.{Ledger, Follows, empty_ledger}
use Rattle.theory.specs.Told.{Told, nothing, decides_put, decides_take, decides_list, decides_empty, answers_took, withdraws}
use Rattle.theory.specs.Tree.{in_nodes}
use Rattle.bag.specs.History.{Event, called, turned, Moment}
use Rattle.bag.specs.Moments.{InEveryHistory, EachMoment}
use Rattle.bag.specs.Operations.{AnsweredDecidesOnce, DecidesAtMostOnce, WithdrawnNeverDecides}
use Rattle.bag.specs.Permission.{Granted, StaysBarred, WithdrawnLeaves}
use Rattle.bag.specs.Told.{tells}
use Rattle.bag.specs.TookInOrder.{TookInOrder}

-- copies of i in the tree
unfoldable pub in_tree : Frame → List ℕ → Item → ℕ
unfolding in_nodes same_item
in_tree f b i = in_nodes (shared_in f b) (same_item i) f.shape.cells (node_count f.shape)

-- the bag holds exactly what the tree of the region holds
abbrev pub HoldsTheSame : Ledger → List ℕ → Type 0
HoldsTheSame l b = (i : Item) → l.bag i ≡ in_tree (frame_in b) b i

-- so it is before the first moment, b being the region then; and the ledger follows every moment, and after each it is so again
abbrev pub Agrees : Ledger → List ℕ → List Moment → Type 0
Agrees l b [] = HoldsTheSame l b
Agrees l b (m ∷ ms) = HoldsTheSame l b × ((l' : Ledger) × Follows (tells m.event) l l' × Agrees l' m.region ms)

-- a turn of thread t that answers so tells this: inserted comes only from a put that decides, empty only from a take of either kind that
-- decides so; what a took must be is the ledger's `take_answers`
pub data Says (t : ℕ) : Answer → Told → Type 0 where
  moved : Says t Moved nothing
  removed : {i : Item} → Says t Moved (decides_take t i)
  list_removed : {is : List Item} → Says t Moved (decides_list t is)
  idle : Says t Idle nothing
  inserted : Says t Inserted (decides_put t)
  took : {i : Item} → Says t (Took i) (answers_took t i)
  empty : Says t Empty (decides_empty t)
  refused : {r : Refusal} → Says t (Refused r) nothing
  withdrawn : Says t Withdrawn (withdraws t)

abbrev pub AnswerSays : Event → Type 0
AnswerSays (called c r) = Unit
AnswerSays (turned x) = Says x.thread x.answer (tells (turned x))

-- of a region b that was laid out with this shape and permission list, and its history
pub record Demand3 (s : Shape) (permissions b : List ℕ) (ms : List Moment) : Type 0 where
  -- "the region cannot differ from a plain bag of items"; "after each call and each served turn the bag holds exactly what the tree holds"
  pub bag : Agrees empty_ledger b ms
  -- "Each operation has at most one deciding access, each answered one exactly one, after its beginning and no later than its answer"
  pub at_most_once : DecidesAtMostOnce ms
  pub answered_once : AnsweredDecidesOnce ms
  -- "its took answers, as far as they come, are that list in order" (request 1)
  pub took_in_order : TookInOrder ms
  -- a turn's answer says what it told
  pub answers_say : EachMoment (λ before m. AnswerSays m.event) b ms
  -- "a permission must still be there when the operation takes effect" (request 5)
  pub permitted : EachMoment (λ before m. Granted before (tells m.event)) b ms
  -- "A withdrawn operation has no deciding access"; its put's cell is free again (request 5)
  pub withdrawn_never : WithdrawnNeverDecides ms
  pub withdrawn_leaves : EachMoment WithdrawnLeaves b ms
  -- "while a thread is idle with an empty list, no put, take, list or turn of it changes the region" (request 5, in place of demand 3's last
  -- sentence)
  pub empty_list : EachMoment StaysBarred b ms

-- "For every list of calls on a laid-out region .. whatever the order of turns and the leaf choices"
abbrev pub RegionIsABag : Type 0
RegionIsABag = InEveryHistory Demand3
