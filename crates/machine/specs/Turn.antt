-- One turn: "A turn makes that place's access and all local work up to the next" (document 01, The sixteen places).
use Rattle.std.specs.Prelude.{ℕ, ◌≡◌, List}
use Rattle.region.specs.declared.refusal.Refusal.TheVariants.{BadThread, Unreadable}
use Rattle.region.specs.Pick.{pick}
use Rattle.region.specs.Shape.{between}
use Rattle.region.specs.Shared.{Shared, shared_in, thread_in, set_thread_in}
use Rattle.region.specs.Thread.{idle_thread}
use Rattle.region.specs.declared.answer.Answer.{Answer}
use Rattle.region.specs.declared.answer.Answer.TheVariants.{Idle, Refused}
use Rattle.region.specs.declared.frame.Frame.{Frame}
use Rattle.region.specs.declared.place.Place.{Place}
use Rattle.region.specs.declared.place.Place.TheVariants.{Idle as AtRest, ReadDepth, ReadLeaf, ReadAncestor, GrowDepth, ReadTarget, InsertAtRoot, ReadParent, InsertBelow, ReadRoot, RemoveHead, MendReadNode, MendReadDepth, MendReadLeft, MendReadRight, MendSwap, MendClean, ListReadRoot, RemoveList, HandOut}
use Rattle.region.specs.declared.shape.Shape.{Shape}
use Rattle.region.specs.declared.thread.Thread.{Thread}
use Rattle.access.specs.Effect.{effect_bytes}
use Rattle.access.specs.Plan.{changes_nothing, plan, refused}
use Rattle.access.specs.declared.effect.Effect.TheVariants.{Nothing}
use Rattle.access.specs.declared.plan.Plan.{Plan}
use Rattle.readable.specs.Readable.{frame_in, readable}
use Rattle.insert.specs.Insert.{read_depth, read_leaf, read_ancestor, grow_depth, read_target, insert_at_root, read_parent, insert_below}
use Rattle.extract.specs.Extract.{read_root, remove_head, list_read_root, remove_list, hand_out}
use Rattle.moundify.specs.Moundify.{mend_read_node, mend_read_depth, mend_read_left, mend_read_right, mend_swap, mend_clean}
use Rattle.permission.specs.Withdraw.{permitted}

-- the plan at a place; an idle thread answers idle
abbrev pub decide_at : Shape → Shared → Thread → ℕ → Place → Plan
decide_at s m t c AtRest = plan Nothing t Idle
decide_at s m t c ReadDepth = read_depth m t
decide_at s m t c ReadLeaf = read_leaf s m t c
decide_at s m t c ReadAncestor = read_ancestor m t
decide_at s m t c GrowDepth = grow_depth s m t
decide_at s m t c ReadTarget = read_target m t
decide_at s m t c InsertAtRoot = insert_at_root m t
decide_at s m t c ReadParent = read_parent m t
decide_at s m t c InsertBelow = insert_below m t
decide_at s m t c ReadRoot = read_root m t
decide_at s m t c RemoveHead = remove_head m t
decide_at s m t c (MendReadNode w) = mend_read_node m t w
decide_at s m t c (MendReadDepth w) = mend_read_depth m t w
decide_at s m t c (MendReadLeft w) = mend_read_left s m t w
decide_at s m t c (MendReadRight w) = mend_read_right s m t w
decide_at s m t c (MendSwap w) = mend_swap s m t w
decide_at s m t c (MendClean w) = mend_clean m t w
decide_at s m t c ListReadRoot = list_read_root m t
decide_at s m t c RemoveList = remove_list m t
decide_at s m t c HandOut = hand_out m t

-- the plan of a thread's turn, c its choice: that of its place, or the withdrawal where its permission lacks (request 5)
unfoldable pub decide : Shape → Shared → Thread → ℕ → Plan
unfolding permitted
decide s m t c = permitted t (decide_at s m t c t.place)

-- "3: thread is 0 or above T", before all else
unfoldable pub turn_plan : Frame → List ℕ → ℕ → ℕ → Plan
unfolding decide
turn_plan f b t c =
    pick
    (between 1 t f.shape.threads)
    (decide f.shape (shared_in f b) (thread_in f b t) c)
    (refused (idle_thread 0) BadThread)

unfoldable pub turn_answer : Frame → List ℕ → ℕ → ℕ → Answer
unfolding turn_plan
turn_answer f b t c = (turn_plan f b t c).answer

-- the region afterwards: the thread's record is stored and the effect carried out, or no byte changes
unfoldable pub carried_out : Frame → List ℕ → ℕ → Plan → List ℕ
carried_out f b t p = pick (changes_nothing p.answer) b (effect_bytes f (set_thread_in f b t p.thread) p.effect)

unfoldable pub turn_bytes : Frame → List ℕ → ℕ → ℕ → List ℕ
unfolding turn_plan carried_out
turn_bytes f b t c = carried_out f b t (turn_plan f b t c)

-- what a turn answers and leaves
pub record Turned (f : Frame) (b b' : List ℕ) (t c : ℕ) (r : Answer) : Type 0 where
  pub answer : r ≡ turn_answer f b t c
  pub bytes : b' ≡ turn_bytes f b t c

-- a turn by itself on a whole region that holds one queue: "7: region not readable", then as above
unfoldable pub turn_on_answer : List ℕ → ℕ → ℕ → Answer
unfolding turn_answer
turn_on_answer b t c = pick (readable b) (turn_answer (frame_in b) b t c) (Refused Unreadable)

unfoldable pub turn_on_bytes : List ℕ → ℕ → ℕ → List ℕ
unfolding turn_bytes
turn_on_bytes b t c = pick (readable b) (turn_bytes (frame_in b) b t c) b

pub record TurnedOn (b b' : List ℕ) (t c : ℕ) (r : Answer) : Type 0 where
  pub answer : r ≡ turn_on_answer b t c
  pub bytes : b' ≡ turn_on_bytes b t c
