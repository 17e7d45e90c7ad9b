-- What holds of every readable region, and of every turn, every beginning and every setting of a permission on one. Each statement is
-- proved under its name in proofs/Proved.antt, the first in proofs/LaidOutIsReadable.antt.
use Rattle.std.specs.Prelude.{ℕ, ◌+◌, ◌≤◌, ◌<◌, ◌≡◌, ◌⊎◌, true, List, length}
use Rattle.words.specs.Word.{word}
use Rattle.region.specs.Refusal.{done}
use Rattle.region.specs.Frame.{nodes_of, cells_of, threads_of}
use Rattle.region.specs.Record.{counter_size, node_size, cell_size}
use Rattle.region.specs.Shared.{cell_in, entry, thread_in}
use Rattle.region.specs.Thread.{thread_size}
use Rattle.region.specs.declared.frame.Frame.{Frame}
use Rattle.region.specs.declared.place.Place.{Place}
use Rattle.region.specs.declared.record.Item.{Item}
use Rattle.region.specs.declared.shape.Shape.{Shape}
use Rattle.access.specs.Order.{item_lt, top_item}
use Rattle.access.specs.declared.effect.Effect.{Effect}
use Rattle.access.specs.declared.effect.Effect.TheVariants.{Nothing, Grow, Push, Pop, Exchange, Clean, Detach, Free}
use Rattle.layout.specs.Layout.{layout_refusal, layout_bytes}
use Rattle.readable.specs.Readable.{frame_in, readable, shape_in}
use Rattle.permission.specs.Permit.{permit_bytes, permit_refusal}
use Rattle.begin.specs.Begin.{BeginsAt, put_bytes, take_bytes}
use Rattle.machine.specs.Turn.{turn_bytes, turn_plan}

-- a laid-out region is readable: for every shape, permission list and slice that layout does not refuse
abbrev pub LaidOutIsReadable : Type 0
LaidOutIsReadable =
    (s : Shape) (permissions b : List ℕ) → layout_refusal s permissions (length b) ≡ done
    → readable (layout_bytes s permissions b) ≡ true

-- "an empty node is above every item" (document 02, request 2): what a turn compares an empty node with is less, be it the item of a cell,
-- the thread's own or a copied one; also where the region was never laid out
pub record EmptyAbove (b : List ℕ) : Type 0 where
  pub cells : (c : ℕ) → item_lt (cell_in (frame_in b) b c).item top_item ≡ true
  pub items : (t : ℕ) → item_lt (thread_in (frame_in b) b t).item top_item ≡ true
  pub first : (t : ℕ) → item_lt (thread_in (frame_in b) b t).copies.first.head.item top_item ≡ true
  pub second : (t : ℕ) → item_lt (thread_in (frame_in b) b t).copies.second.head.item top_item ≡ true
  pub third : (t : ℕ) → item_lt (thread_in (frame_in b) b t).copies.third.head.item top_item ≡ true

abbrev pub EmptyIsAbove : Type 0
EmptyIsAbove = (b : List ℕ) → readable b ≡ true → EmptyAbove b

-- a readable region is readable after any turn, any beginning and any setting of a permission
abbrev pub TurnKeepsReadable : Type 0
TurnKeepsReadable = (b : List ℕ) → readable b ≡ true → (t c : ℕ) → readable (turn_bytes (frame_in b) b t c) ≡ true

abbrev pub PutKeepsReadable : Type 0
PutKeepsReadable = (b : List ℕ) → readable b ≡ true → (t : ℕ) (i : Item) → readable (put_bytes b t i) ≡ true

abbrev pub TakeKeepsReadable : Type 0
TakeKeepsReadable = (b : List ℕ) → readable b ≡ true → (t : ℕ) (p : Place) → BeginsAt p → readable (take_bytes b t p) ≡ true

abbrev pub PermitKeepsReadable : Type 0
PermitKeepsReadable = (b : List ℕ) → readable b ≡ true → (t p : ℕ) → readable (permit_bytes b t p) ≡ true

-- D, C, T and H never change
abbrev pub TurnKeepsShape : Type 0
TurnKeepsShape = (b : List ℕ) → readable b ≡ true → (t c : ℕ) → shape_in (turn_bytes (frame_in b) b t c) ≡ shape_in b

abbrev pub PutKeepsShape : Type 0
PutKeepsShape = (b : List ℕ) → readable b ≡ true → (t : ℕ) (i : Item) → shape_in (put_bytes b t i) ≡ shape_in b

abbrev pub TakeKeepsShape : Type 0
TakeKeepsShape = (b : List ℕ) → readable b ≡ true → (t : ℕ) (p : Place) → BeginsAt p → shape_in (take_bytes b t p) ≡ shape_in b

abbrev pub PermitKeepsShape : Type 0
PermitKeepsShape = (b : List ℕ) → readable b ≡ true → (t p : ℕ) → shape_in (permit_bytes b t p) ≡ shape_in b

-- a turn, a beginning or a permission of one thread leaves every other thread's record alone
abbrev pub TurnLeavesOthers : Type 0
TurnLeavesOthers =
    (b : List ℕ) → readable b ≡ true → (t c u : ℕ) → (u ≡ t → ⊥)
    → thread_in (frame_in b) (turn_bytes (frame_in b) b t c) u ≡ thread_in (frame_in b) b u

abbrev pub PutLeavesOthers : Type 0
PutLeavesOthers =
    (b : List ℕ) → readable b ≡ true → (t : ℕ) (i : Item) (u : ℕ) → (u ≡ t → ⊥)
    → thread_in (frame_in b) (put_bytes b t i) u ≡ thread_in (frame_in b) b u

abbrev pub TakeLeavesOthers : Type 0
TakeLeavesOthers =
    (b : List ℕ) → readable b ≡ true → (t : ℕ) (p : Place) → BeginsAt p → (u : ℕ) → (u ≡ t → ⊥)
    → thread_in (frame_in b) (take_bytes b t p) u ≡ thread_in (frame_in b) b u

abbrev pub PermitLeavesOthers : Type 0
PermitLeavesOthers =
    (b : List ℕ) → readable b ≡ true → (t p u : ℕ) → (u ≡ t → ⊥)
    → thread_in (frame_in b) (permit_bytes b t p) u ≡ thread_in (frame_in b) b u

-- "A call sets a thread's permission" (document 02, request 5), and nothing else: every word but that of the permission, the first of the
-- thread's record, is as before, refused or not; where the call is not refused, that word is what was given
pub record PermissionAlone (b : List ℕ) (t p : ℕ) : Type 0 where
  pub others : (j : ℕ) → (j ≡ entry (threads_of (frame_in b)) t → ⊥) → word (permit_bytes b t p) j ≡ word b j
  pub permission : permit_refusal b t p ≡ done → word (permit_bytes b t p) (entry (threads_of (frame_in b)) t) ≡ p

abbrev pub PermitChangesOneWord : Type 0
PermitChangesOneWord = (b : List ℕ) → readable b ≡ true → (t p : ℕ) → PermissionAlone b t p

-- word j lies outside n words from word k on
abbrev pub Apart : ℕ → ℕ → ℕ → Type 0
Apart k n j = (j < k) ⊎ (k + n ≤ j)

-- word j is none that an effect stores to
abbrev pub OutsideEffect : Frame → Effect → ℕ → Type 0
OutsideEffect f Nothing j = Unit
OutsideEffect f (Grow d) j = j ≡ f.depth → ⊥
OutsideEffect f (Push n v c x) j = Apart (entry (nodes_of f) n) (node_size f.width) j × Apart (entry (cells_of f) c) cell_size j
OutsideEffect f (Pop v c) j = Apart (entry (nodes_of f) 1) (node_size f.width) j × Apart (entry (cells_of f) c) cell_size j × (j ≡ f.free → ⊥)
OutsideEffect f (Exchange n v k w) j = Apart (entry (nodes_of f) n) (node_size f.width) j × Apart (entry (nodes_of f) k) (node_size f.width) j
OutsideEffect f (Clean n v) j = Apart (entry (nodes_of f) n) (node_size f.width) j
OutsideEffect f (Detach v) j = Apart (entry (nodes_of f) 1) (node_size f.width) j
OutsideEffect f (Free c) j = Apart (entry (cells_of f) c) cell_size j × (j ≡ f.free → ⊥)

-- and every word outside its effect and its own record
abbrev pub TurnLeavesWords : Type 0
TurnLeavesWords =
    (b : List ℕ) → readable b ≡ true → (t c j : ℕ) → OutsideEffect (frame_in b) (turn_plan (frame_in b) b t c).effect j
    → Apart (entry (threads_of (frame_in b)) t) (thread_size counter_size) j → word (turn_bytes (frame_in b) b t c) j ≡ word b j
