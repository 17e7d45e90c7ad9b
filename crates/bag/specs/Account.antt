-- Where the cells are: in the tree, with a put that is begun and not answered, in the hands of a list, or in the free chain. These are all C, so
-- "no cell is free exactly when tree, begun puts and items in hand fill all" (request 1), and a put that nothing else refuses is refused 10
-- exactly then. Proved in proofs/Account.antt.
use Rattle.std.specs.Prelude.{ℕ, ◌+◌, ◌≡◌, true, List}
use Rattle.region.specs.Refusal.{done, number_of}
use Rattle.region.specs.declared.refusal.Refusal.TheVariants.{NoFreeCell}
use Rattle.region.specs.Record.{is_item}
use Rattle.region.specs.Shape.{between, node_count}
use Rattle.region.specs.Shared.{shared_in, thread_in}
use Rattle.region.specs.Thread.{is_idle}
use Rattle.region.specs.declared.frame.Frame.{Frame}
use Rattle.region.specs.declared.record.Item.{Item}
use Rattle.readable.specs.Readable.{readable, frame_in, shape_in}
use Rattle.permission.specs.Grants.{may_put}
use Rattle.begin.specs.Begin.{put_refusal}
use Rattle.theory.specs.Account.{any_item, in_hands, puts_among}
use Rattle.theory.specs.Tree.{in_list, in_nodes}

-- "in the lists of nodes 1 to 2^D − 1, each list .. at most C of them"
unfoldable pub tree_cells : Frame → List ℕ → ℕ
unfolding in_nodes
tree_cells f b = in_nodes (shared_in f b) any_item f.shape.cells (node_count f.shape)

-- the puts that are begun and not answered
unfoldable pub begun_puts : Frame → List ℕ → ℕ
unfolding puts_among
begun_puts f b = puts_among (thread_in f b) f.shape.threads

-- the items in hand
unfoldable pub hand_cells : Frame → List ℕ → ℕ
unfolding in_hands
hand_cells f b = in_hands (shared_in f b) (thread_in f b) f.shape.cells f.shape.threads

-- the free chain: "first free cell", and on by next cells
unfoldable pub free_cells : Frame → List ℕ → ℕ
unfolding in_list
free_cells f b = in_list (shared_in f b) any_item f.shape.cells (shared_in f b).free

-- tree, begun puts and hands
abbrev pub taken_cells : List ℕ → ℕ
taken_cells b = tree_cells (frame_in b) b + begun_puts (frame_in b) b + hand_cells (frame_in b) b

-- they and the free chain account for all C cells
abbrev pub AllCellsAccounted : List ℕ → Type 0
AllCellsAccounted b = taken_cells b + free_cells (frame_in b) b ≡ (shape_in b).cells

-- tree, begun puts and items in hand fill all
abbrev pub Full : List ℕ → Type 0
Full b = taken_cells b ≡ (shape_in b).cells

-- "no cell is free exactly when tree, begun puts and items in hand fill all" (request 1)
pub record NoneFreeWhenFull (b : List ℕ) : Type 0 where
  pub none_full : (shared_in (frame_in b) b).free ≡ 0 → Full b
  pub full_none : Full b → (shared_in (frame_in b) b).free ≡ 0

-- "Put 7, 3, 4, 8, 9, 10.": the five tests before the last pass
pub record NothingElseRefuses (b : List ℕ) (t : ℕ) (i : Item) : Type 0 where
  pub region : readable b ≡ true
  pub thread : between 1 t (shape_in b).threads ≡ true
  pub item : is_item i ≡ true
  pub permitted : may_put (thread_in (frame_in b) b t) ≡ true
  pub idle : is_idle (thread_in (frame_in b) b t) ≡ true

-- "10: no free cell.": exactly when tree, begun puts and items in hand fill all, and otherwise the put is done
pub record RefusedWhenFull (b : List ℕ) (t : ℕ) (i : Item) : Type 0 where
  pub refused_full : put_refusal b t i ≡ number_of NoFreeCell → Full b
  pub full_refused : Full b → put_refusal b t i ≡ number_of NoFreeCell
  pub else_done : (Full b → ⊥) → put_refusal b t i ≡ done

abbrev pub PutsRefusedWhenFull : List ℕ → Type 0
PutsRefusedWhenFull b = (t : ℕ) (i : Item) → NothingElseRefuses b t i → RefusedWhenFull b t i
