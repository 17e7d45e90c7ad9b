-- Shared memory and the threads' records, read from a region's bytes as functions of their numbers, which count from 1. A number out of
-- range reads as the empty node, the zero cell or the idle thread with no permission, and a store out of range stores nothing.
use Rattle.std.specs.Prelude.{ℕ, ◌+◌, ◌-◌, ◌*◌, List}
use Rattle.words.specs.Word.{word, set_word, words_at, set_words}
use Rattle.region.specs.Frame.{nodes_of, cells_of, threads_of}
use Rattle.region.specs.Pick.{pick, upd}
use Rattle.region.specs.Record.{empty_node, zero_cell, node_at, set_node_at, cell_at, set_cell_at}
use Rattle.region.specs.Shape.{between}
use Rattle.region.specs.Thread.{idle_thread, thread_at, set_thread_at}
use Rattle.region.specs.declared.frame.Frame.{Frame}
use Rattle.region.specs.declared.part.Part.{Part}
use Rattle.region.specs.declared.record.Cell.{Cell}
use Rattle.region.specs.declared.record.Node.{Node}
use Rattle.region.specs.declared.thread.Thread.{Thread}

-- the first word of record k
abbrev pub entry : Part → ℕ → ℕ
entry p k = p.start + p.stride * (k - 1)

-- record k of a part, and the bytes with another record there
unfoldable pub load_entry : {A : Type 0} → (List ℕ → ℕ → A) → A → Part → List ℕ → ℕ → A
load_entry at none p b k = pick (between 1 k p.count) (at b (entry p k)) none

unfoldable pub store_entry : {A : Type 0} → (List ℕ → ℕ → A → List ℕ) → Part → List ℕ → ℕ → A → List ℕ
store_entry store p b k v = pick (between 1 k p.count) (store b (entry p k) v) b

-- record k of a kind: `of` makes it of its `size` words, and `to` gives its words
abbrev pub record_in : {A : Type 0} → (List ℕ → A) → ℕ → A → Part → List ℕ → ℕ → A
record_in of size none p b k = load_entry (λ c at. of (words_at c at size)) none p b k

abbrev pub set_record_in : {A : Type 0} → (A → List ℕ) → Part → List ℕ → ℕ → A → List ℕ
set_record_in to p b k v = store_entry (λ c at r. set_words c at (to r)) p b k v

unfoldable pub node_in : Frame → List ℕ → ℕ → Node
unfolding load_entry
node_in f b n = load_entry (node_at f.width) empty_node (nodes_of f) b n

unfoldable pub set_node_in : Frame → List ℕ → ℕ → Node → List ℕ
unfolding store_entry
set_node_in f b n v = store_entry (set_node_at f.width) (nodes_of f) b n v

unfoldable pub cell_in : Frame → List ℕ → ℕ → Cell
unfolding load_entry
cell_in f b c = load_entry cell_at zero_cell (cells_of f) b c

unfoldable pub set_cell_in : Frame → List ℕ → ℕ → Cell → List ℕ
unfolding store_entry
set_cell_in f b c v = store_entry set_cell_at (cells_of f) b c v

unfoldable pub thread_in : Frame → List ℕ → ℕ → Thread
unfolding load_entry
thread_in f b t = load_entry (thread_at f.width) (idle_thread 0) (threads_of f) b t

unfoldable pub set_thread_in : Frame → List ℕ → ℕ → Thread → List ℕ
unfolding store_entry
set_thread_in f b t v = store_entry (set_thread_at f.width) (threads_of f) b t v

-- the permission is the first word of a thread's record
unfoldable pub set_permission_in : Frame → List ℕ → ℕ → ℕ → List ℕ
unfolding store_entry
set_permission_in f b t p = store_entry set_word (threads_of f) b t p

-- what every thread can reach: nodes, cells, the present depth and the first free cell
pub record Shared : Type 0 where
  pub node : ℕ → Node
  pub cell : ℕ → Cell
  pub depth : ℕ
  pub free : ℕ

unfoldable pub shared_in : Frame → List ℕ → Shared
shared_in f b = record { node = node_in f b; cell = cell_in f b; depth = word b f.depth; free = word b f.free }

-- shared memory with another node n, cell c, depth or first free cell
abbrev pub set_node : Shared → ℕ → Node → Shared
set_node s n v = record { node = upd s.node n v; cell = s.cell; depth = s.depth; free = s.free }

abbrev pub set_cell : Shared → ℕ → Cell → Shared
set_cell s c v = record { node = s.node; cell = upd s.cell c v; depth = s.depth; free = s.free }

abbrev pub set_depth : Shared → ℕ → Shared
set_depth s d = record { node = s.node; cell = s.cell; depth = d; free = s.free }

abbrev pub set_free : Shared → ℕ → Shared
set_free s c = record { node = s.node; cell = s.cell; depth = s.depth; free = c }
