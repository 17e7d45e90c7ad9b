-- A laid-out region, read as nodes, cells and threads. The statement is proved in the file of `proofs/` with its name.
use Rattle.std.specs.Prelude.{ℕ, ◌+◌, ◌-◌, ◌*◌, ◌≤◌, ◌<◌, ◌≡◌, List, [], ◌∷◌, length, get_or}
use Rattle.words.specs.Word.{words_at}
use Rattle.region.specs.Refusal.{done}
use Rattle.region.specs.Frame.{frame_of}
use Rattle.region.specs.Record.{empty_node, zero_item}
use Rattle.region.specs.Shape.{region_words}
use Rattle.region.specs.Shared.{shared_in, node_in, cell_in, thread_in}
use Rattle.region.specs.Thread.{idle_thread}
use Rattle.region.specs.declared.shape.Shape.{Shape}
use Rattle.layout.specs.Layout.{layout_refusal, layout_bytes}

-- the bytes b read, through the shape's frame, as a queue that is laid out with permission list ps
pub record ReadsAsLaidOut (s : Shape) (ps b : List ℕ) : Type 0 where
  -- the exact length, and the first words "D, C, T, H"
  pub exact : length b ≡ 4 * region_words s
  pub shape : words_at b 0 4 ≡ s.depth ∷ s.cells ∷ s.threads ∷ s.threshold ∷ []
  -- "Layout sets depth 1, all nodes empty, clean, counter 0"
  pub depth : (shared_in (frame_of s) b).depth ≡ 1
  pub nodes : (n : ℕ) → node_in (frame_of s) b n ≡ empty_node
  -- "cells chain 1, 2, .. C as free, keys and tags 0"
  pub free : (shared_in (frame_of s) b).free ≡ 1
  pub chain : (c : ℕ) → 1 ≤ c → c < s.cells → cell_in (frame_of s) b c ≡ record { item = zero_item; next = c + 1 }
  pub chain_ends : cell_in (frame_of s) b s.cells ≡ record { item = zero_item; next = 0 }
  -- "thread words 0 but the permission": thread t is idle with permission t of the list
  pub threads : (t : ℕ) → 1 ≤ t → t ≤ s.threads → thread_in (frame_of s) b t ≡ idle_thread (get_or ps (t - 1) 0)

-- for every shape, permission list and slice that layout accepts
abbrev pub LayoutReads : Type 0
LayoutReads =
    (s : Shape) (ps b : List ℕ) → layout_refusal s ps (length b) ≡ done → ReadsAsLaidOut s ps (layout_bytes s ps b)
