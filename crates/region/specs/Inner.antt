-- What only the contracts of inner functions and the proofs need. A reader of the result may skip this file.
use Rattle.std.specs.Prelude.{ℕ, ◌+◌, ◌-◌, ◌*◌, ◌^◌, ◌≤◌, ◌≡◌}
use Rattle.words.specs.Inner.{Fit}
use Rattle.region.specs.declared.record.Node.{Node}
use Rattle.region.specs.declared.record.NodeCopy.{NodeCopy}
use Rattle.region.specs.declared.shape.Shape.{Shape}
use Rattle.region.specs.declared.thread.Thread.{Thread}
use Rattle.region.specs.Record.{cell_size, cell_words, counter_size, node_size, node_words}
use Rattle.region.specs.Shape.{node_count}
use Rattle.region.specs.Thread.{field_words, thread_size}
use Rattle.region.specs.declared.frame.Frame.{Frame}
use Rattle.region.specs.Frame.{cells_of, nodes_of, threads_of}
use Rattle.region.specs.declared.part.Part.{Part}

-- a shape that fits, as inequalities between numbers
pub record InRange (s : Shape) : Type 0 where
  pub depth_least : 1 ≤ s.depth
  pub depth_most : s.depth ≤ 12
  pub cells_least : 1 ≤ s.cells
  pub cells_most : s.cells ≤ 2 ^ (s.depth - 1)
  pub threads_least : 1 ≤ s.threads
  pub threads_most : s.threads ≤ 64
  pub threshold_least : 1 ≤ s.threshold
  pub threshold_most : s.threshold ≤ 16

-- the words of a part
abbrev pub part_size : Part → ℕ
part_size p = p.stride * p.count

-- the present depth and the first free cell as parts of one word
abbrev pub depth_of : Frame → Part
depth_of f = record { start = f.depth; stride = 1; count = 1 }

abbrev pub free_of : Frame → Part
free_of f = record { start = f.free; stride = 1; count = 1 }

-- what the code requires: counters have two words, each part of the frame ends within l bytes, a thread's record within its stride, and 2^D is
-- no more than 4,096
pub record Within (f : Frame) (l : ℕ) : Type 0 where
  pub width : f.width ≡ counter_size
  pub deep : f.shape.depth ≤ 12
  pub depth : 4 * f.depth + 4 ≤ l
  pub free : 4 * f.free + 4 ≤ l
  pub nodes : 4 * (f.nodes + node_size counter_size * node_count f.shape) ≤ l
  pub cells : 4 * (f.cells + cell_size * f.shape.cells) ≤ l
  pub threads : 4 * (f.threads + f.stride * f.shape.threads) ≤ l
  pub stride : thread_size counter_size ≤ f.stride

-- one part ends before the other starts
pub data Apart (p q : Part) : Type 0 where
  before : p.start + part_size p ≤ q.start → Apart p q
  behind : q.start + part_size q ≤ p.start → Apart p q

-- the parts of the frame lie apart, in whatever order
pub record Parted (f : Frame) : Type 0 where
  pub depth_free : Apart (depth_of f) (free_of f)
  pub depth_nodes : Apart (depth_of f) (nodes_of f)
  pub depth_cells : Apart (depth_of f) (cells_of f)
  pub depth_threads : Apart (depth_of f) (threads_of f)
  pub free_nodes : Apart (free_of f) (nodes_of f)
  pub free_cells : Apart (free_of f) (cells_of f)
  pub free_threads : Apart (free_of f) (threads_of f)
  pub nodes_cells : Apart (nodes_of f) (cells_of f)
  pub nodes_threads : Apart (nodes_of f) (threads_of f)
  pub cells_threads : Apart (cells_of f) (threads_of f)

-- a part ends within l bytes
abbrev pub EndsIn : Part → ℕ → Type 0
EndsIn p l = 4 * (p.start + part_size p) ≤ l

-- the words that a counter can have
pub data Width : ℕ → Type 0 where
  one_word : Width 1
  two_words : Width 2

-- the greatest high word of a counter of w words
abbrev pub greatest_high : ℕ → ℕ
greatest_high w = 4294967295 * (w - 1)

-- a node, a node copy and a thread's record that can be stored where counters have w words
pub record NodeFits (w : ℕ) (n : Node) : Type 0 where
  pub words : Fit (node_words counter_size n)
  pub high : n.high ≤ greatest_high w

pub record CopyFits (w : ℕ) (q : NodeCopy) : Type 0 where
  pub node : NodeFits w q.node
  pub head : Fit (cell_words q.head)

pub record ThreadFits (w : ℕ) (t : Thread) : Type 0 where
  pub fields : Fit (field_words t)
  pub first : CopyFits w t.copies.first
  pub second : CopyFits w t.copies.second
  pub third : CopyFits w t.copies.third

-- what the laws suppose of a frame over l bytes: counters have one word or two, each part ends within the l bytes and lies apart from the others, and
-- a thread's record ends within its stride
pub record Framed (f : Frame) (l : ℕ) : Type 0 where
  pub width : Width f.width
  pub depth : EndsIn (depth_of f) l
  pub free : EndsIn (free_of f) l
  pub nodes : EndsIn (nodes_of f) l
  pub cells : EndsIn (cells_of f) l
  pub threads : EndsIn (threads_of f) l
  pub stride : thread_size f.width ≤ f.stride
  pub apart : Parted f
