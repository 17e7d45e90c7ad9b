-- Where the parts of a queue lie in its region: word offsets, counted from 0.
use Rattle.std.specs.Prelude.{ℕ, ◌+◌, ◌*◌}
use Rattle.region.specs.Record.{counter_size, node_size, cell_size}
use Rattle.region.specs.Shape.{head_size, node_count}
use Rattle.region.specs.Thread.{thread_size}
use Rattle.region.specs.declared.frame.Frame.{Frame}
use Rattle.region.specs.declared.part.Part.{Part}
use Rattle.region.specs.declared.shape.Shape.{Shape}

-- six words (D, C, T, H, present depth, first free cell), then 2^D − 1 nodes, then C cells, then T threads; w is the words of a counter
unfoldable pub frame_of_width : ℕ → Shape → Frame
frame_of_width w s =
    record {
      shape = s;
      depth = 4;
      free = 5;
      nodes = head_size;
      cells = head_size + node_size w * node_count s;
      threads = head_size + node_size w * node_count s + cell_size * s.cells;
      stride = thread_size w;
      width = w;
    }

-- counters have two words
abbrev pub frame_of : Shape → Frame
frame_of s = frame_of_width counter_size s

-- the parts of a queue: `count` records, `stride` words from one to the next
abbrev pub nodes_of : Frame → Part
nodes_of f = record { start = f.nodes; stride = node_size f.width; count = node_count f.shape }

abbrev pub cells_of : Frame → Part
cells_of f = record { start = f.cells; stride = cell_size; count = f.shape.cells }

abbrev pub threads_of : Frame → Part
threads_of f = record { start = f.threads; stride = f.stride; count = f.shape.threads }
