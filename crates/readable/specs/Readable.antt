-- Readability (document 01, The region): "A region is readable if its length is exactly that of its first words, those are in range,
-- depth is 1..D, and every field is in range". Every rule is said of a word: it is at most its greatest value.
use Rattle.std.specs.Prelude.{ℕ, zero, suc, ◌+◌, ◌-◌, ◌*◌, ◌^◌, Bool, true, ◌&&◌, List, [], ◌∷◌, leb, eqb, length, set, Result, Ok}
use Rattle.words.specs.Word.{word}
use Rattle.region.specs.Refusal.{Checked, granted, code_of, ◌unless◌otherwise◌}
use Rattle.region.specs.declared.refusal.Refusal.{Refusal}
use Rattle.region.specs.declared.refusal.Refusal.TheVariants.{Unreadable}
use Rattle.region.specs.Frame.{frame_of, frame_of_width}
use Rattle.region.specs.Level.{level}
use Rattle.region.specs.Pick.{pick}
use Rattle.region.specs.Place.{place_number}
use Rattle.region.specs.Record.{counter_size, node_size, cell_size, node_words, cell_words, copy_words, greatest_tag}
use Rattle.region.specs.Shape.{between, shape_fits, node_count, region_words_of_width}
use Rattle.region.specs.Thread.{field_words, thread_words, greatest_permission, place_word, tries_word, node_word, waiting_word}
use Rattle.region.specs.declared.frame.Frame.{Frame}
use Rattle.region.specs.declared.place.Place.TheVariants.{ReadLeaf, MendReadNode, MendClean, HandOut}
use Rattle.region.specs.declared.record.Cell.{Cell}
use Rattle.region.specs.declared.record.Item.{Item}
use Rattle.region.specs.declared.record.Node.{Node}
use Rattle.region.specs.declared.record.NodeCopy.{NodeCopy}
use Rattle.region.specs.declared.shape.Shape.{Shape}
use Rattle.region.specs.declared.thread.Thread.{Thread}

-- "Counters and keys are free.": any word
abbrev pub any_word : ℕ
any_word = 4294967295

-- The greatest value of each field, by its name. "cell 0..C", "dirty .. 0 or 1", "tags in range":
abbrev pub greatest_node : ℕ → Node
greatest_node cells = record { first = cells; dirty = 1; low = any_word; high = any_word }

abbrev pub greatest_item : Item
greatest_item = record { key = any_word; tag = greatest_tag }

abbrev pub greatest_cell : ℕ → Cell
greatest_cell cells = record { item = greatest_item; next = cells }

abbrev pub greatest_copy : ℕ → NodeCopy
greatest_copy cells = record { node = greatest_node cells; head = greatest_cell cells }

-- and of a thread's record; tries at I2 and waiting levels have further rules below
abbrev pub greatest_thread : Shape → Thread
greatest_thread s =
    record {
      permission = greatest_permission;  -- "permission 0..3"
      place = MendClean any_word;  -- any waiting levels; the place's own maximum follows
      item = greatest_item;  -- any key, "tags in range"
      own = s.cells;  -- "cell 0..C"
      depth = s.depth;  -- "d, lo and hi 0..D"
      search_state =
          record {
            leaf = node_count s;  -- "node or leaf 0..2^D − 1"
            tries = s.threshold;  -- "tries 0..H"
            lo = s.depth;  -- "d, lo and hi 0..D"
            hi = s.depth;  -- "d, lo and hi 0..D"
          };
      node = node_count s;  -- "node or leaf 0..2^D − 1"
      after = 3;  -- "dirty and after 0 or 1"; request 1 has 2 and 3 too
      result = greatest_item;  -- any key, "tags in range"
      copies = record { first = greatest_copy s.cells; second = greatest_copy s.cells; third = greatest_copy s.cells };
    }

-- the same word by word, in the order of the words; w is the words of a counter
abbrev pub node_maxima : ℕ → ℕ → List ℕ
node_maxima w cells = node_words w (greatest_node cells)

abbrev pub cell_maxima : ℕ → List ℕ
cell_maxima cells = cell_words (greatest_cell cells)

abbrev pub copy_maxima : ℕ → ℕ → List ℕ
copy_maxima w cells = copy_words w (greatest_copy cells)

-- "place 0..16", with request 1 0..19: the place of the greatest number carries no waiting levels, so its number is written over M6's
abbrev pub thread_maxima : ℕ → Shape → List ℕ
thread_maxima w s = set (thread_words w (greatest_thread s)) place_word (place_number HandOut)

-- those of the words before the node copies
abbrev pub field_maxima : Shape → List ℕ
field_maxima s = set (field_words (greatest_thread s)) place_word (place_number HandOut)

-- "and below H at I2"
unfoldable pub greatest_tries : Shape → ℕ → ℕ
greatest_tries s place = pick (eqb place (place_number ReadLeaf)) (s.threshold - 1) s.threshold

-- "waiting marks only at M places and levels above the node's (none at node 0)": bit j − 1 for level j
unfoldable pub greatest_waiting : ℕ → ℕ → ℕ
unfolding between
greatest_waiting place node =
    pick (between (place_number (MendReadNode 0)) place (place_number (MendClean 0))) (2 ^ (level node - 1) - 1) 0

-- the words from word `at` on are at most their greatest values
unfoldable pub bounded : List ℕ → ℕ → List ℕ → Bool
bounded b at [] = true
bounded b at (m ∷ ms) = leb (word b at) m && bounded b (suc at) ms

-- the node and the cell at word `at`, in a region with this number of cells
abbrev pub node_readable : ℕ → ℕ → List ℕ → ℕ → Bool
node_readable w cells b at = bounded b at (node_maxima w cells)

abbrev pub cell_readable : ℕ → List ℕ → ℕ → Bool
cell_readable cells b at = bounded b at (cell_maxima cells)

-- the thread's record at word `at`: each word alone, then tries by the place, and waiting levels by place and node; ms are its words' maxima
unfoldable pub thread_passes : List ℕ → Shape → List ℕ → ℕ → Bool
unfolding bounded greatest_tries greatest_waiting
thread_passes ms s b at =
    bounded b at ms
    && leb (word b (at + tries_word)) (greatest_tries s (word b (at + place_word)))
    && leb (word b (at + waiting_word)) (greatest_waiting (word b (at + place_word)) (word b (at + node_word)))

abbrev pub thread_readable : ℕ → Shape → List ℕ → ℕ → Bool
thread_readable w s b at = thread_passes (thread_maxima w s) s b at

-- n records from word `at` on, `stride` words from one to the next, all pass the test
unfoldable pub all_records : (List ℕ → ℕ → Bool) → ℕ → List ℕ → ℕ → ℕ → Bool
all_records test stride b at zero = true
all_records test stride b at (suc n) = test b at && all_records test stride b (at + stride) n

-- "depth is 1..D", the first free cell, the nodes and the cells
unfoldable pub tree_readable : Frame → List ℕ → Bool
unfolding bounded all_records
tree_readable f b =
    between 1 (word b f.depth) f.shape.depth
    && leb (word b f.free) f.shape.cells
    && all_records (node_readable f.width f.shape.cells) (node_size f.width) b f.nodes (node_count f.shape)
    && all_records (cell_readable f.shape.cells) cell_size b f.cells f.shape.cells

-- every field of a frame's parts is in range
unfoldable pub fields_readable : Frame → List ℕ → Bool
unfolding tree_readable thread_passes all_records
fields_readable f b = tree_readable f b && all_records (thread_readable f.width f.shape) f.stride b f.threads f.shape.threads

-- the shape that the first words give, and the frame of a region that holds one queue of that shape
abbrev pub shape_in : List ℕ → Shape
shape_in b = record { depth = word b 0; cells = word b 1; threads = word b 2; threshold = word b 3 }

abbrev pub frame_in : List ℕ → Frame
frame_in b = frame_of (shape_in b)

-- the first words are a shape in range, and the length is that of a region of this shape whose counters have w words
abbrev pub is_whole_of_width : ℕ → List ℕ → Bool
is_whole_of_width w b = shape_fits (shape_in b) && eqb (length b) (4 * region_words_of_width w (shape_in b))

unfoldable pub readable_of_width : ℕ → List ℕ → Bool
unfolding fields_readable
readable_of_width w b = is_whole_of_width w b && fields_readable (frame_of_width w (shape_in b)) b

-- counters have two words (document 02, request 7)
abbrev pub is_whole : List ℕ → Bool
is_whole b = is_whole_of_width counter_size b

abbrev pub readable : List ℕ → Bool
readable b = readable_of_width counter_size b

-- what a region is refused for that is not readable, and the number that tells it
abbrev pub readable_check : List ℕ → Checked
readable_check b = Unreadable unless readable b otherwise granted

unfoldable pub check_answer : List ℕ → ℕ
unfolding readable_of_width
check_answer b = code_of (readable_check b)
