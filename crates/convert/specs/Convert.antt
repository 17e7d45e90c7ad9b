-- The converter (document 02, request 7): "A converter carries a readable old region over with no value lost, operations under way included." In
-- an old region counters have one word. Every word is carried over, and behind each counter's word stands its high word, 0.
use Rattle.std.specs.Prelude.{ℕ, zero, suc, ◌+◌, ◌*◌, ◌≡◌, Bool, List, [], ◌∷◌, ◌++◌, eqb, length}
use Rattle.words.specs.Word.{words_at, set_words}
use Rattle.region.specs.Refusal.{Checked, granted, code_of, done, ◌unless◌otherwise◌}
use Rattle.region.specs.declared.refusal.Refusal.TheVariants.{BadLength, Unreadable}
use Rattle.region.specs.Frame.{frame_of_width}
use Rattle.region.specs.Pick.{pick}
use Rattle.region.specs.Record.{old_counter_size, node_size, cell_size}
use Rattle.region.specs.Shape.{head_size, node_count, region_words}
use Rattle.region.specs.Thread.{first_copy_word, second_copy_word, third_copy_word, thread_size}
use Rattle.region.specs.declared.frame.Frame.{Frame}
use Rattle.readable.specs.Readable.{readable_of_width, shape_in}

-- a region whose counters have one word is readable, and the frame that its first words give
abbrev pub old_readable : List ℕ → Bool
old_readable b = readable_of_width old_counter_size b

abbrev pub old_frame_in : List ℕ → Frame
old_frame_in b = frame_of_width old_counter_size (shape_in b)

-- what a conversion is refused for: an old region that is not readable, then a new slice not of the exact length of a region of the same shape; l is
-- its length in bytes
abbrev pub convert_check : List ℕ → ℕ → Checked
convert_check old l =
    Unreadable unless old_readable old
    otherwise BadLength unless eqb l (4 * region_words (shape_in old))
    otherwise granted

unfoldable pub convert_refusal : List ℕ → ℕ → ℕ
convert_refusal old l = code_of (convert_check old l)

-- the words of the node, the node copy and the thread's record at word `at` of the old region, carried over
abbrev pub node_carried : List ℕ → ℕ → List ℕ
node_carried b at = words_at b at (node_size old_counter_size) ++ 0 ∷ []

abbrev pub copy_carried : List ℕ → ℕ → List ℕ
copy_carried b at = node_carried b at ++ words_at b (at + node_size old_counter_size) cell_size

abbrev pub thread_carried : List ℕ → ℕ → List ℕ
thread_carried b at =
    words_at b at first_copy_word
    ++ (copy_carried b (at + first_copy_word)
    ++ (copy_carried b (at + second_copy_word old_counter_size) ++ copy_carried b (at + third_copy_word old_counter_size)))

-- n records from word `at` on, `stride` words from one to the next, each carried over
unfoldable pub all_carried : (List ℕ → ℕ → List ℕ) → ℕ → List ℕ → ℕ → ℕ → List ℕ
all_carried words stride b at zero = []
all_carried words stride b at (suc n) = words b at ++ all_carried words stride b (at + stride) n

-- all words of the new region: "Six words: D, C, T, H, present depth, first free cell", nodes, cells, threads
unfoldable pub converted_words : Frame → List ℕ → List ℕ
converted_words f b =
    words_at b 0 head_size
    ++ (all_carried node_carried (node_size old_counter_size) b f.nodes (node_count f.shape)
    ++ (words_at b f.cells (cell_size * f.shape.cells)
    ++ all_carried thread_carried (thread_size old_counter_size) b f.threads f.shape.threads))

-- the new slice afterwards: every word is set, or, where the call is refused, no byte changes
unfoldable pub converted_bytes : List ℕ → List ℕ → List ℕ
converted_bytes old new =
    pick (eqb (convert_refusal old (length new)) done) (set_words new 0 (converted_words (old_frame_in old) old)) new

-- what the call answers and leaves; it is lent the old region to read alone
pub record Converted (old new new' : List ℕ) (r : ℕ) : Type 0 where
  pub answer : r ≡ convert_refusal old (length new)
  pub bytes : new' ≡ converted_bytes old new
