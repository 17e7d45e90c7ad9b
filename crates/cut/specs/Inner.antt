-- What only the contracts of inner functions and the proofs need. A reader of the result may skip this file.
use Rattle.std.specs.Prelude.{Bool, Err, List, None, Ok, Option, Some, [], drop, eqb, false, get_or, length, map, suc, take, true, zero, ℕ, ◌&&◌, ◌*◌, ◌++◌, ◌+◌, ◌-◌, ◌<◌, ◌^◌, ◌||◌, ◌∷◌, ◌≡◌, ◌≤◌}
use Rattle.std.proofs.Math.Seq.{slice}
use Rattle.words.specs.Word.{word}
use Rattle.region.specs.Refusal.{Checked, done, number_of}
use Rattle.region.specs.Frame.{frame_of}
use Rattle.region.specs.Pick.{pick}
use Rattle.region.specs.declared.frame.Frame.{Frame}
use Rattle.readable.specs.Readable.{readable}
use Rattle.run.specs.Run.{Turn as ScheduleTurn, turn_at}
use Rattle.script.specs.Inner.{Ready}
use Rattle.script.specs.Script.{call_bytes, call_outcome, laid_region, region_length, setup_refusal}
use Rattle.script.specs.declared.reading.ScriptLine.{ScriptLine}
use Rattle.script.specs.declared.reading.Setup.{Setup}
use Rattle.script.specs.declared.reading.What.{What}
use Rattle.script.specs.declared.reading.What.TheVariants.{Put, Take, TakeList, Permit, Turn}
use Rattle.script.specs.declared.text.Text.{Text}
use Rattle.cut.specs.Whole.{Entry, entries_from, read_script, texts}
use Rattle.cut.specs.Shown.{is_refusal}
use Rattle.cut.specs.Cut.{passes}
use Rattle.cut.specs.Program.{cut_or_refused}
use Rattle.cut.specs.declared.lines.Call.{Call}
use Rattle.cut.specs.declared.lines.Line.{Line}
use Rattle.cut.specs.declared.passes.Trial.{Trial}

-- what stands where no line was read
abbrev pub no_line : Line
no_line = record { call = record { what = Put (record { key = 0; tag = 0 }); thread = 0 }; start = 0; end = 0 }

-- the positions of a line, which starts at `start`, fit its words; and that line
pub record LineFits (l : ScriptLine) (start : ℕ) : Type 0 where
  pub start_fits : start < 2 ^ 32
  pub end_fits : l.next < 2 ^ 32

abbrev pub line_at : ScriptLine → ℕ → Line
line_at l start = record { call = record { what = l.what; thread = l.thread }; start = start; end = l.next }

-- a line of the script s as an entry, with its bytes; and lines
abbrev pub entry_in : List ℕ → Line → Entry
entry_in s l = record { what = l.call.what; thread = l.call.thread; text = slice l.start l.end s }

abbrev pub entries_in : List ℕ → List Line → List Entry
entries_in s ls = map (entry_in s) ls

-- the calls of lines
abbrev pub calls_of : List Line → List Call
calls_of ls = map (λ l. l.call) ls

-- every line lies in the script s
pub record Placed (s : List ℕ) (ls : List Line) : Type 0 where
  pub starts : (k : ℕ) → (get_or ls k no_line).start ≤ (get_or ls k no_line).end
  pub ends : (k : ℕ) → (get_or ls k no_line).end ≤ length s

-- there is room for the lines of s
pub record LinesReady (s : List ℕ) (ls : List Line) : Type 0 where
  pub some : 0 < length s
  pub short : length s ≤ 60000
  pub room : length ls ≡ 6000
  pub placed : Placed s ls

-- how many lines were read
abbrev pub count_of : Option (List Entry) → Option ℕ
count_of None = None
count_of (Some es) = Some (length es)

-- what reading the lines of s from a position on leaves
pub record LinesRead (s : List ℕ) (start : ℕ) (ls : List Line) (r : Option ℕ) : Type 0 where
  pub count : r ≡ count_of (entries_from (length s) s start)
  pub entries : (es : List Entry) → entries_from (length s) s start ≡ Some es → es ≡ entries_in s (take (length es) ls)
  pub few : (n : ℕ) → r ≡ Some n → n ≤ 6000
  pub placed : Placed s ls

-- Trials. Whether a call that answers r is refused with the number n, and whether answer k of a run is that refusal.
unfoldable pub refused_with : ℕ → Checked → Bool
refused_with n (Ok x) = false
refused_with n (Err r) = eqb (number_of r) n

unfoldable pub refused_at : ℕ → List ℕ → ℕ → Bool
refused_at n a k = eqb (word a (3 * k)) 5 && eqb (word a (3 * k + 1)) n

-- whether one of the m answers from answer k on is
unfoldable pub any_refused_at : ℕ → List ℕ → ℕ → ℕ → Bool
unfolding refused_at
any_refused_at n a k zero = false
any_refused_at n a k (suc m) = refused_at n a k || any_refused_at n a (suc k) m

abbrev pub is_turn : What → Bool
is_turn (Put i) = false
is_turn Take = false
is_turn TakeList = false
is_turn (Permit p) = false
is_turn (Turn c) = true

-- a call that is not a turn can be made on the region b
pub record CallReady (f : Frame) (b : List ℕ) (c : Call) : Type 0 where
  pub ready : Ready f b
  pub other : is_turn c.what ≡ false

-- whether a line's call shows the number n, and what it leaves
pub record CallShown (n : ℕ) (b b' : List ℕ) (c : Call) (r : Bool) : Type 0 where
  pub shown : r ≡ is_refusal n (call_outcome b c.what c.thread)
  pub bytes : b' ≡ call_bytes b c.what c.thread

-- whether one of these calls shows the number n, on the region b, and the region after them
unfoldable pub calls_show : ℕ → List Call → List ℕ → Bool
calls_show n [] b = false
calls_show n (c ∷ cs) b =
    is_refusal n (call_outcome b c.what c.thread) || calls_show n cs (call_bytes b c.what c.thread)

unfoldable pub region_after : List Call → List ℕ → List ℕ
region_after [] b = b
region_after (c ∷ cs) b = region_after cs (call_bytes b c.what c.thread)

-- a turn of a schedule as a call
abbrev pub turn_call : ScheduleTurn → Call
turn_call t = record { what = Turn t.choice; thread = t.thread }

-- turn k is stored in the schedule s, and those before it stay
pub record TurnStored (s : List ℕ) (k thread choice : ℕ) (s' : List ℕ) : Type 0 where
  pub same : length s' ≡ length s
  pub stored : turn_at s' k ≡ record { thread = thread; choice = choice }
  pub others : (j : ℕ) → j < k → turn_at s' j ≡ turn_at s j

-- the first turns of a schedule of m bytes can be served on the region b, and whether they show the number n, and what they leave
pub record TurnsReady (b : List ℕ) (m turns : ℕ) : Type 0 where
  pub region : readable b ≡ true
  pub room : m ≡ 128
  pub few : turns ≤ 16

pub record TurnsShown (n : ℕ) (ts : List ScheduleTurn) (b b' : List ℕ) (r : Bool) : Type 0 where
  pub shown : r ≡ calls_show n (map turn_call ts) b
  pub bytes : b' ≡ region_after (map turn_call ts) b

-- whether lines show the number n, and the region after them
abbrev pub lines_show : ℕ → List ℕ → List Line → Bool
lines_show n b ls = calls_show n (calls_of ls) b

abbrev pub lines_region : List Line → List ℕ → List ℕ
lines_region ls b = region_after (calls_of ls) b

-- the turns with which lines start can be entered into a schedule of m bytes, and those that are
pub record Gatherable (ls : List Line) (m : ℕ) : Type 0 where
  pub some : 0 < length ls
  pub room : m ≡ 128

pub record Gathered (ls : List Line) (s : List ℕ) (r : ℕ) : Type 0 where
  pub room : length s ≡ 128
  pub few : r ≤ 16
  pub before : r ≤ length ls
  pub each : (j : ℕ) → j < r → (get_or ls j no_line).call ≡ turn_call (turn_at s j)
  pub none : r ≡ 0 → is_turn (get_or ls 0 no_line).call.what ≡ false

-- whether lines that were run show the number n, and what they leave if they don't
pub record LinesRan (n : ℕ) (ls : List Line) (b b' : List ℕ) (r : Bool) : Type 0 where
  pub shown : r ≡ lines_show n b ls
  pub region : r ≡ false → b' ≡ lines_region ls b

-- a line tried on the region b, as the lines before it leave it, with rest behind it
abbrev pub left_on : ℕ → List ℕ → Line → List Line → List Line
left_on n b l rest = pick (lines_show n b rest) rest (l ∷ rest)

-- Lines tried on the region b, rest being what is left of those behind them. Where a line shows the number, all behind it go.
unfoldable pub tried_on : ℕ → List ℕ → List Line → List Line → List Line
tried_on n b [] rest = rest
tried_on n b (l ∷ ls) rest =
    left_on n b l (pick (lines_show n b (l ∷ [])) rest (tried_on n (lines_region (l ∷ []) b) ls rest))

-- Regions in slots of 14,912 bytes: the last slot of the states l, and the region of size bytes at its start; and two slots, the first of
-- which has had the region of the second copied into it.
unfoldable pub slot_of : List ℕ → List ℕ
slot_of l = drop (length l - 14912) l

unfoldable pub region_in : ℕ → List ℕ → List ℕ
unfolding slot_of
region_in size l = take size (slot_of l)

unfoldable pub copied_down : List ℕ → ℕ → List ℕ
copied_down l size = take size (drop 14912 l) ++ drop size l

-- a slot for the region at a line, and one each time that m lines can be halved
pub record StatesRoom (m room : ℕ) : Type 0 where
  pub halvings : ℕ
  pub few : m ≤ 2 ^ halvings
  pub fit : 14912 * suc halvings ≤ room

-- lines ls[from..to] can be tried on the region b
pub record Triable (trial : Trial) (ls : List Line) (from to kept : ℕ) (b : List ℕ) : Type 0 where
  pub ready : Ready trial.frame b
  pub some : from < to
  pub before : to ≤ kept
  pub within : kept ≤ length ls

-- there is a slot before the last one for a copy of its region, on which lines can be run; and what running them there leaves
pub record HalfReady (trial : Trial) (states : List ℕ) : Type 0 where
  pub ready : Ready trial.frame (region_in trial.size states)
  pub small : trial.size ≤ 14856
  pub room : 29824 ≤ length states

pub record HalfRan (trial : Trial) (ls : List Line) (states states' : List ℕ) (r : Bool) : Type 0 where
  pub kept : slot_of states' ≡ slot_of states
  pub shown : r ≡ lines_show trial.number (region_in trial.size states) ls
  pub region :
      r ≡ false
      → region_in trial.size (take (length states - 14912) states')
      ≡ lines_region ls (region_in trial.size states)

pub record LinesTriable (trial : Trial) (ls : List Line) (from to kept : ℕ) (states : List ℕ) : Type 0 where
  pub able : Triable trial ls from to kept (region_in trial.size states)
  pub small : trial.size ≤ 14856
  pub room : StatesRoom (to - from) (length states)

pub record LinesTried (n : ℕ) (ls ls' : List Line) (from to kept : ℕ) (b : List ℕ) (r : ℕ) : Type 0 where
  pub least : from ≤ r
  pub most : r ≤ kept
  pub front : take from ls' ≡ take from ls
  pub left : drop r ls' ≡ tried_on n b (slice from to ls) (drop kept ls)

-- the trials of a setup
pub record IsTrial (u : Setup) (number : ℕ) (trial : Trial) : Type 0 where
  pub number_same : trial.number ≡ number
  pub setup_same : trial.setup ≡ u
  pub frame_same : trial.frame ≡ frame_of u.shape
  pub size_same : trial.size ≡ region_length u

-- lines can be cut down
pub record Cuttable (trial : Trial) (ls : List Line) (states : List ℕ) : Type 0 where
  pub accepted : setup_refusal trial.setup ≡ done
  pub trial_of : IsTrial trial.setup trial.number trial
  pub few : length ls ≤ 6000
  pub room : length states ≡ 208768

-- an accepted setup's region can be laid out in the last slot, and is
pub record LastReady (u : Setup) (states : List ℕ) : Type 0 where
  pub accepted : setup_refusal u ≡ done
  pub room : length states ≡ 208768

pub record LastLaid (u : Setup) (states : List ℕ) : Type 0 where
  pub laid : region_in (region_length u) states ≡ laid_region u

pub record PassReady (trial : Trial) (ls : List Line) (first : ℕ) (states : List ℕ) : Type 0 where
  pub able : Cuttable trial ls states
  pub some : first < length ls

pub record LinesCut (n : ℕ) (b : List ℕ) (ls ls' : List Line) (r : ℕ) : Type 0 where
  pub within : r ≤ length ls
  pub left : drop r ls' ≡ passes (length ls) (lines_show n b) ls

-- lines have room behind the text t
pub record WriteRoom (t : Text) (s : List ℕ) (ls : List Line) : Type 0 where
  pub placed : Placed s ls
  pub room : t.len + length (texts (entries_in s ls)) ≤ length t.out.now

-- the opening has room at the start of a slice, and behind it these lines
pub record CutRoom (out s : List ℕ) (opening : ℕ) (ls : List Line) : Type 0 where
  pub placed : Placed s ls
  pub within : opening ≤ length s
  pub room : opening + length (texts (entries_in s ls)) ≤ length out

-- s is read as the setup u and these lines, whether the layout is accepted or not, and out has room for it
pub record ReadWhole (s : List ℕ) (u : Setup) (ls : List Line) (out : List ℕ) : Type 0 where
  pub read : read_script s ≡ Some (record { setup = u; opening = take u.next s; lines = entries_in s ls })
  pub few : length ls ≤ 6000
  pub placed : Placed s ls
  pub room : length s ≤ length out

-- the same, and the layout is accepted
pub record Laid (s : List ℕ) (u : Setup) (ls : List Line) (out : List ℕ) : Type 0 where
  pub accepted : setup_refusal u ≡ done
  pub whole : ReadWhole s u ls out

-- there is room for the script and for a refusal, and what printing either leaves
pub record ScriptRoom (s out : List ℕ) : Type 0 where
  pub room : length s ≤ length out
  pub line : 11 ≤ length out

pub record ScriptPrinted (s : List ℕ) (n : ℕ) (out out' : List ℕ) (r : ℕ) : Type 0 where
  pub count : r ≡ length (cut_or_refused s n)
  pub output : out' ≡ cut_or_refused s n ++ drop r out
