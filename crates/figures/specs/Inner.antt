-- What only the contracts of inner functions and the proofs need. A reader of the result may skip this file.
use Rattle.std.specs.Prelude.{ℕ, suc, ◌+◌, ◌-◌, ◌*◌, ◌≤◌, ◌<◌, ◌≡◌, Bool, true, false, ◌&&◌, List, [], ◌∷◌, ◌++◌, ltb, length, get_or, set, Option, Some, None}
use Rattle.region.specs.Refusal.{done}
use Rattle.region.specs.Pick.{pick}
use Rattle.region.specs.Shape.{between}
use Rattle.region.specs.Thread.{is_idle}
use Rattle.region.specs.declared.answer.Answer.{Answer}
use Rattle.region.specs.declared.answer.Answer.TheVariants.{Moved, Idle, Inserted, Took, Empty, Refused, Withdrawn}
use Rattle.region.specs.declared.place.Place.{Place}
use Rattle.region.specs.declared.thread.Thread.{Thread}
use Rattle.access.specs.declared.plan.Plan.{Plan}
use Rattle.readable.specs.Readable.{readable}
use Rattle.kinds.specs.Kind.{access_kind, failed_update, makes_access, no_access}
use Rattle.script.specs.Inner.{Appends}
use Rattle.script.specs.Script.{setup_refusal}
use Rattle.script.specs.declared.reading.Setup.{Setup}
use Rattle.script.specs.declared.text.Text.{Text}
use Rattle.figures.specs.Scripts.{Found, found, unfound, Script, input_most, lines_at, read_scripts, script_at}
use Rattle.figures.specs.Turns.{TurnMade, all_turns, turns_in, turns_of}
use Rattle.figures.specs.Figures.{accesses, figures, is_hand_out, operations}
use Rattle.figures.specs.Report.{all_groups, group_rows, ratio_text, row_text, spaced, thread_groups}

-- the rows of n threads from thread t on, vs being the turns of the script; and of scripts, the first of which is script k
unfoldable pub thread_rows : ℕ → List TurnMade → ℕ → ℕ → List ℕ
unfolding group_rows thread_groups
thread_rows script vs t n = group_rows (thread_groups script vs t n)

unfoldable pub script_rows : ℕ → List Script → List ℕ
unfolding group_rows all_groups
script_rows k xs = group_rows (all_groups k xs)

-- Of what is read: where it ends, whether it can be read, and its lines, scripts, turns or rows, of which there are none if it cannot.
abbrev pub end_of : {A : Type 0} → Found A → Option ℕ
end_of (found x next) = Some next
end_of unfound = None

abbrev pub is_found : {A : Type 0} → Found A → Bool
is_found (found x next) = true
is_found unfound = false

abbrev pub the_list : {A : Type 0} → Found (List A) → List A
the_list (found xs next) = xs
the_list unfound = []

abbrev pub the_turns : Found Script → List TurnMade
the_turns (found x next) = turns_in x
the_turns unfound = []

abbrev pub the_rows : ℕ → Found Script → List ℕ
the_rows k (found x next) = thread_rows k (turns_in x) 1 x.setup.shape.threads
the_rows k unfound = []

-- no figure of l is above m
pub record Most (m : ℕ) (l : List ℕ) : Type 0 where
  pub each : (k : ℕ) → get_or l k 0 ≤ m

-- The columns in which a turn counts; 11, after the last, is none.
unfoldable pub access_column : Place → Plan → ℕ
access_column p q = pick (makes_access q.answer && ltb (access_kind p) no_access) (access_kind p) 11

unfoldable pub failed_column : Place → Plan → ℕ
failed_column p q = pick (failed_update p q) 6 11

unfoldable pub took_column : Place → Thread → ℕ
took_column p t = pick (is_hand_out p) (pick (is_idle t) 9 11) 8

abbrev pub column_of : Answer → Place → Thread → ℕ
column_of Moved p t = 11
column_of Idle p t = 11
column_of Inserted p t = 7
column_of (Took i) p t = took_column p t
column_of Empty p t = 10
column_of (Refused n) p t = 11
column_of Withdrawn p t = 11

unfoldable pub answer_column : Place → Plan → ℕ
unfolding took_column
answer_column p q = column_of q.answer p q.thread

-- one more in a column of a row
unfoldable pub added : List ℕ → ℕ → List ℕ
added l k = pick (ltb k 11) (set l k (get_or l k 0 + 1)) l

-- a turn counted in a row
unfoldable pub counted : List ℕ → Place → Plan → List ℕ
unfolding added access_column failed_column answer_column
counted l p q = added (added (added l (access_column p q)) (failed_column p q)) (answer_column p q)

-- turns counted in a table that has a row for each thread, and in one row
unfoldable pub tallied : List (List ℕ) → TurnMade → List (List ℕ)
unfolding counted
tallied t v =
    pick (between 1 v.thread 64) (set t (v.thread - 1) (counted (get_or t (v.thread - 1) []) v.place v.plan)) t

unfoldable pub tally : List (List ℕ) → List TurnMade → List (List ℕ)
unfolding tallied
tally t [] = t
tally t (v ∷ vs) = tally (tallied t v) vs

unfoldable pub totalled : List ℕ → List TurnMade → List ℕ
unfolding counted
totalled l [] = l
totalled l (v ∷ vs) = totalled (counted l v.place v.plan) vs

-- a table has a row of eleven figures for each of 64 threads, and no figure is above n
pub record Table (n : ℕ) (t : List (List ℕ)) : Type 0 where
  pub rows : length t ≡ 64
  pub few : (i : ℕ) → Most n (get_or t i [])
  pub columns : (i : ℕ) → i < 64 → length (get_or t i []) ≡ 11

-- the region b, the table t and the total m are such that turns can be counted
pub record Countable (b : List ℕ) (t : List (List ℕ)) (m : List ℕ) : Type 0 where
  pub region : readable b ≡ true
  pub table : Table 4294967292 t
  pub few : Most 4294967292 m

-- what counting one turn, and those of a line, leaves in the table t and the total m
pub record TurnCounted (v : TurnMade) (t t' : List (List ℕ)) (m m' : List ℕ) : Type 0 where
  pub table : t' ≡ tallied t v
  pub total : m' ≡ counted m v.place v.plan

pub record LineCounted (vs : List TurnMade) (t t' : List (List ℕ)) (m m' : List ℕ) : Type 0 where
  pub table : t' ≡ tally t vs
  pub total : m' ≡ totalled m vs

-- the table and the total before lines from a position on are counted: no figure is above the bytes read
pub record Tables (s : List ℕ) (at : ℕ) (t : List (List ℕ)) (m : List ℕ) : Type 0 where
  pub short : length s ≤ input_most
  pub table : Table at t
  pub columns : length m ≡ 11
  pub few : Most at m

-- the lines from a position on are there, and the region b is readable
pub record LinesThere (s : List ℕ) (at : ℕ) (b : List ℕ) (t : List (List ℕ)) (m : List ℕ) : Type 0 where
  pub there : is_found (lines_at (length s) s at) ≡ true
  pub region : readable b ≡ true
  pub tables : Tables s at t m

-- what counting them leaves, r the position after them
pub record LinesCounted (s : List ℕ) (at : ℕ) (b : List ℕ) (t t' : List (List ℕ)) (m m' : List ℕ) (r : ℕ) : Type 0 where
  pub next : Some r ≡ end_of (lines_at (length s) s at)
  pub table : t' ≡ tally t (turns_of (the_list (lines_at (length s) s at)) b)
  pub total : m' ≡ totalled m (turns_of (the_list (lines_at (length s) s at)) b)
  pub tables : Tables s r t' m'
  pub within : r ≤ length s

-- the lines of an accepted setup are there
pub record SetupThere (s : List ℕ) (u : Setup) (t : List (List ℕ)) (m : List ℕ) : Type 0 where
  pub accepted : setup_refusal u ≡ done
  pub there : is_found (lines_at (length s) s u.next) ≡ true
  pub tables : Tables s u.next t m

-- there are n bytes of room behind the text t for a row
pub record RowRoom (n : ℕ) (t : Text) (l : List ℕ) : Type 0 where
  pub room : t.len + n ≤ length t.out.now
  pub columns : length l ≡ 11
  pub few : Most 60000 l

-- there is room for rows
pub record RowsRoom (t : Text) (rs : List (List ℕ)) : Type 0 where
  pub room : t.len + 165 * length rs ≤ length t.out.now
  pub most : length rs ≤ 64
  pub columns : (i : ℕ) → i < length rs → length (get_or rs i []) ≡ 11
  pub few : (i : ℕ) → Most 60000 (get_or rs i [])

-- a row's figures, and accesses per operation
unfoldable pub figures_text : List ℕ → List ℕ
figures_text fs = spaced fs ++ ratio_text (accesses fs) (operations fs)

-- rows of a script, k of whose threads stand before them
unfoldable pub rows_text : ℕ → ℕ → List (List ℕ) → List ℕ
rows_text script k [] = []
rows_text script k (r ∷ rs) = row_text script (suc k) r ++ rows_text script (suc k) rs

-- at 165 bytes a row: the room of a script's 64 rows, and of those of 64 scripts with the total's
abbrev pub rows_room : ℕ
rows_room = 10560

abbrev pub report_room : ℕ
report_room = 676005

-- the script from a position on is there, and its rows have room
pub record ScriptThere (s : List ℕ) (at : ℕ) (m : List ℕ) (t : Text) : Type 0 where
  pub there : is_found (script_at s at) ≡ true
  pub short : length s ≤ input_most
  pub columns : length m ≡ 11
  pub few : Most at m
  pub room : t.len + rows_room ≤ length t.out.now

-- what reporting it leaves: its rows are printed
pub record ScriptReported (s : List ℕ) (at k : ℕ) (m m' : List ℕ) (t t' : Text) (next : ℕ) : Type 0 where
  pub end : Some next ≡ end_of (script_at s at)
  pub rows : Appends t t' (the_rows k (script_at s at))
  pub fit : length (the_rows k (script_at s at)) ≤ rows_room
  pub total : m' ≡ totalled m (the_turns (script_at s at))
  pub columns : length m' ≡ 11
  pub few : Most next m'
  pub within : next ≤ length s

-- all scripts can be read, and the report has room behind its heading
pub record ScriptsThere (s : List ℕ) (t : Text) : Type 0 where
  pub there : is_found (read_scripts s) ≡ true
  pub room : t.len + report_room ≤ length t.out.now

-- what the scripts print behind the heading
unfoldable pub scripts_text : List Script → List ℕ
scripts_text xs = script_rows 1 xs ++ row_text 0 0 (figures (all_turns xs))
