-- The statements that hold of the report; each is proved in the file of `proofs/` with its name.
use Rattle.std.specs.Prelude.{ℕ, ◌+◌, ◌≤◌, ◌≡◌, true, List, [], ◌∷◌, length}
use Rattle.region.specs.Refusal.{done}
use Rattle.access.specs.Plan.{accesses_of}
use Rattle.readable.specs.Readable.{frame_in, readable}
use Rattle.machine.specs.Turn.{carried_out, turn_on_answer, turn_on_bytes}
use Rattle.script.specs.Script.{call_bytes, laid_region, setup_refusal}
use Rattle.script.specs.declared.reading.ScriptLine.{ScriptLine}
use Rattle.script.specs.declared.reading.Setup.{Setup}
use Rattle.figures.specs.Scripts.{found, Script, lines_at, read_scripts}
use Rattle.figures.specs.Turns.{TurnMade, all_turns, turn_made, turns_in}
use Rattle.figures.specs.Figures.{accesses, figures, of_thread}
use Rattle.figures.specs.Report.{Group, all_groups}

-- reading at most as many lines as there are bytes leaves no line out: with more allowed, nothing else is read
abbrev pub NoLineLeftOut : Type 0
NoLineLeftOut = (n : ℕ) (s : List ℕ) (at : ℕ) → length s ≤ n → lines_at n s at ≡ lines_at (length s) s at

-- The turns that are counted are those that the script program makes: on a readable region a turn's plan has its answer, and carrying it out
-- leaves its bytes; and along a script that can be read the region stays readable.
pub record IsTurn (b : List ℕ) (t c : ℕ) : Type 0 where
  pub answer : turn_on_answer b t c ≡ (turn_made b t c).plan.answer
  pub bytes : turn_on_bytes b t c ≡ carried_out (frame_in b) b t (turn_made b t c).plan

abbrev pub TurnsAreOfTheMachine : Type 0
TurnsAreOfTheMachine = (b : List ℕ) → readable b ≡ true → (t c : ℕ) → IsTurn b t c

unfoldable pub region_after : List ScriptLine → List ℕ → List ℕ
region_after [] b = b
region_after (l ∷ ls) b = region_after ls (call_bytes b l.what l.thread)

abbrev pub StaysReadable : Type 0
StaysReadable = (u : Setup) → setup_refusal u ≡ done → (ls : List ScriptLine) → readable (region_after ls (laid_region u)) ≡ true

-- the accesses that the run's definition counts, over these turns
unfoldable pub accesses_made : List TurnMade → ℕ
accesses_made [] = 0
accesses_made (v ∷ vs) = accesses_of v.plan.answer + accesses_made vs

-- the six kinds sum to the accesses: of each thread of a script, and of all scripts
abbrev pub KindsSumToAccesses : Type 0
KindsSumToAccesses =
    ((x : Script) (t : ℕ) → accesses (figures (of_thread t (turns_in x))) ≡ accesses_made (of_thread t (turns_in x)))
    × ((xs : List Script) → accesses (figures (all_turns xs)) ≡ accesses_made (all_turns xs))

-- the figures of groups added up, column by column
abbrev pub plus : List ℕ → List ℕ → List ℕ
plus [] ns = []
plus (m ∷ ms) [] = []
plus (m ∷ ms) (n ∷ ns) = (m + n) ∷ plus ms ns

unfoldable pub sums : List Group → List ℕ
sums [] = figures []
sums (g ∷ gs) = plus (figures g.turns) (sums gs)

-- "per thread and in total": the total is the sum of the groups whose rows the report has
abbrev pub TotalIsSum : Type 0
TotalIsSum =
    (s : List ℕ) (xs : List Script) (end : ℕ) → read_scripts s ≡ found xs end → figures (all_turns xs) ≡ sums (all_groups 1 xs)
