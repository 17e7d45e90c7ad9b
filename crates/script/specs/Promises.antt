-- What `run_script` answers and leaves in the lent buffers, by the definition of what a script prints.
use Rattle.std.specs.Prelude.{ℕ, ◌≡◌, List, ◌++◌, length, drop}
use Rattle.script.specs.Script.{script_run}

-- the bytes of the largest region that a script can lay out: D 8, C 128, T 64
abbrev pub region_room : ℕ
region_room = 14856

-- a line of the output has at most 55 bytes, a line of the script that can be read at least ten; so 60,000 bytes print at most
-- 6,000 lines, and one more that cannot be read
abbrev pub lines_room : ℕ
lines_room = 330055

-- what `run_script` answers to the script s and leaves in the lent buffers: the output and the region at their starts, the rest as it was
pub record ScriptRan (s out out' g g' : List ℕ) (r : ℕ) : Type 0 where
  pub count : r ≡ length (script_run s).printed
  pub output : out' ≡ (script_run s).printed ++ drop r out
  pub region : g' ≡ (script_run s).region ++ drop (length (script_run s).region) g
