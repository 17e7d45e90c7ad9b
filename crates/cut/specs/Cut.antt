-- Cutting a script down: `cut_refusal` and `cut_script`, below all they are made of.
use Rattle.std.specs.Prelude.{ℕ, zero, suc, Bool, List, [], ◌∷◌, ◌++◌, leb, eqb, length, Option, Some, None, Err}
use Rattle.region.specs.Refusal.{Checked, code_of, done, granted, ◌unless◌otherwise◌}
use Rattle.region.specs.declared.refusal.Refusal.TheVariants.{BadLength, NotShown}
use Rattle.region.specs.Pick.{pick}
use Rattle.script.specs.declared.reading.Setup.{Setup}
use Rattle.cut.specs.Whole.{Entry, Script, read_script, script_bytes, with_lines}
use Rattle.cut.specs.Shown.{shows}

-- a line tried for removal, with front before it and rest behind it: it goes if the number is still shown without it
abbrev pub left_out : {A : Type 0} → (List A → Bool) → List A → A → List A → List A
left_out shown front e rest = pick (shown (front ++ rest)) rest (e ∷ rest)

-- "Lines are tried for removal from the last to the first": what is left of the lines es and of those behind them, front standing before
-- es, and rest being what is left of those behind. The lines behind a line are tried before it.
unfoldable pub tried : {A : Type 0} → (List A → Bool) → List A → List A → List A → List A
tried shown front [] rest = rest
tried shown front (e ∷ es) rest = left_out shown front e (tried shown (front ++ (e ∷ [])) es rest)

-- one pass over all lines
unfoldable pub pass : {A : Type 0} → (List A → Bool) → List A → List A
unfolding tried
pass shown es = tried shown [] es []

-- "over and over until a whole pass removes none". The first argument is the most passes there can be before that one: each of them removes
-- a line, so there are at most as many as lines (`PassesEnd` in Theorems.antt).
unfoldable pub passes : {A : Type 0} → ℕ → (List A → Bool) → List A → List A
unfolding pass
passes zero shown es = es
passes (suc most) shown es = pick (eqb (length (pass shown es)) (length es)) es (passes most shown (pass shown es))

unfoldable pub cut_lines : ℕ → Setup → List Entry → List Entry
unfolding passes
cut_lines n u es = passes (length es) (shows n u) es

-- "with the three heading lines kept"
unfoldable pub cut_of : ℕ → Script → Script
unfolding cut_lines
cut_of n x = with_lines x (cut_lines n x.setup x.lines)

-- what a cut is refused for: a slice shorter than the script; then a script with a line that cannot be read, or that does not show the number.
-- s is the script, n the number, room the slice's length
abbrev pub shown_check : ℕ → Option Script → Checked
shown_check n None = Err NotShown
shown_check n (Some x) = NotShown unless shows n x.setup x.lines otherwise granted

abbrev pub cut_check : List ℕ → ℕ → ℕ → Checked
cut_check s n room = BadLength unless leb (length s) room otherwise shown_check n (read_script s)

unfoldable pub cut_refusal : List ℕ → ℕ → ℕ → ℕ
unfolding shows
cut_refusal s n room = code_of (cut_check s n room)

-- the bytes of what a script is cut down to
abbrev pub cut_bytes : ℕ → Option Script → List ℕ
cut_bytes n None = []
cut_bytes n (Some x) = script_bytes (cut_of n x)

-- what is written: nothing where the call is refused
unfoldable pub cut_script : List ℕ → ℕ → ℕ → List ℕ
unfolding cut_refusal cut_of
cut_script s n room = pick (eqb (cut_refusal s n room) done) (cut_bytes n (read_script s)) []
