-- What the program `cut_main` prints, from its input, the number in decimal, LF, and then the script: what is left of the script, or the one
-- line `refused 16`. The program is for people.
use Rattle.std.specs.Prelude.{ℕ, ◌≡◌, List, ◌++◌, leb, eqb, length, drop, Option, Some, None}
use Rattle.region.specs.Refusal.{done}
use Rattle.region.specs.Pick.{pick}
use Rattle.script.specs.Text.{ascii, line_end}
use Rattle.script.specs.Reading.{number_then}
use Rattle.cut.specs.Cut.{cut_refusal, cut_script}

abbrev pub refused_line : List ℕ
refused_line = ascii "refused 16\n"

-- what is printed for a script and a number; there is always room for the script
unfoldable pub cut_or_refused : List ℕ → ℕ → List ℕ
unfolding cut_refusal cut_script
cut_or_refused s n = pick (eqb (cut_refusal s n (length s)) done) (cut_script s n (length s)) refused_line

-- a number that cannot be read is refused too
abbrev pub number_and_script : List ℕ → Option (ℕ × ℕ) → List ℕ
number_and_script input None = refused_line
number_and_script input (Some (n, at)) = cut_or_refused (drop at input) n

-- the most bytes of the input: ten digits, LF, and a script of 60,000. A longer one is refused, be it by leading zeros of the number alone.
abbrev pub input_most : ℕ
input_most = 60011

unfoldable pub cut_output : List ℕ → List ℕ
unfolding cut_or_refused number_then
cut_output input = pick (leb (length input) input_most) (number_and_script input (number_then input 0 line_end)) refused_line

-- what `print_cut` answers and leaves in the lent buffer: the output at its start, the rest as it was
pub record CutPrinted (input out out' : List ℕ) (r : ℕ) : Type 0 where
  pub count : r ≡ length (cut_output input)
  pub output : out' ≡ cut_output input ++ drop r out
