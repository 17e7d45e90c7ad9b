-- What `write_report` answers and leaves in the lent buffer, by the definition of the report.
use Rattle.std.specs.Prelude.{ℕ, ◌≡◌, List, ◌++◌, length, drop}
use Rattle.figures.specs.Report.{report}

-- the report stands at the buffer's start, the rest is as it was
pub record Reported (s out out' : List ℕ) (r : ℕ) : Type 0 where
  pub count : r ≡ length (report s)
  pub output : out' ≡ report s ++ drop r out
