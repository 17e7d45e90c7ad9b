-- What the programs cite of what a library printed: it stands at the start of the output. Assumes nothing.
use Prim.Native.Nat.{ℕ, ◌≤◌}
use native.Mathlib.Omega.{arith}
use mathlib.Core.Path.{◌≡◌, sym, ap, ◌∙◌}
use mathlib.Core.List.{List, ◌++◌}
use lib.ListN.{length, take, drop, length-append}
use lib.Seq.{take_at}

-- What is printed lies within the output, and is as long as the answer says.
module _ (text out out' : List ℕ) (r : ℕ) (count : r ≡ length text) (output : out' ≡ text ++ drop r out) where
  pub printed_within : r ≤ length out'
  printed_within = omega (arith, count, ap length output, length-append text (drop r out))

  pub printed_long : r ≡ length (take r out')
  printed_long = count ∙ ap length (sym (take_at text (drop r out) r (sym count))) ∙ ap (λ l. length (take r l)) (sym output)
