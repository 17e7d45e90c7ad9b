-- Along a script whose setup is accepted the region stays readable: it is laid out readable, and each line's call keeps it so. Assumes
-- nothing.
use Prim.Native.Nat.{ℕ}
use mathlib.Core.Path.{◌≡◌}
use mathlib.Core.Bool.{true}
use mathlib.Core.List.{List, [], ◌∷◌}
use Rattle.readable.specs.Readable.{readable}
use Rattle.script.specs.Script.{call_bytes, laid_region}
use Rattle.script.specs.declared.reading.ScriptLine.{ScriptLine}
use Rattle.script.proofs.Regions.{call_keeps_readable, laid_readable}
use Rattle.figures.specs.Theorems.{StaysReadable, region_after}

after_lines : (ls : List ScriptLine) (b : List ℕ) → readable b ≡ true → readable (region_after ls b) ≡ true
unfolding region_after
after_lines [] b e = e
after_lines (l ∷ ls) b e = after_lines ls (call_bytes b l.what l.thread) (call_keeps_readable b e l.what l.thread)

pub stays_readable : StaysReadable
stays_readable u e ls = after_lines ls (laid_region u) (laid_readable u e)
