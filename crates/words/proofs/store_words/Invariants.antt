-- Storing the words that are left gives what storing all gives. Assumes nothing.
use Rattle.std.proofs.Common.{◌≡◌, ◌+◌, drop}
use Rattle.words.specs.Word.{set_words}
use Rattle.words.proofs.store_words.Given as goal

abbrev pub invariant-loop-i : goal.invariant-loop-i
invariant-loop-i l = set_words l.b (l.at + l.i) (drop l.i l.vs) ≡ set_words l.initial.b l.at l.vs
