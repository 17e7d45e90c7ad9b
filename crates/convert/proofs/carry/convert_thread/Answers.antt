-- `convert::carry::convert_thread` meets its contract: the copies behind the words before them. Assumes nothing.
use mathlib.Core.Path.{refl, ap, ◌∙◌}
use native.Mathlib.Omega.{arith}
use Rattle.words.specs.Word.{set_words}
use Rattle.convert.proofs.Loops.{thread_stored}
use Rattle.convert.proofs.carry.convert_thread.Goals as goal

pub returns : goal.returns
returns c =
    thread_stored _ _ _ _ _ _ _ _ _ _ _ _ _ _ (c.store_words.ensures ∙ ap (set_words _ _) c.load_words.ensures) c.convert_copy.ensures
    c.convert_copy-2.ensures c.convert_copy-3.ensures refl (omega arith) (omega arith) refl (omega arith) (omega arith)
