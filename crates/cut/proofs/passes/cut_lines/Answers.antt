-- `cut::passes::cut_lines` meets its contract: the loop keeps `Cutting`. Assumes nothing.
use Rattle.cut.proofs.LinesCutting.{cut_done, cut_end, cut_more}
use Rattle.cut.proofs.passes.cut_lines.Goals as goal

pub returns-then-left-first : goal.returns-then-left-first
returns-then-left-first c = search cut_done

pub loop-first-preserved : goal.loop-first-preserved
loop-first-preserved c = search cut_more

pub returns : goal.returns
returns c = search cut_end
