-- `cut::trials::any_refusal` meets its contract: the loop keeps `Scanning`. Assumes nothing.
use Rattle.cut.proofs.Groups.{scan_end, scan_found, scan_more}
use Rattle.cut.proofs.trials.any_refusal.Goals as goal

pub returns-then-is_refusal : goal.returns-then-is_refusal
returns-then-is_refusal c = search scan_found

pub loop-k-preserved : goal.loop-k-preserved
loop-k-preserved c = search scan_more

pub returns : goal.returns
returns c = search scan_end
