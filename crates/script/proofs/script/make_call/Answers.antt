-- `script::script::make_call` meets its contract: the queue lies in the region. Assumes nothing.
use Rattle.script.proofs.LineCalls.{ready_within}
use Rattle.script.proofs.script.make_call.Goals as goal

pub new-queue-requires : goal.new-queue-requires
new-queue-requires c = search ready_within
