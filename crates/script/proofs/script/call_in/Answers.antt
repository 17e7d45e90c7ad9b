-- `script::script::call_in` meets its contract, by the call. Assumes nothing.
use Rattle.script.proofs.LineCalls.{list_made, permit_made, put_made, take_made, turn_made}
use Rattle.script.proofs.script.call_in.Goals as goal

pub returns-in-Put-clause-call : goal.returns-in-Put-clause-call
returns-in-Put-clause-call c = search put_made

pub returns-in-Take-clause-call : goal.returns-in-Take-clause-call
returns-in-Take-clause-call c = search take_made

pub returns-in-TakeList-clause-call : goal.returns-in-TakeList-clause-call
returns-in-TakeList-clause-call c = search list_made

pub returns-in-Permit-clause-call : goal.returns-in-Permit-clause-call
returns-in-Permit-clause-call c = search permit_made

pub returns-in-Turn-clause-call : goal.returns-in-Turn-clause-call
returns-in-Turn-clause-call c = search turn_made
