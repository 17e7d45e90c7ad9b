-- `cut::trials::call_shows_in` meets its contract, by the call. Assumes nothing.
use Rattle.cut.proofs.LinesRun.{list_shown, permit_shown, put_shown, take_shown}
use Rattle.cut.proofs.trials.call_shows_in.Goals as goal

pub returns-in-Put-clause-shown : goal.returns-in-Put-clause-shown
returns-in-Put-clause-shown c = search put_shown

pub returns-in-Take-clause-shown : goal.returns-in-Take-clause-shown
returns-in-Take-clause-shown c = search take_shown

pub returns-in-TakeList-clause-shown : goal.returns-in-TakeList-clause-shown
returns-in-TakeList-clause-shown c = search list_shown

pub returns-in-Permit-clause-shown : goal.returns-in-Permit-clause-shown
returns-in-Permit-clause-shown c = search permit_shown
