-- `script::script::run_script` meets its contract: the heading, then what the opening leads to. Assumes nothing.
use borrow.Author.Rules.{rules}
use Rattle.script.proofs.Whole.{heading_room, not_opened, opened, opening_short}
use Rattle.script.proofs.script.run_script.Goals as goal

pub returns-in_default : goal.returns-in_default
returns-in_default c = search not_opened

pub run_setup-requires : goal.run_setup-requires
run_setup-requires c = (search opening_short, search rules, search heading_room)

pub returns : goal.returns
returns c = search opened
