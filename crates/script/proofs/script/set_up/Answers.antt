-- `script::script::set_up` meets its contract: what is not refused can be laid out. Assumes nothing.
use Rattle.script.proofs.Setups.{is_accepted}
use Rattle.script.proofs.script.set_up.Goals as goal

pub lay_region-requires : goal.lay_region-requires
lay_region-requires c = (is_accepted c.args.setup c.setup_check.ensures (c.in_ok-setup_check.was {u = tt}), c.requires)
