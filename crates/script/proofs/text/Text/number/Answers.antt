-- `script::text::Text::number` meets its contract. Assumes nothing.
use Rattle.script.proofs.Decimals.{number_ends}
use Rattle.script.proofs.text.Text.number.Goals as goal

pub returns : goal.returns
returns c = number_ends _ c.args.n c.requires c.digits.ensures c.args.end c.push.ensures
