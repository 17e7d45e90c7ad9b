-- `script::text::Text::digits` meets its contract: all digits but the last, then the last. Assumes nothing.
use Rattle.script.proofs.Decimals.{last_digit, one_digit}
use Rattle.script.proofs.text.Text.+digits.Goals as goal

pub returns-then-n-lt10 : goal.returns-then-n-lt10
returns-then-n-lt10 t c = one_digit _ c.args.n c.requires c.if-n-lt10.true c.push.ensures

pub returns : goal.returns
returns t c = last_digit _ c.args.n c.requires c.if-n-lt10.false c.ranges.n.fits c.digits.ensures c.push-2.ensures
