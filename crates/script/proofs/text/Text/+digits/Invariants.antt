-- `script::text::Text::digits` meets its contract: all digits but the last, then the last. Its measure is the number. Assumes nothing.
use Rattle.script.proofs.text.Text.+digits.Given as goal

abbrev pub decreases-digits : goal.decreases-digits
decreases-digits l = l.n
