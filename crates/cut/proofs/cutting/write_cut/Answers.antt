-- `cut::cutting::write_cut` meets its contract: the opening, then the lines. Assumes nothing.
use borrow.Author.Rules.{rules}
use Rattle.cut.proofs.CutWays.{cut_wrote, lines_fit, opening_fits}
use Rattle.cut.proofs.cutting.write_cut.Goals as goal

pub push-requires : goal.push-requires
push-requires c = search opening_fits

pub write_lines-requires : goal.write_lines-requires
write_lines-requires c = search lines_fit

pub returns : goal.returns
returns c =
    cut_wrote c.requires _ c.behind-text.ensures.len c.behind-text.ensures.bytes c.push.ensures c.write_lines.ensures
    (search rules)
