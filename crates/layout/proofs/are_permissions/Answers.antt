-- `layout::are_permissions` meets its contract. Assumes nothing.
use Rattle.std.proofs.Common.{sym, ◌∙◌, rules, tests, nat_le}
use Rattle.std.proofs.lemmas.Iterator.{YieldsList-from_slice}
use Rattle.std.proofs.lemmas.Iterator.Search.{all_from_yields_List}
use Rattle.region.specs.Thread.{greatest_permission}
use Rattle.layout.proofs.Loops.{at_most_is}
use Rattle.layout.proofs.are_permissions.Goals as goal

pub returns : goal.returns
returns c =
    all_from_yields_List (λ x. nat_le x greatest_permission) _ _ _ c.all.ensures.ran (YieldsList-from_slice c.args.permissions.now cc) (λ x b q k. search (rules, tests))
    ∙ sym (at_most_is greatest_permission c.args.permissions.now)
