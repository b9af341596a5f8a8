-- Stands on `fill` with the value of `start_of`: the row is that value in each place.
-- Nothing else is read, so nothing of the source can be in it.
use Rattle.basics.specs.Lists.{firsts}
use Rattle.basics.proofs.Lists.{list_is}
use lib.ListN.{length, length-replicate}
use Rattle.std.proofs.lemmas.List.{get_or-replicate}
use mathlib.Core.Path.{ap, ◌∙◌}
use Rattle.rows.proofs.begin.Goals as goal

pub returns : goal.returns
returns c =
    let n = length c.args.t.now in
    c.fill.ensures.after (λ y e. e)
    ∙ list_is (λ x. c.start_of.result) n _ (length-replicate n _) (λ i h. get_or-replicate n i _ 0 h)
    ∙ ap (λ v. firsts (λ x. v) n) c.start_of.ensures
