-- What `lifted` makes of the value, joined as `join` joins two values.
-- Nothing else is done.
use Rattle.rows.specs.Steps.Fold.{join_by}
use mathlib.Core.Path.{ap, ◌∙◌}
use Rattle.weighblocks.proofs.joined.Goals as goal

pub returns : goal.returns
returns c =
    let a = c.args in
    c.join.ensures ∙ ap (join_by a.grows a.a) c.lifted.ensures
