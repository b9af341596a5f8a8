-- The first rows are what `first_rows` gives, and the outline is the element's own.
-- So the record is the definition's, part by part.
use mathlib.Core.Path.{ap}
use Rattle.reach.specs.Steps.Links.{link_by}
use Rattle.reach.proofs.link_of.Goals as goal

pub returns : goal.returns
unfolding link_by
returns c = ap (λ r. record { outline = c.args.outline; rows = r }) c.first_rows-rows.ensures
