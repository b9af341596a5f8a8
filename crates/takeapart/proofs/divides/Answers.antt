-- An origin that is found is a cell of the link, and its number is below the end.
-- Where none is found the definition has the end itself, which is not below it.
use mathlib.Core.Path.{◌∙◌}
use Rattle.dividing.proofs.Least.{is_some_below}
use Rattle.takeapart.proofs.divides.Goals as goal

pub returns : goal.returns
returns c = c.is_some.ensures ∙ is_some_below 64 _ _ c.origin_no.ensures
