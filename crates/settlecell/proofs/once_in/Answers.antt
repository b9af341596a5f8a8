-- The definition is the machine's own expression.
-- Nothing is left to be shown.
use Rattle.settle.specs.Steps.Words.{once_in}
use mathlib.Core.Path.{refl}
use Rattle.settlecell.proofs.once_in.Goals as goal

pub returns : goal.returns
unfolding once_in
returns c = refl
