-- Digit by digit, each less than 128.
-- Nothing is asked.
use Rattle.plan.specs.Steps.Plan.{outline_by}
use mathlib.Core.Path.{refl}
use Rattle.plan.proofs.outline_of.Goals as goal

pub returns : goal.returns
unfolding outline_by
returns c = refl
