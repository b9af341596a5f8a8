-- A plan that grows has one digit more.
-- Nothing is asked.
use Rattle.plan.specs.Steps.Plan.{grows_by}
use mathlib.Core.Path.{refl}
use Rattle.plan.proofs.grows_of.Goals as goal

pub returns : goal.returns
unfolding grows_by
returns c = refl
