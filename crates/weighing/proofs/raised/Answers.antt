-- Stands on `held_more`, for a value above 0.
-- 0 is the definition's own end.
use mathlib.Core.Path.{sym, ◌∙◌}
use native.Mathlib.Omega.{arith}
use Rattle.morphology.proofs.Weights.{raise_end, raise_inside}
use Rattle.weighing.proofs.raised.Goals as goal

pub returns-then-v-eq0 : goal.returns-then-v-eq0
returns-then-v-eq0 c = rw c.if-v-eq0.true (sym (raise_end _))

pub returns-else-v-eq0 : goal.returns-else-v-eq0
returns-else-v-eq0 c = c.held_more.ensures ∙ sym (raise_inside _ _ (omega arith))
