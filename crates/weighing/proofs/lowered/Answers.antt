-- Stands on `held_less`, for a value below 255.
-- 255, which no byte is above, is the definition's own end.
use mathlib.Core.Path.{sym, ◌∙◌}
use native.Mathlib.Omega.{arith}
use Rattle.morphology.proofs.Weights.{lower_end, lower_inside}
use Rattle.weighing.proofs.lowered.Goals as goal

pub returns-then-v-eq255 : goal.returns-then-v-eq255
returns-then-v-eq255 c = sym (lower_end _ _ (omega arith))

pub returns-else-v-eq255 : goal.returns-else-v-eq255
returns-else-v-eq255 c = c.held_less.ensures ∙ sym (lower_inside _ _ (omega arith))
