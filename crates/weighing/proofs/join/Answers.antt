-- Stands on the lesser and the greater of two bytes.
-- `grows` chooses the greater.
use mathlib.Core.Path.{◌∙◌}
use Rattle.weighing.proofs.join.Goals as goal

pub returns-then-grows : goal.returns-then-grows
returns-then-grows c = c.max.ensures ∙ simp c.if-grows.true

pub returns : goal.returns
returns c = c.min.ensures ∙ simp c.if-grows.false
