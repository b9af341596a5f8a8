-- One case of the definition for each return.
-- The test is the call before it.
use mathlib.Core.Path.{sym, ◌∙◌}
use Rattle.dividing.proofs.Least.{cond_yes, cond_no}
use Rattle.covering.specs.Cover.{added}
use Rattle.covering.proofs.added.Goals as goal

pub returns-then-is_set : goal.returns-then-is_set
unfolding added
returns-then-is_set c = sym (cond_yes _ _ _ (sym c.is_set.ensures ∙ c.if-is_set.true))

pub returns : goal.returns
unfolding added
returns c = sym (cond_no _ _ _ (sym c.is_set.ensures ∙ c.if-is_set.false))
