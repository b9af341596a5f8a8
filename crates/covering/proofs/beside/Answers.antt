-- One case of the definition for each return.
-- The test is the flag itself.
use mathlib.Core.Path.{sym}
use Rattle.dividing.proofs.Least.{cond_yes, cond_no}
use Rattle.covering.specs.Quarter.{beside}
use Rattle.covering.proofs.beside.Goals as goal

pub returns-then-after : goal.returns-then-after
unfolding beside
returns-then-after c = sym (cond_yes _ _ _ c.if-after.true)

pub returns : goal.returns
unfolding beside
returns c = sym (cond_no _ _ _ c.if-after.false)
