-- One case of the definition for each return.
-- The test is the flag itself.
use mathlib.Core.Path.{sym}
use Rattle.dividing.proofs.Least.{cond_yes, cond_no}
use Rattle.covering.specs.Quarter.{side_of}
use Rattle.covering.proofs.side_of.Goals as goal

pub returns-then-after : goal.returns-then-after
unfolding side_of
returns-then-after c = sym (cond_yes _ _ _ c.if-after.true)

pub returns : goal.returns
unfolding side_of
returns c = sym (cond_no _ _ _ c.if-after.false)
