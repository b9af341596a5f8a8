-- One case of the definition for each return.
-- The test is the flag itself.
use mathlib.Core.Path.{sym}
use Rattle.dividing.proofs.Least.{cond_yes, cond_no}
use Rattle.covering.specs.Quarter.{link_rows}
use Rattle.covering.proofs.link_rows.Goals as goal

pub returns-then-after : goal.returns-then-after
unfolding link_rows
returns-then-after c = sym (cond_yes _ _ _ c.if-after.true)

pub returns : goal.returns
unfolding link_rows
returns c = sym (cond_no _ _ _ c.if-after.false)
