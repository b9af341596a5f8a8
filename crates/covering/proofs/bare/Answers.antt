-- An empty row is never left bare, and its sum is not asked for.
-- Else the row adds nothing to the sum where it is not.
use native.Mathlib.Omega.{arith}
use Rattle.covering.specs.Cover.{bare}
use Rattle.covering.proofs.Sums.{bare_empty, bare_else}
use Rattle.covering.proofs.bare.Goals as goal

pub returns-then-w-eq0 : goal.returns-then-w-eq0
unfolding bare
returns-then-w-eq0 c = bare_empty _ _ (omega arith)

pub returns : goal.returns
unfolding bare
returns c = bare_else _ _ _ c.if-w-eq0.false c.sum_row-sum.ensures
