-- At the start there is nothing to give back.
-- Else the next link is looked for in the place of the last.
use native.Mathlib.Omega.{arith}
use Rattle.takeapart.proofs.Ways.{back_none, back_one}
use Rattle.takeapart.proofs.back.Goals as goal

pub returns-then-w-eq0 : goal.returns-then-w-eq0
returns-then-w-eq0 c = back_none _ (omega arith)

pub returns : goal.returns
returns c = back_one _ _ (λ e. omega arith) c.lesser.ensures
