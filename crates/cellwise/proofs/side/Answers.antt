-- From the right, the cells after c; from the left, c itself.
-- Neither is more than the last.
use native.Mathlib.Omega.{arith}
use Rattle.cellwise.proofs.side.Goals as goal

pub returns-then-grows : goal.returns-then-grows
returns-then-grows c = (simp c.if-grows.true, omega arith)
