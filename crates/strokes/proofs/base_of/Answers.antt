-- By the test, as in the definition:
-- windows of 16 stand in the second room.
use borrow.Author.Tests.{eq-eqb, ne_eqb}
use native.Mathlib.Omega.{arith}
use Rattle.strokes.proofs.base_of.Goals as goal

pub returns-then-n-eq16 : goal.returns-then-n-eq16
returns-then-n-eq16 c = (simp (eq-eqb _ _ c.if-n-eq16.true), omega arith)

pub returns-else-n-eq16 : goal.returns-else-n-eq16
returns-else-n-eq16 c = (simp (ne_eqb _ _ c.if-n-eq16.false), omega arith)
