-- By the test, as in the definition:
-- windows of more than one place are those of runs.
use borrow.Author.Tests.{le-leb, lt-leb}
use Rattle.strokes.proofs.kind_of.Goals as goal

pub returns-then-level-le1 : goal.returns-then-level-le1
returns-then-level-le1 c = simp (le-leb _ _ c.if-level-le1.true)

pub returns-else-level-le1 : goal.returns-else-level-le1
returns-else-level-le1 c = simp (lt-leb _ _ c.if-level-le1.false)
