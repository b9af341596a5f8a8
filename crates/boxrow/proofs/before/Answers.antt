-- By the way: dilation looks back, so that the cells after the origin come first.
-- Either arm is the definition's.
use Rattle.boxrow.proofs.before.Goals as goal

pub returns-then-grows : goal.returns-then-grows
returns-then-grows c = simp c.if-grows.true

pub returns-else-grows : goal.returns-else-grows
returns-else-grows c = simp c.if-grows.false
