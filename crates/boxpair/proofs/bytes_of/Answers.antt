-- By the depth: eight points to a byte, or one.
-- Either arm is the definition's.
use Rattle.boxpair.proofs.bytes_of.Goals as goal

pub returns-then-packed : goal.returns-then-packed
returns-then-packed c = simp c.if-packed.true

pub returns-else-packed : goal.returns-else-packed
returns-else-packed c = simp c.if-packed.false
