-- By the depth and the way: `|`, `&`, the greater, the lesser, as the definition has it.
-- Each arm is one case of it.
use Rattle.joins.proofs.join.Goals as goal

pub returns-then-grows : goal.returns-then-grows
returns-then-grows c = simp (c.if-packed.true, c.if-grows.true)

pub returns-then-packed : goal.returns-then-packed
returns-then-packed c = simp (c.if-packed.true, c.if-grows.false)

pub returns-then-grows-2 : goal.returns-then-grows-2
returns-then-grows-2 c = simp (c.if-packed.false, c.if-grows-2.true, c.greater_byte.ensures)

pub returns : goal.returns
returns c = simp (c.if-packed.false, c.if-grows-2.false, c.lesser_byte.ensures)
