-- Stands on mask_of: the bit alone is cleared or set, by the value.
-- Each arm is the definition's, at the mask that mask_of gives.
use Rattle.picture.specs.Points.{put_in}
use borrow.Author.Tests.{eq-eqb, ne_eqb}
use Rattle.points.proofs.one_bit_put.Goals as goal

pub returns-then-v-eq0 : goal.returns-then-v-eq0
unfolding put_in
returns-then-v-eq0 c = simp (eq-eqb _ _ c.if-v-eq0.true, c.mask_of-m.ensures)

pub returns-else-v-eq0 : goal.returns-else-v-eq0
unfolding put_in
returns-else-v-eq0 c = simp (ne_eqb _ _ c.if-v-eq0.false, c.mask_of-m.ensures)
