-- At the end the value itself, else what `less` makes of it:
-- each arm is one case of the definition.
use borrow.Author.Tests.{eq-eqb, ne_eqb}
use Rattle.weighblocks.proofs.less_but_end.Goals as goal

pub returns-then-v-eq255 : goal.returns-then-v-eq255
returns-then-v-eq255 c = simp (eq-eqb _ _ c.if-v-eq255.true)

pub returns-else-v-eq255 : goal.returns-else-v-eq255
returns-else-v-eq255 c = simp (ne_eqb _ _ c.if-v-eq255.false, c.less.ensures)
