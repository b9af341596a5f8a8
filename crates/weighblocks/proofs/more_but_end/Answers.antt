-- At the end the value itself, else what `more` makes of it:
-- each arm is one case of the definition.
use borrow.Author.Tests.{eq-eqb, ne_eqb}
use Rattle.weighblocks.proofs.more_but_end.Goals as goal

pub returns-then-v-eq0 : goal.returns-then-v-eq0
returns-then-v-eq0 c = simp (eq-eqb _ _ c.if-v-eq0.true)

pub returns-else-v-eq0 : goal.returns-else-v-eq0
returns-else-v-eq0 c = simp (ne_eqb _ _ c.if-v-eq0.false, c.more.ensures)
