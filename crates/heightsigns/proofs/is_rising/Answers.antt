-- 0 does not raise; any other height does below the sign.
-- Each return is one case of the definition.
use borrow.Author.Tests.{eq-eqb, ne_eqb}
use Rattle.heightsigns.proofs.is_rising.Goals as goal

pub returns-then-g-eq0 : goal.returns-then-g-eq0
returns-then-g-eq0 c = simp (eq-eqb _ _ c.if-g-eq0.true)

pub returns : goal.returns
returns c = simp (ne_eqb _ _ c.if-g-eq0.false)
