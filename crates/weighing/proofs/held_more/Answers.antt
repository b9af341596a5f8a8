-- By cases of the sign: each is a line of arithmetic against the definition.
-- What would wrap is held at its end by the sum or the difference itself.
use Rattle.morphology.specs.Weighted.{held_more}
use borrow.Author.Tests.{lt-ltb, le-ltb}
use native.Mathlib.Omega.{arith}
use Rattle.weighing.proofs.held_more.Goals as goal

pub returns-then-g-lt-SIGN_BIT : goal.returns-then-g-lt-SIGN_BIT
unfolding held_more
returns-then-g-lt-SIGN_BIT c = rw (lt-ltb _ _ c.if-g-lt-SIGN_BIT.true) (omega arith)

pub returns-else-g-lt-SIGN_BIT : goal.returns-else-g-lt-SIGN_BIT
unfolding held_more
returns-else-g-lt-SIGN_BIT c = rw (le-ltb _ _ c.if-g-lt-SIGN_BIT.false) (omega arith)
