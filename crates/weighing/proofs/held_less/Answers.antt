-- By cases of the sign: each is a line of arithmetic against the definition.
-- As `held_more`, with the two signs exchanged.
use Rattle.morphology.specs.Weighted.{held_less}
use borrow.Author.Tests.{lt-ltb, le-ltb}
use native.Mathlib.Omega.{arith}
use Rattle.weighing.proofs.held_less.Goals as goal

pub returns-then-g-lt-SIGN_BIT : goal.returns-then-g-lt-SIGN_BIT
unfolding held_less
returns-then-g-lt-SIGN_BIT c = rw (lt-ltb _ _ c.if-g-lt-SIGN_BIT.true) (omega arith)

pub returns-else-g-lt-SIGN_BIT : goal.returns-else-g-lt-SIGN_BIT
unfolding held_less
returns-else-g-lt-SIGN_BIT c = rw (le-ltb _ _ c.if-g-lt-SIGN_BIT.false) (omega arith)
