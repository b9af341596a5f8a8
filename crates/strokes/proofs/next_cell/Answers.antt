-- By the tests: below the last cell no half is left,
-- and a rest below the half has no next cell.
use borrow.Author.Tests.{eq-eqb, ne_eqb, lt-ltb, le-ltb}
use Rattle.strokes.proofs.next_cell.Goals as goal

pub returns-then-half-eq0 : goal.returns-then-half-eq0
returns-then-half-eq0 c = simp (eq-eqb _ _ c.if-half-eq0.true)

pub returns-then-rest-half : goal.returns-then-rest-half
returns-then-rest-half c =
    simp (ne_eqb _ _ c.if-half-eq0.false, lt-ltb _ _ c.if-rest-half.true)

pub returns-else-rest-half : goal.returns-else-rest-half
returns-else-rest-half c =
    simp (ne_eqb _ _ c.if-half-eq0.false, le-ltb _ _ c.if-rest-half.false)
