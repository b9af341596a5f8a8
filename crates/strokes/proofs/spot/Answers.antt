-- By the tests: alone where no next cell is, else in the second room,
-- for dilation one place before.
use borrow.Author.Tests.{eq-eqb, ne_eqb}
use native.Mathlib.Omega.{arith}
use borrow.Author.Rules.{rules}
use Rattle.strokes.proofs.spot.Goals as goal

pub returns-then-next-eq0 : goal.returns-then-next-eq0
returns-then-next-eq0 c = (simp (eq-eqb _ _ c.if-next-eq0.true), search rules)

pub returns-then-grows : goal.returns-then-grows
returns-then-grows c = (simp (ne_eqb _ _ c.if-next-eq0.false, c.if-grows.true), omega arith)

pub returns-else-grows : goal.returns-else-grows
returns-else-grows c = (simp (ne_eqb _ _ c.if-next-eq0.false, c.if-grows.false), omega arith)
