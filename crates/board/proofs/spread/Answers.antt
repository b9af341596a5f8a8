use Rattle.reach.proofs.Loops.{spread_none, spread_more, spread_all}
use native.Mathlib.Omega.{arith}
use borrow.Author.Rules.{rules}
use Rattle.board.proofs.spread.Goals as goal

pub loop-c-init : goal.loop-c-init
loop-c-init c = (search rules, spread_none _ _ _)

pub loop-c-preserved : goal.loop-c-preserved
loop-c-preserved c =
    (search rules, spread_more _ _ _ _ _ _ c.loop-c.invariant.1 c.moved-a.ensures)

pub returns : goal.returns
returns c = spread_all _ _ _ c.loop-c.c _ _ c.loop-c.invariant.1 (omega arith)
