-- Above the cut and below it the definition's row is 0; within, it is the whole row masked.
-- The two tests are the definition's own, in its order.
use native.Mathlib.Omega.{arith}
use Rattle.reach.proofs.Loops.{above_cut, below_cut, in_cut}
use Rattle.board.proofs.cut_row.Goals as goal

pub returns-then-at-cut : goal.returns-then-at-cut
returns-then-at-cut c = above_cut _ _ _ _ _ _ _ (omega arith)

pub returns-then-cut-at : goal.returns-then-cut-at
returns-then-cut-at c = below_cut _ _ _ _ _ _ _ (omega arith) (omega arith)

pub returns : goal.returns
returns c = in_cut _ _ _ _ _ _ _ (omega arith) _ (omega arith) c.row.ensures
