-- One case of the definition for each return.
-- The first and the last cell are those of the calls before.
use native.Mathlib.Omega.{arith}
use Rattle.takeapart.proofs.Ways.{ended_more, ended_beside, ended_there}
use Rattle.takeapart.proofs.ended.Goals as goal

pub returns-then-first-last_cell : goal.returns-then-first-last_cell
returns-then-first-last_cell c =
    ended_more _ _ _ c.first_cell-first.ensures.0 c.last_cell.ensures
    c.if-first-last_cell.true

pub returns-then-first-b : goal.returns-then-first-b
returns-then-first-b c =
    ended_beside _ _ _ c.first_cell-first.ensures.0 c.last_cell.ensures (omega arith)
    c.if-first-b.true

pub returns : goal.returns
returns c =
    ended_there _ _ _ c.first_cell-first.ensures.0 c.last_cell.ensures (omega arith)
    (omega arith)
