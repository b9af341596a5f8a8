-- The cell of an offset is its coordinates with the origin added and the centre taken away.
-- Beyond the element on one of four sides the answer is no; within, it is the cell's own bit.
use mathlib.Core.Path.{◌∙◌}
use native.Mathlib.Omega.{arith}
use Rattle.faults.proofs.Offsets.{off_left, off_top, off_right, off_bottom, cell_there}
use Rattle.faults.proofs.has.Goals as goal

pub returns-then-column-lt-CENTRE : goal.returns-then-column-lt-CENTRE
returns-then-column-lt-CENTRE c = off_left _ _ _ (omega arith)

pub returns-then-row-lt-CENTRE : goal.returns-then-row-lt-CENTRE
returns-then-row-lt-CENTRE c = off_top _ _ _ (omega arith) (omega arith)

pub returns-then-outline-column : goal.returns-then-outline-column
returns-then-outline-column c = off_right _ _ _ (omega arith)

pub returns-then-outline-row : goal.returns-then-outline-row
returns-then-outline-row c = off_bottom _ _ _ (omega arith)

pub returns : goal.returns
returns c =
    c.cell.ensures ∙ cell_there _ _ _ (omega arith) (omega arith) (omega arith) (omega arith)
