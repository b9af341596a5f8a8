-- The row of a place is its quotient,
-- and the cell in the row its rest.
use Rattle.dividing.specs.Board.{cell_of}
use Rattle.dividing.proofs.cell_of.Goals as goal

pub returns : goal.returns
unfolding cell_of
returns c = c.is_set.ensures
