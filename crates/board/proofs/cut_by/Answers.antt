-- Each end of the cut is the box's own end with the origins added,
-- clipped to the board: four calls, side by side.
-- The sums of origins and the bounds are small, so that no sum wraps.
use Rattle.reach.specs.Steps.Boards.{cut_of}
use Rattle.board.proofs.cut_by.Goals as goal

pub returns : goal.returns
unfolding cut_of
returns c =
    λ i. record {
      left = c.clipped.ensures i;
      right = c.clipped-2.ensures i;
      top = c.clipped-3.ensures i;
      bottom = c.clipped-4.ensures i;
    }
