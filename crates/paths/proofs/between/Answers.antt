-- The box between the centre and an offset: in each coordinate the lesser of the two, and the greater.
-- Four calls, whose results are the four fields.
use Rattle.reach.specs.Steps.Boards.{between_of}
use Rattle.paths.proofs.between.Goals as goal

pub returns : goal.returns
unfolding between_of
returns c =
    λ i. record {
      left = c.min.ensures i;
      right = c.max.ensures i;
      top = c.min-2.ensures i;
      bottom = c.max-2.ensures i;
    }
