-- The least of all pairs of blocks is 128 or more:
-- that is the definition.
use Rattle.freeblocks.specs.Steps.Plain.{sure_of}
use lib.Dec.{leb}
use mathlib.Core.Path.{ap}
use Rattle.freeblocks.proofs.is_sure.Goals as goal

pub returns : goal.returns
unfolding sure_of
returns c = ap (leb 128) c.least_in.ensures
