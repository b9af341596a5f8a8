-- The definition itself: both shifts are by less than 8, so that neither wraps.
-- That its digits are points further on is a law of its own, `eight_point`.
use Rattle.blocks.specs.Steps.Points.{shifted_of}
use mathlib.Core.Path.{refl}
use Rattle.blocks.proofs.shifted.Goals as goal

pub returns : goal.returns
unfolding shifted_of
returns c = refl
