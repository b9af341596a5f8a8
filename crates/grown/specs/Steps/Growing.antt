-- What holds of a picture at each moment while the marker grows in it, whatever the order of the visits,
-- and when nothing is left to be grown.
use Rattle.picture.specs.Frame.{Frame}
use Rattle.picture.specs.Bytes.{Picture}
use Rattle.morphology.specs.Step.{Place, In}
use Rattle.morphology.specs.Order.{LiesWithin, Bounded}
use Rattle.morphology.specs.Sets.{SetAt}
use Rattle.grown.specs.declared.Neighbours.{Neighbours}
use Rattle.grown.specs.Grown.{grown}
use Rattle.grown.specs.Reached.{Beside}

-- the marker lies within it, and it within what the marker grows to
pub record Growing (neighbours : Neighbours) (F : Frame) (mask marker T : Picture) : Type 0 where
  pub one_bit : Bounded 1 F T
  pub begun : LiesWithin F marker T
  pub sound : LiesWithin F T (grown neighbours F mask marker)

-- no neighbouring step leads from a point of it to a point of the mask that it lacks
abbrev pub Steady : Neighbours → Frame → Picture → Picture → Type 0
Steady neighbours F mask T =
    (p q : Place) → In F p → In F q → Beside neighbours p q → SetAt T p → SetAt mask q → SetAt T q
