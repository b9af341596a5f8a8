-- The three differences share one shape, and `Which` says which:
-- what is made, and the middle picture of each.
use Rattle.picture.specs.declared.Depth.{Depth}
use Rattle.picture.specs.Frame.{Frame, top}
use Rattle.picture.specs.Bytes.{Picture}
use Rattle.element.specs.Shape.{Shape}
use Rattle.morphology.specs.Operations.{erode, dilate}
use Rattle.morphology.specs.TopHats.{white_top_hat, black_top_hat, gradient}
use Rattle.differences.specs.declared.Which.{Which}
use Rattle.differences.specs.declared.Which.TheVariants.{White, Black, Gradient}

abbrev pub made_by : Which → Depth → Frame → Shape → Picture → Picture
made_by White depth = white_top_hat (top depth)
made_by Black depth = black_top_hat (top depth)
made_by Gradient depth = gradient (top depth)

-- the erosion, the dilation and the erosion
abbrev pub middle_by : Which → Depth → Frame → Shape → Picture → Picture
middle_by White depth = erode (top depth)
middle_by Black depth = dilate
middle_by Gradient depth = erode (top depth)
