-- Erosion and dilation share one shape, and `grows` says which; so do opening and closing.
use Rattle.std.specs.Prelude.{Bool, not}
use Rattle.picture.specs.declared.Depth.{Depth}
use Rattle.picture.specs.Frame.{Frame, top}
use Rattle.picture.specs.Bytes.{Picture}
use Rattle.element.specs.Shape.{Shape}
use Rattle.morphology.specs.Operations.{flat}
use Rattle.rows.specs.Steps.Ways.{swept_by}

abbrev pub once_by : Bool → Depth → Frame → Shape → Picture → Picture
once_by grows depth F B A = swept_by grows flat (top depth) F B A

-- closing where dilation is the first of the two, else opening
abbrev pub twice_by : Bool → Depth → Frame → Shape → Picture → Picture
twice_by grows depth F B A = once_by (not grows) depth F B (once_by grows depth F B A)
