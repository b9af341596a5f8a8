-- Weighted erosion and dilation share one shape, and `grows` says which; so do opening and closing.
use Rattle.std.specs.Prelude.{Bool, not}
use Rattle.picture.specs.Frame.{Frame}
use Rattle.picture.specs.Bytes.{Picture}
use Rattle.element.specs.Shape.{Shape}
use Rattle.rows.specs.Steps.Ways.{weigh_by, swept_by}

abbrev pub once_by : Bool → Frame → Shape → Picture → Picture
once_by grows F B A = swept_by grows (weigh_by grows) 255 F B A

-- closing where dilation is the first of the two, else opening
abbrev pub twice_by : Bool → Frame → Shape → Picture → Picture
twice_by grows F B A = once_by (not grows) F B (once_by grows F B A)
