-- Erosion and dilation, and `grows` says which: dilation grows.
use Rattle.std.specs.Prelude.{ℕ, Bool, true, false}
use Rattle.picture.specs.Frame.{Frame}
use Rattle.picture.specs.Bytes.{Picture}
use Rattle.element.specs.Shape.{Shape}
use Rattle.morphology.specs.Operations.{Change, erode_by, dilate_by}
use Rattle.morphology.specs.Weighted.{lower, raise}
use Rattle.rows.specs.declared.Way.{Way}
use Rattle.rows.specs.declared.Way.TheVariants.{Erode, Dilate}

abbrev pub grows_of : Way → Bool
grows_of Erode = false
grows_of Dilate = true

-- what a cell makes of a value by its height: dilation raises it, erosion lowers it
abbrev pub weigh_by : Bool → Change
weigh_by true = raise
weigh_by false = lower

-- dilation, or erosion
abbrev pub swept_by : Bool → Change → ℕ → Frame → Shape → Picture → Picture
swept_by true change top = dilate_by change
swept_by false change top = erode_by change top
