-- What the outline and the row words of an element make of a picture:
-- the operations of morphology. `grows` is dilation, else erosion.
use Rattle.std.specs.Prelude.{ℕ, ◌≤◌, ◌<◌, Bool, not, List}
use Rattle.picture.specs.declared.Depth.{Depth}
use Rattle.picture.specs.Frame.{top, frame}
use Rattle.picture.specs.Points.{value_at}
use Rattle.picture.specs.Bytes.{Picture}
use Rattle.element.specs.declared.Outline.{Outline}
use Rattle.element.specs.Descriptor.{most_cells}
use Rattle.element.specs.Record.{shape_by}
use Rattle.morphology.specs.Operations.{flat}
use Rattle.rows.specs.Steps.Ways.{weigh_by, swept_by}
use Rattle.byterow.specs.Steps.Row.{heightened_by}

-- an element within its limits, as every one that was read is, of n row words
pub record Fitting (o : Outline) (n : ℕ) : Type 0 where
  pub few_wide : o.w ≤ most_cells
  pub few_high : o.h ≤ most_cells
  pub column : o.origin.ping.0 < o.w
  pub row : o.origin.bin.0 < o.h
  pub words : o.h ≤ n

-- one operation by a flat element, and the other after it
abbrev pub flat_by : Bool → Depth → ℕ → ℕ → Outline → List ℕ → Picture → Picture
flat_by grows depth w h o words A = swept_by grows flat (top depth) (frame w h) (shape_by o words) A

abbrev pub flat_twice_by : Bool → Depth → ℕ → ℕ → Outline → List ℕ → Picture → Picture
flat_twice_by grows depth w h o words A =
    flat_by (not grows) depth w h o words (flat_by grows depth w h o words A)

-- of the picture in the bytes s
abbrev pub flat_of : Bool → Depth → List ℕ → ℕ → ℕ → Outline → List ℕ → Picture
flat_of grows depth s w h o words = flat_by grows depth w h o words (value_at depth s w)

-- the same by a weighted one with its heights, row after row, on 8-bit pictures
abbrev pub weighted_by : Bool → ℕ → ℕ → Outline → List ℕ → List ℕ → Picture → Picture
weighted_by grows w h o words heights A =
    swept_by grows (weigh_by grows) 255 (frame w h) (heightened_by o words heights) A

abbrev pub weighted_twice_by : Bool → ℕ → ℕ → Outline → List ℕ → List ℕ → Picture → Picture
weighted_twice_by grows w h o words heights A =
    weighted_by (not grows) w h o words heights (weighted_by grows w h o words heights A)
