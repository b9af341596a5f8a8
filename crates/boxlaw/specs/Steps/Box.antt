-- An element whose cells are all set, and what it makes of a picture.
use Rattle.std.specs.Prelude.{ℕ, Bool, true, List}
use Rattle.picture.specs.Frame.{top, frame}
use Rattle.picture.specs.Points.{value_at}
use Rattle.picture.specs.Bytes.{Picture, row_of}
use Rattle.element.specs.declared.Outline.{Outline}
use Rattle.element.specs.Shape.{Shape}
use Rattle.morphology.specs.Operations.{flat}
use Rattle.rows.specs.Steps.Ways.{swept_by}
use Rattle.joins.specs.Steps.Joins.{depth_if}

unfoldable pub box_shape : Outline → Shape
box_shape o =
    record {
      wide = o.w;
      high = o.h;
      origin_column = o.origin.ping.0;
      origin_row = o.origin.bin.0;
      has = λ column row. true;
      height = λ column row. 0;
    }

-- the erosion, or the dilation, of the picture in the bytes s by it
unfoldable pub boxed : Bool → Bool → List ℕ → ℕ → ℕ → Outline → Picture
boxed packed grows s w h o =
    swept_by grows flat (top (depth_if packed)) (frame w h) (box_shape o) (value_at (depth_if packed) s w)

-- row y of it
unfoldable pub box_row : Bool → Bool → List ℕ → ℕ → ℕ → Outline → ℕ → List ℕ
box_row packed grows s w h o y = row_of (depth_if packed) (λ x. boxed packed grows s w h o x y) w
