-- A row of an 8-bit result, in points.
use Rattle.std.specs.Prelude.{ℕ, Bool, List, get_or}
use Rattle.picture.specs.declared.Depth.TheVariants.{EightBit}
use Rattle.picture.specs.Frame.{frame}
use Rattle.picture.specs.Points.{value_at}
use Rattle.picture.specs.Bytes.{Picture, row_of}
use Rattle.element.specs.declared.Outline.{Outline}
use Rattle.element.specs.Shape.{Shape}
use Rattle.element.specs.Record.{cell_on}
use Rattle.rows.specs.Steps.Ways.{weigh_by, swept_by}

-- the element of an outline, its row words and the bytes of its heights,
-- as an 8-bit picture has them; no bytes are height 0
unfoldable pub heightened_by : Outline → List ℕ → List ℕ → Shape
heightened_by o words hs =
    record {
      wide = o.w;
      high = o.h;
      origin_column = o.origin.ping.0;
      origin_row = o.origin.bin.0;
      has = λ column row. cell_on (get_or words row 0) column;
      height = value_at EightBit hs o.w;
    }

-- the erosion, or the dilation, of the picture in the bytes s
unfoldable pub swept_bytes : Bool → List ℕ → ℕ → ℕ → Outline → List ℕ → List ℕ → Picture
swept_bytes grows s w h o words hs =
    swept_by grows (weigh_by grows) 255 (frame w h) (heightened_by o words hs) (value_at EightBit s w)

-- row y of it
unfoldable pub byte_row : Bool → List ℕ → ℕ → ℕ → Outline → List ℕ → List ℕ → ℕ → List ℕ
byte_row grows s w h o words hs y = row_of EightBit (λ x. swept_bytes grows s w h o words hs x y) w
