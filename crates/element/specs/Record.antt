-- The element as the code holds it, and its one reading as a Shape.
use Rattle.std.specs.Prelude.{ℕ, ◌-◌, Bool, List, get_or}
use Rattle.basics.specs.Bits.{on}
use Rattle.picture.specs.declared.Depth.TheVariants.{OneBit}
use Rattle.picture.specs.declared.Point.{Point}
use Rattle.picture.specs.Frame.{row_bytes}
use Rattle.element.specs.declared.Element.{Element}
use Rattle.element.specs.declared.Outline.{Outline}
use Rattle.element.specs.Shape.{Shape}
use Rattle.element.specs.Steps.Words.{row_words}
use Rattle.element.specs.Descriptor.{most_cells, wide_of, high_of, origin_column_of, origin_row_of, height_at}

-- a row word holds the cell of column 0 in its highest bit
abbrev pub cell_on : ℕ → ℕ → Bool
cell_on word column = on word (most_cells - 1 - column)

-- the origin of a descriptor, and its size and origin
abbrev pub origin_of : List ℕ → Point
origin_of d = record { ping = record { 0 = origin_column_of d }; bin = record { 0 = origin_row_of d } }

abbrev pub outline_in : List ℕ → Outline
outline_in d = record { w = wide_of d; h = high_of d; origin = origin_of d }

-- the record of a descriptor
unfoldable pub element_of : List ℕ → Element
element_of d =
    record { outline = outline_in d; rows = row_words d (row_bytes OneBit (wide_of d)) (high_of d) }

-- what the record stands for: flat, and with the heights in the descriptor's own bytes
unfoldable pub shape_of : Element → Shape
shape_of e =
    record {
      wide = e.outline.w;
      high = e.outline.h;
      origin_column = e.outline.origin.ping.0;
      origin_row = e.outline.origin.bin.0;
      has = λ column row. cell_on (get_or e.rows row 0) column;
      height = λ column row. 0;
    }

unfoldable pub weighted_of : Element → List ℕ → Shape
weighted_of e d =
    record {
      wide = e.outline.w;
      high = e.outline.h;
      origin_column = e.outline.origin.ping.0;
      origin_row = e.outline.origin.bin.0;
      has = λ column row. cell_on (get_or e.rows row 0) column;
      height = height_at d;
    }

-- the flat element of an outline and its row words
abbrev pub shape_by : Outline → List ℕ → Shape
shape_by o words = shape_of (record { outline = o; rows = words })
