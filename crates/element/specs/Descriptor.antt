-- Document 01, "Pictures and elements": which bytes are a descriptor, and the element that they stand for.
use Rattle.std.specs.Prelude.{ℕ, ◌+◌, min, Bool, cond, not, ◌&&◌, List, leb, ltb, eqb, length, get_or, drop}
use Rattle.basics.specs.Tests.{all}
use Rattle.picture.specs.declared.Depth.TheVariants.{OneBit, EightBit}
use Rattle.picture.specs.Frame.{picture_bytes}
use Rattle.picture.specs.Points.{value_at}
use Rattle.picture.specs.Bytes.{padding_clear}
use Rattle.element.specs.Shape.{Shape, sign_bit}

-- the limit: cells across, and cells down
abbrev pub most_cells : ℕ
most_cells = 64

-- width, height, origin column and origin row, one byte each
abbrev pub wide_of : List ℕ → ℕ
wide_of d = get_or d 0 0

abbrev pub high_of : List ℕ → ℕ
high_of d = get_or d 1 0

abbrev pub origin_column_of : List ℕ → ℕ
origin_column_of d = get_or d 2 0

abbrev pub origin_row_of : List ℕ → ℕ
origin_row_of d = get_or d 3 0

-- then h rows of (w + 7) / 8 bytes: the cells, as a one-bit picture of w by h has them; where they end
abbrev pub cells_of : List ℕ → List ℕ
cells_of d = drop 4 d

abbrev pub cells_end : ℕ → ℕ → ℕ
cells_end w h = 4 + picture_bytes OneBit w h

-- a weighted descriptor goes on with w x h bytes, the heights, as an 8-bit picture of w by h has them
abbrev pub heights_of : List ℕ → List ℕ
heights_of d = drop (cells_end (wide_of d) (high_of d)) d

abbrev pub cell_at : List ℕ → ℕ → ℕ → Bool
cell_at d column row = eqb (value_at OneBit (cells_of d) (wide_of d) column row) 1

abbrev pub height_at : List ℕ → ℕ → ℕ → ℕ
height_at d column row = value_at EightBit (heights_of d) (wide_of d) column row

-- width and height 1 to 64 each, origin column below w, origin row below h
unfoldable pub head_made : ℕ → ℕ → ℕ → ℕ → Bool
head_made w h column row =
    (leb 1 w && leb w most_cells) && (leb 1 h && leb h most_cells) && (ltb column w && ltb row h)

-- the four bytes and the rows are there and well made, padding 0
unfoldable pub cells_made : List ℕ → Bool
cells_made d =
    leb 4 (length d) && head_made (wide_of d) (high_of d) (origin_column_of d) (origin_row_of d)
    && (leb (cells_end (wide_of d) (high_of d)) (length d)
    && padding_clear OneBit (cells_of d) (wide_of d) (high_of d))

-- a descriptor: nothing after the rows
unfoldable pub well_made : List ℕ → Bool
well_made d = cells_made d && eqb (length d) (cells_end (wide_of d) (high_of d))

-- a height is from -127 to 127, which leaves out the byte that is the sign alone;
-- the height of an unset cell is 0
abbrev pub height_made : Bool → ℕ → Bool
height_made set g = cond set (not (eqb g sign_bit)) (eqb g 0)

-- of the cell (c, r), of each cell of row r, and of each row
unfoldable pub height_made_at : List ℕ → List ℕ → ℕ → ℕ → ℕ → Bool
height_made_at cells heights w r c =
    height_made (eqb (value_at OneBit cells w c r) 1) (value_at EightBit heights w c r)

unfoldable pub heights_made_in : List ℕ → List ℕ → ℕ → ℕ → Bool
heights_made_in cells heights w r = all (height_made_at cells heights w r) w

unfoldable pub heights_made : List ℕ → List ℕ → ℕ → ℕ → Bool
heights_made cells heights w h = all (heights_made_in cells heights w) h

-- a weighted descriptor: nothing after the heights
unfoldable pub well_weighted : List ℕ → Bool
well_weighted d =
    cells_made d
    && eqb (length d) (cells_end (wide_of d) (high_of d) + picture_bytes EightBit (wide_of d) (high_of d))
    && heights_made (cells_of d) (heights_of d) (wide_of d) (high_of d)

-- the element of a descriptor, flat; and of a weighted one
unfoldable pub shape_in : List ℕ → Shape
shape_in d =
    record {
      wide = wide_of d;
      high = high_of d;
      origin_column = origin_column_of d;
      origin_row = origin_row_of d;
      has = cell_at d;
      height = λ column row. 0;
    }

unfoldable pub weighted_in : List ℕ → Shape
weighted_in d =
    record {
      wide = wide_of d;
      high = high_of d;
      origin_column = origin_column_of d;
      origin_row = origin_row_of d;
      has = cell_at d;
      height = height_at d;
    }

-- how many of the bytes d, which may go on,
-- are a descriptor by its own w and h; all of them where it is cut short
unfoldable pub descriptor_length : List ℕ → ℕ
descriptor_length d = min (length d) (cells_end (wide_of d) (high_of d))
