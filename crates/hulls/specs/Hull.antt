-- What is measured of an element before the search.
use Rattle.std.specs.Prelude.{ℕ, ◌+◌, ◌-◌, ◌*◌, ◌/◌, ◌%◌, ◌^◌, min, max, cond, List, ◌++◌, ltb, get_or}
use Rattle.std.specs.Prelude.{replicate}
use Rattle.basics.specs.Bits.{digits}
use Rattle.basics.specs.Lists.{firsts}
use Rattle.picture.specs.declared.Depth.TheVariants.{OneBit}
use Rattle.picture.specs.Frame.{row_bytes}
use Rattle.element.specs.Descriptor.{most_cells, wide_of, high_of, origin_column_of, origin_row_of}
use Rattle.morphology.specs.Chain.{most_link_cells}
use Rattle.hulls.specs.declared.Extent.{Extent}
use Rattle.hulls.specs.declared.Side.{Side}
use Rattle.hulls.specs.declared.Hull.{Hull}
use Rattle.hulls.specs.Extent.{extent_of}

-- origin, first and last counted from the lesser of origin and first, and the greatest of them
unfoldable pub side_of : ℕ → ℕ → ℕ → Side
side_of o f l =
    record { origin = o - min o f; first = f - min o f; last = l - min o f; span = max o l - min o f }

-- how much of a corner is cut
unfoldable pub cut_of : ℕ → ℕ → ℕ → ℕ → ℕ
cut_of a b c d = min a (2 * most_cells) + min b (2 * most_cells) - c - d

-- the eight cells from the column `left` on of row r from the row `top` on
unfoldable pub own_row : List ℕ → ℕ → ℕ → ℕ → ℕ
own_row rows left top r = get_or rows (min (top + r) (most_cells - 1)) 0 * 2 ^ left % 2 ^ 64 / 2 ^ 56

unfoldable pub hull_by : ℕ → ℕ → List ℕ → Extent → Hull
hull_by column row rows x =
    record {
      across = side_of column x.left x.right;
      down = side_of row x.top x.bottom;
      nw = cut_of x.nearest 0 x.left x.top;
      ne = cut_of x.right most_cells x.highest x.top;
      sw = cut_of x.lowest x.bottom x.left most_cells;
      se = cut_of x.right x.bottom x.farthest 0;
      own = firsts (own_row rows (min (min column x.left) (most_cells - 1))
          (min (min row x.top) (most_cells - 1))) most_link_cells;
    }

-- of an element by its origin, its size and its row words
unfoldable pub hull_of : ℕ → ℕ → ℕ → ℕ → List ℕ → Hull
hull_of column row w h rows = hull_by column row rows (extent_of rows w h)

-- the row words of a descriptor: row r from its highest bit on, as n bytes have it
unfoldable pub word_in : List ℕ → ℕ → ℕ → ℕ
word_in d n r = digits 8 (λ j. cond (ltb j n) (get_or d (4 + r * n + j) 0) 0) 8

unfoldable pub rows_in : List ℕ → List ℕ
rows_in d = firsts (word_in d (row_bytes OneBit (wide_of d))) (high_of d)
    ++ replicate (most_cells - high_of d) 0

-- and the hull of a descriptor
unfoldable pub hull_in : List ℕ → Hull
hull_in d = hull_of (origin_column_of d) (origin_row_of d) (wide_of d) (high_of d) (rows_in d)
