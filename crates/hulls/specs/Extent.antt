-- Where the set cells of an element lie, cell by cell.
use Rattle.std.specs.Prelude.{ℕ, zero, suc, ◌+◌, ◌-◌, ◌*◌, min, max, Bool, cond, List, get_or}
use Rattle.element.specs.Descriptor.{most_cells}
use Rattle.basics.specs.Bits.{on}
use Rattle.hulls.specs.declared.Extent.{Extent}

-- the cell of column c in a row word, whose highest bit is the first cell
abbrev pub cell_in : ℕ → ℕ → Bool
cell_in word c = on word (most_cells - 1 - c)

-- no cell yet: the first column and row beyond the last
unfoldable pub unseen : Extent
unseen =
    record {
      left = most_cells;
      right = 0;
      top = most_cells;
      bottom = 0;
      nearest = 2 * most_cells;
      farthest = 0;
      lowest = 2 * most_cells;
      highest = 0;
    }

-- with the cell (c, r)
unfoldable pub with_cell : Extent → ℕ → ℕ → Extent
with_cell b c r =
    record {
      left = min b.left c;
      right = max b.right c;
      top = min b.top r;
      bottom = max b.bottom r;
      nearest = min b.nearest (c + r);
      farthest = max b.farthest (c + r);
      lowest = min b.lowest (c + most_cells - r);
      highest = max b.highest (c + most_cells - r);
    }

-- where it is set in the row word of r; the first n cells of the row; the first n rows
unfoldable pub seen : Extent → ℕ → ℕ → ℕ → Extent
seen b word c r = cond (cell_in word c) (with_cell b c r) b

unfoldable pub row_extent : Extent → ℕ → ℕ → ℕ → Extent
row_extent b word r zero = b
row_extent b word r (suc n) = seen (row_extent b word r n) word n r

unfoldable pub extent_of : List ℕ → ℕ → ℕ → Extent
extent_of rows w zero = unseen
extent_of rows w (suc n) = row_extent (extent_of rows w n) (get_or rows n 0) n w
