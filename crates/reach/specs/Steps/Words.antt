-- A board as row words: the sums X of columns and Y of rows are bit X of word Y.
-- A link is its own row words, w columns and h rows of them.
use Rattle.std.specs.Prelude.{ℕ, zero, suc, ◌+◌, ◌-◌, ◌*◌, ◌/◌, ◌%◌, ◌^◌, ◌≤◌, cond, List, leb, ltb, get_or}
use Rattle.std.specs.Int.Bits.{bit_or, bit_and}
use Rattle.basics.specs.Lists.{firsts}
use Rattle.element.specs.Record.{cell_on}
use Rattle.morphology.specs.Chain.{most_link_cells, most_links}
use Rattle.reach.specs.declared.Cut.{Cut}

-- a sum takes a column, and a row, from each link: how many sums of columns there are, and so of rows
abbrev pub sums : ℕ
sums = most_links * (most_link_cells - 1) + 1

-- a row word moved by c columns, where the cell of column c is set
unfoldable pub moved_of : ℕ → ℕ → ℕ → ℕ
moved_of line cells c = cond (cell_on cells c) (line * 2 ^ c % 2 ^ 64) 0

-- what the cells of the first n columns of one row of a link add to `acc`
unfoldable pub spread_of : ℕ → ℕ → ℕ → ℕ → ℕ
spread_of acc line cells zero = acc
spread_of acc line cells (suc c) = bit_or (spread_of acc line cells c) (moved_of line cells c)

-- the row word r rows back from row y
unfoldable pub line_of : List ℕ → ℕ → ℕ → ℕ
line_of board y r = cond (leb r y) (get_or board (y - r) 0) 0

-- what the first n rows of the link give in row y
unfoldable pub row_of : List ℕ → List ℕ → ℕ → ℕ → ℕ → ℕ
row_of board cells w y zero = 0
row_of board cells w y (suc r) = spread_of (row_of board cells w y r) (line_of board y r) (get_or cells r 0) w

-- the columns left, .., right - 1
unfoldable pub mask_of : ℕ → ℕ → ℕ
mask_of left right = (2 ^ right - 1) / 2 ^ left * 2 ^ left % 2 ^ 64

-- row y of the next board inside the cut, and nothing outside its rows
unfoldable pub cut_row : List ℕ → List ℕ → ℕ → ℕ → ℕ → Cut → ℕ → ℕ
cut_row board cells w h mask cut y =
    cond (leb cut.top y) (cond (ltb y cut.bottom) (bit_and (row_of board cells w y h) mask) 0) 0

-- the next board
unfoldable pub step_of : List ℕ → List ℕ → ℕ → ℕ → Cut → List ℕ
step_of board cells w h cut = firsts (cut_row board cells w h (mask_of cut.left cut.right) cut) sums

-- columns of a board
pub record Cutting (cut : Cut) : Type 0 where
  pub left_high : cut.left ≤ sums
  pub right_high : cut.right ≤ sums
