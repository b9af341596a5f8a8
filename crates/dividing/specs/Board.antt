-- A board of 64 row words, the first cell of a row in its highest bit; it goes on at its own other end.
use Rattle.std.specs.Prelude.{ℕ, zero, suc, ◌+◌, ◌-◌, ◌*◌, ◌/◌, ◌%◌, ◌^◌, Bool, List, get_or}
use Rattle.std.specs.Int.Bits.{bit_or}
use Rattle.basics.specs.Bits.{on}
use Rattle.dividing.specs.Least.{least_from}

-- a row from column x on, and after its end from its beginning on
unfoldable pub turned : ℕ → ℕ → ℕ
turned w x = bit_or (w * 2 ^ (x % 64) % 2 ^ 64) (w / 2 / 2 ^ (63 - x % 64))

-- cell k of a row, or of a link of 8 x 8 cells
unfoldable pub is_set : ℕ → ℕ → Bool
is_set w k = on w (63 - k % 64)

-- cell k of a board, row by row; its first and its last, the latter with 4096 added
unfoldable pub cell_of : List ℕ → ℕ → Bool
cell_of rows k = is_set (get_or rows (k / 64 % 64) 0) k

unfoldable pub first_cell : List ℕ → ℕ
first_cell rows = least_from (cell_of rows) 0 4096

unfoldable pub last_cell : List ℕ → ℕ
last_cell rows = 8191 - least_from (λ k. cell_of rows (8191 - k)) 0 4096

-- the first n rows of the 8 x 8 cells from column x and row y on
unfoldable pub window : List ℕ → ℕ → ℕ → ℕ → ℕ
window rows x y zero = 0
window rows x y (suc r) =
    bit_or (window rows x y r * 2 ^ 8 % 2 ^ 64) (turned (get_or rows ((y % 64 + r) % 64) 0) x / 2 ^ 56)
