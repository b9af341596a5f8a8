-- The sum of a link and of what it left, row by row.
use Rattle.std.specs.Prelude.{ℕ, zero, suc, ◌+◌, ◌-◌, ◌/◌, ◌%◌, Bool, true, false, cond, not, List, eqb}
use Rattle.std.specs.Prelude.{get_or}
use Rattle.std.specs.Int.Bits.{bit_or}
use Rattle.dividing.specs.Board.{turned, is_set}
use Rattle.dividing.specs.Least.{least_from}

unfoldable pub added : ℕ → ℕ → ℕ → ℕ → ℕ
added acc link k w = cond (is_set link k) (bit_or acc w) acc

-- row y, by the first n cells of the link, whose first cell is in column a
unfoldable pub sum_row : List ℕ → ℕ → ℕ → ℕ → ℕ → ℕ
sum_row rest link a y zero = 0
sum_row rest link a y (suc k) =
    added (sum_row rest link a y k) link k (turned (get_or rest ((y % 64 + (64 - k / 8)) % 64) 0)
    (a % 8 + (64 - k % 8)))

-- the sum leaves a cell of row y out
unfoldable pub bare_by : ℕ → ℕ → Bool
bare_by w sum = cond (eqb w 0) false (not (eqb (bit_or w sum) sum))

unfoldable pub bare : List ℕ → ℕ → ℕ → List ℕ → ℕ → Bool
bare rows link a rest y = bare_by (get_or rows (y % 64) 0) (sum_row rest link a y 64)

-- the first such row, or 64
unfoldable pub first_bare : List ℕ → ℕ → ℕ → List ℕ → ℕ
first_bare rows link a rest = least_from (bare rows link a rest) 0 64
