-- What is left of a board when a link is taken out: the places where all its cells are set.
use Rattle.std.specs.Prelude.{ℕ, zero, suc, ◌+◌, ◌-◌, ◌/◌, ◌%◌, cond, List, get_or}
use Rattle.std.specs.Int.Bits.{bit_and}
use Rattle.basics.specs.Lists.{firsts}
use Rattle.dividing.specs.Board.{turned, is_set}

unfoldable pub met : ℕ → ℕ → ℕ → ℕ → ℕ
met acc link k w = cond (is_set link k) (bit_and acc w) acc

-- row y, by the first n cells of the link, whose first cell is in column a
unfoldable pub rest_row : List ℕ → ℕ → ℕ → ℕ → ℕ → ℕ
rest_row rows link a y zero = get_or rows (y % 64) 0
rest_row rows link a y (suc k) =
    met (rest_row rows link a y k) link k (turned (get_or rows ((y % 64 + k / 8) % 64) 0)
    (k % 8 + (64 - a % 8)))

unfoldable pub rest_of : List ℕ → ℕ → ℕ → List ℕ
rest_of rows link a = firsts (λ y. rest_row rows link a y 64) 64
