-- The links to choose from: those of a board that divide it,
-- each with the first origin that suits all quarters.
use Rattle.std.specs.Prelude.{ℕ, ◌+◌, ◌-◌, ◌*◌, ◌/◌, ◌%◌, ◌^◌, Bool, true, false, cond, not, List, eqb}
use Rattle.std.specs.Int.Bits.{bit_and}
use Rattle.dividing.specs.Least.{least_from}
use Rattle.dividing.specs.Board.{is_set, window}
use Rattle.dividing.specs.Divide.{rest_of}
use Rattle.covering.specs.Cover.{first_bare}
use Rattle.covering.specs.Quarter.{all_cells, quarter, link_quarter}

-- the cells near the first that are set near the last too;
-- its first cell is in column j % 8 of its first row,
-- its last is cell 63 - j / 8
unfoldable pub link_no : List ℕ → ℕ → ℕ → ℕ → ℕ
link_no rows first last j =
    bit_and (bit_and (window rows (first % 64 + (64 - j % 8)) (first / 64) 8)
    (window rows (last % 64 + (57 + j / 8 % 8)) (last / 64 % 64 + (57 + j / 64 % 8)) 8))
    (all_cells * 2 ^ (8 * (j / 64 % 8)) % 2 ^ 64)

-- it has both; unless the board is a single cell, it is none, and begins in its first column
unfoldable pub fits : ℕ → ℕ → Bool → Bool
fits link j single =
    cond (is_set link (j % 8))
    (cond (is_set link (63 - j / 8 % 64))
    (cond single true
    (cond (eqb (63 - j / 8 % 64) (j % 8)) false (not (eqb (bit_and link 9259542123273814144) 0)))) false)
    false

-- in one quarter about the origin, with the link's in its cell o, link and rest make up the board
unfoldable pub quarter_suits : List ℕ → ℕ → ℕ → ℕ → ℕ → List ℕ → ℕ → Bool → Bool → Bool
quarter_suits rows column row link a rest o right lower =
    eqb (first_bare (quarter rows column row right lower) (link_quarter link o right lower) a
    (quarter rest ((column % 64 + a % 8 + (64 - o % 8)) % 64)
    ((row % 64 + (64 - o / 8 % 8)) % 64) right lower))
    64

unfoldable pub suits : List ℕ → ℕ → ℕ → ℕ → ℕ → List ℕ → ℕ → Bool
suits rows column row link a rest o =
    cond (quarter_suits rows column row link a rest o false false)
    (cond (quarter_suits rows column row link a rest o true false)
    (cond (quarter_suits rows column row link a rest o false true)
    (quarter_suits rows column row link a rest o true true) false) false) false

-- the first such cell, or 64
unfoldable pub origin_for : List ℕ → ℕ → ℕ → ℕ → ℕ → List ℕ → ℕ
origin_for rows column row link a rest = least_from (suits rows column row link a rest) 0 64

unfoldable pub origin_by : List ℕ → ℕ → ℕ → ℕ → ℕ → List ℕ → Bool → ℕ
origin_by rows column row link a rest fit =
    cond fit (cond (eqb (first_bare rows link a rest) 64) (origin_for rows column row link a rest) 64) 64

-- the origin of link j, or 64 where it does not divide the board
unfoldable pub origin_no : List ℕ → ℕ → ℕ → ℕ → ℕ → ℕ → ℕ
origin_no rows column row first last j =
    origin_by rows column row (link_no rows first last j) (j % 8)
    (rest_of rows (link_no rows first last j) (j % 8))
    (fits (link_no rows first last j) j (eqb (first + 4096) last))
