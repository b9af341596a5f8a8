-- The padded row in two rooms of packed points, and the rooms as they are filled.
use Rattle.std.specs.Prelude.{ℕ, zero, suc, ◌+◌, ◌-◌, ◌%◌, Bool, false, List, length, get_or, set}
use Rattle.std.specs.Prelude.{replicate}
use Rattle.rows.specs.Steps.Fold.{start_by}
use Rattle.blocks.specs.Steps.Laid.{laid}
use Rattle.packedline.specs.Steps.Padded.{faced_byte, spare_of, blotted_by}
use Rattle.rooms.specs.Steps.Lanes.{widened_to}
use Rattle.bitrooms.specs.Steps.Points.{bits_way}
use Rattle.bitparts.specs.Steps.Points.{windows_of}

-- the bytes of a row from `at` on, in rooms that count as beyond the frame
unfoldable pub copied_in : Bool → ℕ → List ℕ → List ℕ
copied_in grows at s =
    laid at (length s) (λ i. faced_byte false (get_or s i 0)) (replicate 308 (start_by grows 255))

-- and its padding as beyond the frame
unfoldable pub padded_in : Bool → ℕ → List ℕ → ℕ → List ℕ
padded_in grows at s w =
    set (copied_in grows at s) (at + length s - 1)
    (blotted_by grows (get_or (copied_in grows at s) (at + length s - 1) 0) (spare_of (w % 8)))

-- both rooms of rows of single cells: the row, and its windows of two
unfoldable pub cells_in : Bool → List ℕ → ℕ → List ℕ
cells_in grows s w = widened_to bits_way grows 0 154 (windows_of w) 1 1 1 (padded_in grows 8 s w)

-- and of runs: windows of 4, and of these those of 16
unfoldable pub runs_in : Bool → List ℕ → ℕ → List ℕ
runs_in grows s w =
    widened_to bits_way grows 0 154 (windows_of w) 4 8 12
    (widened_to bits_way grows 154 0 (windows_of w) 1 2 3 (padded_in grows 162 s w))

-- of either kind
abbrev pub bits_filled : Bool → ℕ → List ℕ → ℕ → List ℕ
bits_filled grows zero s w = cells_in grows s w
bits_filled grows (suc k) s w = runs_in grows s w
