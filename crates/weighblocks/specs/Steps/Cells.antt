-- Rows joined with what the cells of an element row find.
-- A cell is one number: the size of its height, and 256 times its place.
use Rattle.std.specs.Prelude.{ℕ, ◌+◌, ◌/◌, ◌%◌, ◌<◌, Bool, true, false, List, get_or, length}
use Rattle.basics.specs.Lists.{firsts}
use Rattle.morphology.specs.Operations.{fold}
use Rattle.rows.specs.Steps.Fold.{join_by}
use Rattle.blocks.specs.Steps.Laid.{laid}
use Rattle.weighblocks.specs.Steps.Lift.{lift_by}

-- a block with what one cell finds from the place `at` on
unfoldable pub cell_block : Bool → Bool → List ℕ → List ℕ → ℕ → ℕ → List ℕ
cell_block grows rises a b at g =
    firsts (λ i. join_by grows (get_or a i 0) (lift_by grows rises g (get_or b (at + i) 0))) 64

-- what the cell k finds m past its place
abbrev pub found_by : Bool → Bool → List ℕ → ℕ → ℕ → ℕ
found_by grows rises b m k = lift_by grows rises (k % 256) (get_or b (m + k / 256) 0)

-- the value v, and what each of the first n cells finds
unfoldable pub at_cells : Bool → Bool → ℕ → List ℕ → ℕ → List ℕ → ℕ → ℕ
at_cells grows rises v b m cells n =
    fold (join_by grows) v (λ j. found_by grows rises b m (get_or cells j 0)) n

-- the cells that raise, then those that do not
unfoldable pub both_at : Bool → ℕ → List ℕ → ℕ → List ℕ → List ℕ → ℕ
both_at grows v b m rising others =
    at_cells grows false (at_cells grows true v b m rising (length rising)) b m others (length others)

unfoldable pub weighed_row : Bool → List ℕ → List ℕ → List ℕ → List ℕ → List ℕ
weighed_row grows b rising others t =
    laid 0 (length t) (λ m. both_at grows (get_or t m 0) b m rising others) t

-- no place lies more than 127 past the column
abbrev pub Near : List ℕ → Type 0
Near cells = (j : ℕ) → j < length cells → get_or cells j 0 / 256 < 128

abbrev pub Near2 : List ℕ → List ℕ → Type 0
Near2 rising others = Near rising × Near others
