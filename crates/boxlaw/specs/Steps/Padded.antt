-- What counts beyond the frame at both ends of a padded row.
use Rattle.std.specs.Prelude.{ℕ, ◌+◌, Bool, cond, List}
use Rattle.rows.specs.Steps.Fold.{start_by}
use Rattle.blocks.specs.Steps.Laid.{laid}

-- the bytes before the row: as many points as an element has cells
abbrev pub side_of : Bool → ℕ
side_of packed = cond packed 8 64

unfoldable pub margins_of : Bool → Bool → ℕ → List ℕ → List ℕ
margins_of packed grows n b =
    laid (side_of packed + n) 64 (λ i. start_by grows 255) (laid 0 64 (λ i. start_by grows 255) b)
