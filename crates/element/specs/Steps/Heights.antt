-- What the walk over the heights stands on.
use Rattle.std.specs.Prelude.{ℕ, ◌+◌, ◌*◌, ◌≤◌}
use Rattle.picture.specs.declared.Depth.TheVariants.{OneBit}
use Rattle.picture.specs.Frame.{most_pings, row_bytes}

-- row r of a picture of cells and of one of heights, w across
pub record Weighed (cells heights w r : ℕ) : Type 0 where
  pub few_pings : w ≤ most_pings
  pub cells_row : r * row_bytes OneBit w + row_bytes OneBit w ≤ cells
  pub heights_row : r * w + w ≤ heights
