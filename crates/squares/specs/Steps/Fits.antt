-- A packed row, and a packed picture in len bytes, with a square of side k.
use Rattle.std.specs.Prelude.{ℕ, ◌≤◌, ◌≡◌}
use Rattle.picture.specs.declared.Depth.TheVariants.{OneBit}
use Rattle.picture.specs.Frame.{most_pings, most_bins, row_bytes, picture_bytes}
use Rattle.element.specs.Descriptor.{most_cells}

pub record RowFits (w k len : ℕ) : Type 0 where
  pub some_pings : 1 ≤ w
  pub few_pings : w ≤ most_pings
  pub some_cells : 1 ≤ k
  pub few_cells : k ≤ most_cells
  pub row : len ≡ row_bytes OneBit w

pub record Fits (w h k len : ℕ) : Type 0 where
  pub some_pings : 1 ≤ w
  pub few_pings : w ≤ most_pings
  pub few_bins : h ≤ most_bins
  pub some_cells : 1 ≤ k
  pub few_cells : k ≤ most_cells
  pub long : picture_bytes OneBit w h ≤ len
