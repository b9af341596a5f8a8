-- What the work on a picture asks for.
use Rattle.std.specs.Prelude.{ℕ, ◌≤◌, ◌<◌, ◌≡◌, Bool}
use Rattle.picture.specs.Frame.{most_pings, most_bins, picture_bytes}
use Rattle.element.specs.declared.Outline.{Outline}
use Rattle.element.specs.Descriptor.{most_cells}
use Rattle.joins.specs.Steps.Joins.{depth_if}
use Rattle.boxrow.specs.Steps.Along.{room_of}

-- a source and a target of h rows of w points, an element within its limits, and room for a padded row
pub record BoxFit (packed : Bool) (ns nt nb w h : ℕ) (o : Outline) : Type 0 where
  pub some_pings : 1 ≤ w
  pub few_pings : w ≤ most_pings
  pub few_bins : h ≤ most_bins
  pub source : picture_bytes (depth_if packed) w h ≤ ns
  pub target : picture_bytes (depth_if packed) w h ≤ nt
  pub room : nb ≡ room_of packed
  pub few_wide : o.w ≤ most_cells
  pub few_high : o.h ≤ most_cells
  pub column : o.origin.ping.0 < o.w
  pub row : o.origin.bin.0 < o.h
