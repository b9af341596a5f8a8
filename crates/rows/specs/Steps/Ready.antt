-- What a row of a result is made from.
use Rattle.std.specs.Prelude.{ℕ, ◌≤◌, ◌<◌}
use Rattle.picture.specs.declared.Depth.{Depth}
use Rattle.picture.specs.Frame.{most_pings, most_bins, picture_bytes}
use Rattle.element.specs.declared.Outline.{Outline}
use Rattle.element.specs.Descriptor.{most_cells}

-- a frame within the limits whose source is there, and an element within its limits whose row words are
pub record Ready (depth : Depth) (ns nw w h : ℕ) (o : Outline) : Type 0 where
  pub some_pings : 1 ≤ w
  pub few_pings : w ≤ most_pings
  pub few_bins : h ≤ most_bins
  pub source : picture_bytes depth w h ≤ ns
  pub few_wide : o.w ≤ most_cells
  pub few_high : o.h ≤ most_cells
  pub column : o.origin.ping.0 < o.w
  pub row : o.origin.bin.0 < o.h
  pub words : o.h ≤ nw
