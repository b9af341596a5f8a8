-- What the code may assume of a frame and the bytes lent with it.
use Rattle.std.specs.Prelude.{ℕ, ◌+◌, ◌*◌, ◌/◌, ◌≤◌, ◌<◌}
use Rattle.picture.specs.Frame.{most_pings, most_bins}
use Rattle.regions.specs.Limits.{most_points}

-- n bytes hold a one-bit picture of W pings and H bins, of few points
pub record Framed (n w h : ℕ) : Type 0 where
  pub some_pings : 1 ≤ w
  pub few_pings : w ≤ most_pings
  pub few_bins : h ≤ most_bins
  pub few_points : h * w ≤ most_points
  pub long : h * ((w + 7) / 8) ≤ n

-- m places for the nodes of that picture, each of which fits a place
pub record Places (m w h : ℕ) : Type 0 where
  pub room : h * w < m
  pub few : m ≤ 65536
