-- What the listing functions may assume.
use Rattle.std.specs.Prelude.{ℕ, ◌+◌, ◌*◌, ◌≤◌, ◌<◌, ◌≡◌, List, length, get_or}
use Rattle.regions.specs.Limits.{most_points, most_regions}
use Rattle.regions.specs.Listing.{inner_of, order_from}

-- the nodes' first ones as they stand in a list
abbrev pub at : List ℕ → ℕ → ℕ
at L a = get_or L a 0

-- L holds the first node of each node's region, for rows of w pings and n points
pub record Labelled (L : List ℕ) (w n : ℕ) : Type 0 where
  pub some_pings : 1 ≤ w
  pub few_points : n ≤ most_points
  pub room : n < length L
  pub low : (a : ℕ) → a ≤ n → at L a ≤ a
  pub twice : (a : ℕ) → a ≤ n → at L (at L a) ≡ at L a

-- and I the first nodes of the regions but the outer one
pub record Tree (L I : List ℕ) (w n : ℕ) : Type 0 where
  pub some_pings : 1 ≤ w
  pub few_points : n ≤ most_points
  pub room : n < length L
  pub low : (a : ℕ) → a ≤ n → at L a ≤ a
  pub inner : I ≡ inner_of (at L) n
  pub few_regions : length I < most_regions

-- m regions are listed, region r comes next at depth d,
-- and there are places for it and all that is inside it
pub record Next (L I : List ℕ) (w n len m r d : ℕ) : Type 0 where
  pub region : r ≤ n
  pub depth : d ≤ m
  pub left : m + length (order_from (at L) w n r d) ≤ length I + 1
  pub places : 2 * (length I + 1) ≤ len
