-- The rows that two rows y and z of a result see, one after the other or the same:
-- some are seen by both, one more by y, and one more by z.
use Rattle.std.specs.Prelude.{ℕ, ◌+◌, ◌-◌, ◌*◌, ◌≤◌, ◌<◌, min, ◌≡◌, Bool, List}
use Rattle.basics.specs.Lists.{firsts}
use Rattle.picture.specs.Frame.{most_bins, row_bytes}
use Rattle.element.specs.declared.Outline.{Outline}
use Rattle.element.specs.Descriptor.{most_cells}
use Rattle.joins.specs.Steps.Joins.{depth_if}
use Rattle.columns.specs.Steps.Down.{also_at}
use Rattle.boxrow.specs.Steps.Along.{before_of}

abbrev pub first_row : ℕ → ℕ → ℕ
first_row above y = y - above

abbrev pub shared_from : ℕ → ℕ → ℕ
shared_from above z = z - above

abbrev pub shared_count : ℕ → ℕ → ℕ → ℕ → ℕ → ℕ
shared_count above high h y z = min (y + high - above) h - (z - above)

abbrev pub last_row : ℕ → ℕ → ℕ → ℕ → ℕ
last_row above high h z = min (z + high - above - 1) (h - 1)

-- byte i of what y sees, and of what z sees, by an element of `high` rows with the origin row o
unfoldable pub upper_at : Bool → Bool → List ℕ → ℕ → ℕ → ℕ → ℕ → ℕ → ℕ → ℕ → ℕ
upper_at packed grows s n h o high y z i =
    also_at packed grows s n (shared_from (before_of grows o high) z)
    (shared_count (before_of grows o high) high h y z) (first_row (before_of grows o high) y) i

unfoldable pub lower_at : Bool → Bool → List ℕ → ℕ → ℕ → ℕ → ℕ → ℕ → ℕ → ℕ → ℕ
lower_at packed grows s n h o high y z i =
    also_at packed grows s n (shared_from (before_of grows o high) z)
    (shared_count (before_of grows o high) high h y z) (last_row (before_of grows o high) high h z) i

unfoldable pub lower_row : Bool → Bool → List ℕ → ℕ → ℕ → Outline → ℕ → ℕ → List ℕ
lower_row packed grows s w h o y z =
    firsts (lower_at packed grows s (row_bytes (depth_if packed) w) h o.origin.bin.0 o.h y z)
    (row_bytes (depth_if packed) w)

-- two rows of n bytes, a source of h rows, an element within its limits, and a row and itself or the next
pub record LeadFit (ns n nz h o high y z : ℕ) : Type 0 where
  pub same : nz ≡ n
  pub source : h * n ≤ ns
  pub few_bins : h ≤ most_bins
  pub few_high : high ≤ most_cells
  pub origin_in : o < high
  pub up : y ≤ z
  pub next : z ≤ y + 1
  pub row : z < h
