-- Elements whose set cells fill a rectangle, wherever the origin lies; a single cell is one of them.
use Rattle.std.specs.Prelude.{ℕ, ◌-◌, ◌*◌, ◌≤◌, ◌<◌, min, max, T}
use Rattle.element.specs.Shape.{Shape}
use Rattle.morphology.specs.Chain.{most_link_cells, most_links}

-- the set cells are exactly those from column c to d and from row r to s
pub record Filled (E : Shape) (c d r s : ℕ) : Type 0 where
  pub across : c ≤ d
  pub right : d < E.wide
  pub down : r ≤ s
  pub lower : s < E.high
  pub set : (x y : ℕ) → c ≤ x → x ≤ d → r ≤ y → y ≤ s → T (E.has x y)
  pub unset : (x y : ℕ) → x < E.wide → y < E.high → T (E.has x y) → (c ≤ x) × (x ≤ d) × (r ≤ y) × (y ≤ s)

-- with the origin they span no more columns, and rows, than the sums of five links: 36
pub record InReach (E : Shape) (c d r s : ℕ) : Type 0 where
  pub columns : max E.origin_column d - min E.origin_column c ≤ most_links * (most_link_cells - 1)
  pub rows : max E.origin_row s - min E.origin_row r ≤ most_links * (most_link_cells - 1)
