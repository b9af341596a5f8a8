-- How far apart the set cells of an element lie, whatever unset cells stand round them.
use Rattle.std.specs.Prelude.{ℕ, ◌+◌, ◌-◌, ◌*◌, ◌<◌}
use Rattle.element.specs.Shape.{Shape}
use Rattle.morphology.specs.Step.{Cell}
use Rattle.morphology.specs.Chain.{most_link_cells, most_links}

-- all set cells lie in n columns side by side, and in n rows
pub record SpansAtMost (n : ℕ) (E : Shape) : Type 0 where
  pub columns : (k l : Cell E) → l.column < k.column + n
  pub rows : (k l : Cell E) → l.row < k.row + n

-- how many columns, and rows, the sums of a chain span at the most: 36
abbrev pub most_span : ℕ
most_span = most_links * (most_link_cells - 1) + 1
