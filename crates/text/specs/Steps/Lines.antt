-- The text of a picture A as the loops print it: point after point, line after line.
use Rattle.std.specs.Prelude.{ℕ, List}
use Rattle.picture.specs.declared.Depth.{Depth}
use Rattle.picture.specs.Bytes.{Picture}
use Rattle.text.specs.Text.{item_of, row_line}

-- the point (x, y)
unfoldable pub point_item : Depth → Picture → ℕ → ℕ → List ℕ
point_item depth A y x = item_of depth (A x y) x

-- row y, as a line
unfoldable pub line_of : Depth → Picture → ℕ → ℕ → List ℕ
line_of depth A w y = row_line depth (λ x. A x y) w
