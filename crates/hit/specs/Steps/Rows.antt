-- The result by outlines and row words, and a row of it.
use Rattle.std.specs.Prelude.{ℕ, List}
use Rattle.picture.specs.declared.Depth.TheVariants.{OneBit}
use Rattle.picture.specs.Frame.{frame}
use Rattle.picture.specs.Points.{value_at}
use Rattle.picture.specs.Bytes.{Picture, row_of}
use Rattle.element.specs.declared.Outline.{Outline}
use Rattle.element.specs.Record.{shape_by}
use Rattle.morphology.specs.Operations.{hit_miss}

unfoldable pub hit_at : List ℕ → ℕ → ℕ → Outline → List ℕ → Outline → List ℕ → Picture
hit_at s w h hit hits miss misses =
    hit_miss (frame w h) (shape_by hit hits) (shape_by miss misses) (value_at OneBit s w)

unfoldable pub hit_row : List ℕ → ℕ → ℕ → Outline → List ℕ → Outline → List ℕ → ℕ → List ℕ
hit_row s w h hit hits miss misses y = row_of OneBit (λ x. hit_at s w h hit hits miss misses x y) w
