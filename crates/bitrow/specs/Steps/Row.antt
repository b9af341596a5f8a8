-- A packed row of a one-bit result, in points.
use Rattle.std.specs.Prelude.{ℕ, Bool, true, false, List}
use Rattle.picture.specs.declared.Depth.TheVariants.{OneBit}
use Rattle.picture.specs.declared.Face.{Face}
use Rattle.picture.specs.declared.Face.TheVariants.{AsIs, TurnedOver}
use Rattle.picture.specs.Frame.{frame}
use Rattle.picture.specs.Bytes.{Picture, row_of, faced}
use Rattle.element.specs.declared.Outline.{Outline}
use Rattle.element.specs.Record.{shape_by}
use Rattle.morphology.specs.Operations.{flat}
use Rattle.rows.specs.Steps.Ways.{swept_by}
use Rattle.bitrow.specs.declared.Task.{Task}

abbrev pub face_if : Bool → Face
face_if true = TurnedOver
face_if false = AsIs

-- the erosion, or the dilation, of the picture in the bytes s, as it is or turned over
unfoldable pub swept_bits : Task → List ℕ → ℕ → ℕ → Outline → List ℕ → Picture
swept_bits k s w h o words =
    swept_by k.grows flat 1 (frame w h) (shape_by o words) (faced OneBit (face_if k.over) s w)

-- row y of it
unfoldable pub bit_row : Task → List ℕ → ℕ → ℕ → Outline → List ℕ → ℕ → List ℕ
bit_row k s w h o words y = row_of OneBit (λ x. swept_bits k s w h o words x y) w
