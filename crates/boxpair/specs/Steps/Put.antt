-- Rows written over a picture, and a padded row as it is made.
use Rattle.std.specs.Prelude.{ℕ, ◌+◌, ◌-◌, ◌*◌, Bool, List}
use borrow.Rule.Slice.PartMut.{put_mid}
use Rattle.basics.specs.Lists.{firsts}
use Rattle.picture.specs.Frame.{row_bytes}
use Rattle.element.specs.declared.Outline.{Outline}
use Rattle.joins.specs.Steps.Joins.{depth_if}
use Rattle.boxseen.specs.Steps.Seen.{upper_at}
use Rattle.boxlaw.specs.Steps.Padded.{side_of, margins_of}

-- row y, of rows of n bytes, set anew
abbrev pub put_row : ℕ → ℕ → List ℕ → List ℕ → List ℕ
put_row n y t row = put_mid (y * n) (y * n + n - y * n) t row

-- the padded row as it is made in the bytes b
unfoldable pub padded_by : Bool → Bool → ℕ → List ℕ → List ℕ → List ℕ
padded_by packed grows n b row =
    put_mid (side_of packed) (side_of packed + n - side_of packed) (margins_of packed grows n b) row

-- what row y sees
unfoldable pub upper_row : Bool → Bool → List ℕ → ℕ → ℕ → Outline → ℕ → ℕ → List ℕ
upper_row packed grows s w h o y z =
    firsts (upper_at packed grows s (row_bytes (depth_if packed) w) h o.origin.bin.0 o.h y z)
    (row_bytes (depth_if packed) w)
