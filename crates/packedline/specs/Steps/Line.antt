-- A packed row with one row of an element folded in, in points.
use Rattle.std.specs.Prelude.{ℕ, ◌+◌, ◌-◌, ◌*◌, ◌≤◌, ◌<◌, ◌≡◌, Bool, cond, List, length}
use Rattle.basics.specs.Lists.{firsts}
use Rattle.basics.specs.Bits.{digits}
use Rattle.picture.specs.declared.Depth.TheVariants.{OneBit}
use Rattle.picture.specs.Frame.{most_pings, row_bytes}
use Rattle.morphology.specs.Operations.{flat}
use Rattle.rows.specs.Steps.Fold.{folded_at}
use Rattle.blocks.specs.Steps.Points.{point_of}
use Rattle.packedline.specs.Steps.Cells.{cell_on64}

-- a point as it is, or turned over
abbrev pub faced_point : Bool → ℕ → ℕ
faced_point over v = cond over (1 - v) v

-- the value v of point x, joined with the source's points at the set cells of a row word
-- whose places lie in the row of w points
unfoldable pub point_folded : Bool → Bool → List ℕ → ℕ → ℕ → ℕ → ℕ → ℕ → ℕ
point_folded over grows s w word o v x =
    folded_at grows flat (λ c. 0) (λ u. faced_point over (point_of s u)) w (cell_on64 word) 64 o v x

-- the bytes of the points f 0, f 1, .., 8 n of them
unfoldable pub pack_of : (ℕ → ℕ) → ℕ → List ℕ
pack_of f n = firsts (λ i. digits 1 (λ k. f (i * 8 + k)) 8) n

-- every point of the bytes t, those of the padding too
unfoldable pub line_of : Bool → Bool → List ℕ → List ℕ → ℕ → ℕ → ℕ → List ℕ
line_of over grows t s w word o =
    pack_of (λ x. point_folded over grows s w word o (point_of t x) x) (length t)

-- two packed rows of w points, and an origin within a row word
pub record LineFit (nt ns w o : ℕ) : Type 0 where
  pub some_points : 1 ≤ w
  pub few_points : w ≤ most_pings
  pub source : ns ≡ row_bytes OneBit w
  pub target : nt ≡ row_bytes OneBit w
  pub origin_in : o < 64
