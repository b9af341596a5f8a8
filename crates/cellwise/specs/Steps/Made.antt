-- The result while it is made: the middle, whose points see all cells in the frame; the columns beside it;
-- the rows above and below.
use Rattle.std.specs.Prelude.{ℕ, ◌+◌, ◌-◌, ◌*◌, ◌≤◌, ◌<◌, ◌≡◌, Bool, List, ◌⊎◌, length, get_or}
use Rattle.picture.specs.declared.Depth.TheVariants.{EightBit}
use Rattle.picture.specs.Frame.{frame}
use Rattle.picture.specs.Points.{value_at}
use Rattle.picture.specs.Bytes.{Picture}
use Rattle.element.specs.declared.Outline.{Outline}
use Rattle.element.specs.Record.{shape_by}
use Rattle.morphology.specs.Operations.{flat}
use Rattle.rows.specs.Steps.Ways.{swept_by}
use Rattle.cellwise.specs.Steps.Spots.{side_of, spot_of, Cell}

-- what the element makes of the picture in the bytes s
abbrev pub swept_flat : Bool → List ℕ → ℕ → ℕ → Outline → List ℕ → Picture
swept_flat grows s w h o words =
    swept_by grows flat 255 (frame w h) (shape_by o words) (value_at EightBit s w)

-- the first column, and the first row, of the middle
abbrev pub back_of : Bool → Outline → ℕ
back_of grows o = side_of grows o.w o.origin.ping.0

abbrev pub up_of : Bool → Outline → ℕ
up_of grows o = side_of grows o.h o.origin.bin.0

-- the set cells, and no others, have a place in the list
pub record Places (grows : Bool) (w : ℕ) (o : Outline) (words at : List ℕ) : Type 0 where
  pub few : length at ≤ 16
  pub inside : (j : ℕ) → j < length at → (c : ℕ) × ((r : ℕ)
      × (Cell o words c r × (get_or at j 0 ≡ spot_of grows w o c r)))
  pub covered : (c r : ℕ) → Cell o words c r
      → (j : ℕ) × ((j < length at) × (get_or at j 0 ≡ spot_of grows w o c r))

-- the middle is there
pub record Middle (w h : ℕ) (o : Outline) : Type 0 where
  pub wide : o.w ≤ w
  pub high : o.h ≤ h

-- in the rows of the middle, the columns before x are made, and the middle is
pub record Across (grows : Bool) (s : List ℕ) (w h : ℕ) (o : Outline) (words : List ℕ) (x : ℕ) (t : List ℕ)
    : Type 0 where
  pub long : length t ≡ h * w
  pub made : (u z : ℕ) → u < w → up_of grows o ≤ z → z < up_of grows o + (h + 1 - o.h)
      → (u < x) ⊎ ((back_of grows o ≤ u) × (u < back_of grows o + (w + 1 - o.w)))
      → get_or t (z * w + u) 0 ≡ swept_flat grows s w h o words u z

-- the rows before y are made, and those from `first` to `last`
pub record Down (grows : Bool) (s : List ℕ) (w h : ℕ) (o : Outline) (words : List ℕ) (first last y : ℕ)
    (t : List ℕ) : Type 0 where
  pub long : length t ≡ h * w
  pub made : (u z : ℕ) → u < w → z < h → (z < y) ⊎ ((first ≤ z) × (z < last))
      → get_or t (z * w + u) 0 ≡ swept_flat grows s w h o words u z
