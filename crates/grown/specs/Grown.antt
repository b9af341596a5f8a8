-- Request (iv): "grow the marker by the 3 x 3 cross or square, cut by the mask, until nothing changes",
-- by morphology's own dilation of one-bit pictures.
use Rattle.std.specs.Prelude.{ℕ, zero, suc, ◌*◌, min, Bool, true, ◌||◌, eqb}
use Rattle.picture.specs.Frame.{Frame}
use Rattle.picture.specs.Bytes.{Picture}
use Rattle.element.specs.Shape.{Shape}
use Rattle.morphology.specs.Operations.{dilate}
use Rattle.morphology.specs.Order.{Alike}
use Rattle.grown.specs.declared.Neighbours.{Neighbours}
use Rattle.grown.specs.declared.Neighbours.TheVariants.{Cross, Square}

-- the set cells of the cross, the middle column and the middle row, and of the square, all
abbrev pub cell_around : Neighbours → ℕ → ℕ → Bool
cell_around Cross column row = eqb column 1 || eqb row 1
cell_around Square column row = true

-- the 3 x 3 element, flat, with its origin in the middle
abbrev pub around : Neighbours → Shape
around neighbours =
    record {
      wide = 3;
      high = 3;
      origin_column = 1;
      origin_row = 1;
      has = cell_around neighbours;
      height = λ column row. 0;
    }

-- A grown once: dilated, and cut by the mask
unfoldable pub grown_once : Neighbours → Frame → Picture → Picture → Picture
grown_once neighbours F mask A x y = min (dilate F (around neighbours) A x y) (mask x y)

-- and n times
unfoldable pub grown_times : ℕ → Neighbours → Frame → Picture → Picture → Picture
grown_times zero neighbours F mask A = A
grown_times (suc n) neighbours F mask A = grown_once neighbours F mask (grown_times n neighbours F mask A)

-- what the marker becomes: grown again and again, until nothing changes
pub record Grown (neighbours : Neighbours) (F : Frame) (mask marker result : Picture) : Type 0 where
  pub times : ℕ
  pub is_grown : Alike F result (grown_times times neighbours F mask marker)
  pub no_change : Alike F (grown_once neighbours F mask result) result

-- and a number of times that always suffices: once for each point of the frame
unfoldable pub grown : Neighbours → Frame → Picture → Picture → Picture
grown neighbours F mask marker = grown_times (F.bins * F.pings) neighbours F mask marker
