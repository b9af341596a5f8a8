-- Request (xiii): how much of a one-bit picture is in small marks.
use Rattle.std.specs.Prelude.{ℕ, ◌+◌, true, cond, List, eqb}
use Rattle.basics.specs.Lists.{firsts}
use Rattle.picture.specs.Frame.{Frame}
use Rattle.picture.specs.Bytes.{Picture}
use Rattle.element.specs.Shape.{Shape}
use Rattle.morphology.specs.Operations.{fold, opening}
use Rattle.morphology.specs.TopHats.{less}

-- all cells of a columns and b rows, the origin at the first cell
unfoldable pub rect : ℕ → ℕ → Shape
rect a b =
    record {
      wide = a;
      high = b;
      origin_column = 0;
      origin_row = 0;
      has = λ column row. true;
      height = λ column row. 0;
    }

-- the square of side k
abbrev pub square : ℕ → Shape
square k = rect k k

-- the points that survive opening by the square of side k
abbrev pub survived : Frame → Picture → ℕ → Picture
survived F A k = opening 1 F (square k) A

-- how many points of a one-bit picture are set
unfoldable pub points : Frame → Picture → ℕ
points F A = fold ◌+◌ 0 (λ y. fold ◌+◌ 0 (λ x. A x y) F.pings) F.bins

-- how many survive side k
abbrev pub survivors : Frame → Picture → ℕ → ℕ
survivors F A k = points F (survived F A k)

-- squares of side 1 to 32
abbrev pub sides : ℕ
sides = 32

-- the points that survive side k and not side k + 1; the last count is those surviving side 32
unfoldable pub count_at : Frame → Picture → ℕ → ℕ
count_at F A k = cond (eqb k sides) (survivors F A k) (points F (less (survived F A k) (survived F A (k +
    1))))

-- the counts of side 1, 2, .., 32
unfoldable pub spectrum : Frame → Picture → List ℕ
spectrum F A = firsts (λ i. count_at F A (i + 1)) sides
