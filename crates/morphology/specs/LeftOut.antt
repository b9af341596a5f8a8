-- Request (v) read another way: a value of 255 is left out of a weighted erosion, and one of 0 of a dilation.
-- proofs/LeftOut.antt: it gives what Weighted.antt gives.
use Rattle.std.specs.Prelude.{ℕ, not, ◌&&◌, eqb, pos, ◌+ℤ◌, ◌-ℤ◌}
use Rattle.std.proofs.Math.Option.{none, some}
use Rattle.picture.specs.Frame.{Frame}
use Rattle.picture.specs.Bytes.{Picture}
use Rattle.element.specs.Shape.{Shape, height_of}
use Rattle.morphology.specs.Operations.{gather, moved, onward, backward}
use Rattle.morphology.specs.Sums.{held_or, lesser, greater, among}

-- A(p + b) for the cell (c, r), and A(p - b)
abbrev pub ahead : Shape → Picture → ℕ → ℕ → ℕ → ℕ → ℕ
ahead B A x y c r = A (moved x c B.origin_column) (moved y r B.origin_row)

abbrev pub behind : Shape → Picture → ℕ → ℕ → ℕ → ℕ → ℕ
behind B A x y c r = A (moved x B.origin_column c) (moved y B.origin_row r)

-- the least of A(p + b) - g(b), over those b with p + b in the frame and A(p + b) below 255, then held;
-- 255 if there is none
unfoldable pub erode_left_out : Frame → Shape → Picture → Picture
erode_left_out F B A x y =
    held_or 255 (gather (among lesser) none B
    (λ c r. onward F B x y c r && not (eqb (ahead B A x y c r) 255))
    (λ c r. some (pos (ahead B A x y c r) -ℤ height_of (B.height c r))))

-- the greatest of A(p - b) + g(b), over those b with p - b in the frame and A(p - b) above 0, then held;
-- 0 if there is none
unfoldable pub dilate_left_out : Frame → Shape → Picture → Picture
dilate_left_out F B A x y =
    held_or 0 (gather (among greater) none B
    (λ c r. backward F B x y c r && not (eqb (behind B A x y c r) 0))
    (λ c r. some (pos (behind B A x y c r) +ℤ height_of (B.height c r))))
