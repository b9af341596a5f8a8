-- The weighted rule in document 01's own order, with request (v)'s ends:
-- the least, or the greatest, of the integer sums, which is then held to 0..255.
-- Here 0 contributes 0, and 255 contributes 255, before the hold; in Weighted.antt, where each sum is held
-- by itself, after it; in LeftOut.antt they are left out. proofs/Sums.antt and proofs/LeftOut.antt:
-- all three are the same.
use Rattle.std.specs.Prelude.{ℕ, min, cond, eqb, ℤ, pos, negsuc, ◌+ℤ◌, ◌-ℤ◌}
use Rattle.std.proofs.Math.Option.{Option, none, some}
use Rattle.std.specs.Int.Signed.{le_z}
use Rattle.picture.specs.Frame.{Frame}
use Rattle.picture.specs.Bytes.{Picture}
use Rattle.element.specs.Shape.{Shape, height_of}
use Rattle.morphology.specs.Operations.{gather, moved, onward, backward}

-- a sum held to 0..255
unfoldable pub held : ℤ → ℕ
held (pos n) = min n 255
held (negsuc n) = 0

-- z where there is no sum
unfoldable pub held_or : ℕ → Option ℤ → ℕ
held_or z none = z
held_or z (some s) = held s

-- the lesser, and the greater, of two sums
unfoldable pub lesser : ℤ → ℤ → ℤ
lesser s t = cond (le_z s t) s t

unfoldable pub greater : ℤ → ℤ → ℤ
greater s t = cond (le_z s t) t s

-- of sums that there may be
unfoldable pub among : (ℤ → ℤ → ℤ) → Option ℤ → Option ℤ → Option ℤ
among choose none t = t
among choose (some s) none = some s
among choose (some s) (some t) = some (choose s t)

-- A(p + b) - g(b), where 255 contributes 255
unfoldable pub less_height : ℕ → ℕ → ℤ
less_height g v = cond (eqb v 255) (pos 255) (pos v -ℤ height_of g)

-- A(p - b) + g(b), where 0 contributes 0
unfoldable pub with_height : ℕ → ℕ → ℤ
with_height g v = cond (eqb v 0) (pos 0) (pos v +ℤ height_of g)

-- the least of A(p + b) - g(b), over those b with p + b in the frame, then held; 255 if there is none
unfoldable pub erode_sums : Frame → Shape → Picture → Picture
erode_sums F B A x y =
    held_or 255 (gather (among lesser) none B (onward F B x y)
    (λ c r.
    some (less_height (B.height c r) (A (moved x c B.origin_column) (moved y r B.origin_row)))))

-- the greatest of A(p - b) + g(b), over those b with p - b in the frame, then held; 0 if there is none
unfoldable pub dilate_sums : Frame → Shape → Picture → Picture
dilate_sums F B A x y =
    held_or 0 (gather (among greater) none B (backward F B x y)
    (λ c r.
    some (with_height (B.height c r) (A (moved x B.origin_column c) (moved y B.origin_row r)))))

-- erosion, then dilation by the same element; and dilation, then erosion
abbrev pub open_sums : Frame → Shape → Picture → Picture
open_sums F B A = dilate_sums F B (erode_sums F B A)

abbrev pub close_sums : Frame → Shape → Picture → Picture
close_sums F B A = erode_sums F B (dilate_sums F B A)
