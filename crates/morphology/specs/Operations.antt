-- Document 01, "The definitions", once for both depths: `top` is the greatest value of a point, 1 or 255.
-- A is the picture, B the element, F the frame and (x, y) the point p.
-- The cell (c, r) of B stands for the offset b = (c - origin column, r - origin row).
use Rattle.std.specs.Prelude.{ℕ, zero, suc, ◌+◌, ◌-◌, min, max, Bool, ◌&&◌, cond, leb, ltb}
use Rattle.picture.specs.Frame.{Frame}
use Rattle.picture.specs.Bytes.{Picture}
use Rattle.element.specs.Shape.{Shape}

-- z, f 0, f 1, .., f (n - 1), joined one after another
unfoldable pub fold : {A : Type 0} → (A → A → A) → A → (ℕ → A) → ℕ → A
fold join z f zero = z
fold join z f (suc n) = join (fold join z f n) (f n)

-- the values of the cells that are taken, joined row after row; z if there is none
unfoldable pub gather : {A : Type 0} → (A → A → A) → A → Shape → (ℕ → ℕ → Bool) → (ℕ → ℕ → A) → A
gather join z B taken value =
    fold join z (λ r. fold join z (λ c. cond (taken c r) (value c r) z) B.wide) B.high

-- p + (plus - minus), and whether it is one of 0, 1, .., n - 1
abbrev pub moved : ℕ → ℕ → ℕ → ℕ
moved p plus minus = p + plus - minus

abbrev pub within : ℕ → ℕ → ℕ → ℕ → Bool
within n p plus minus = leb minus (p + plus) && ltb (moved p plus minus) n

-- the set cells with p + b in the frame; and those with p - b in the frame
abbrev pub onward : Frame → Shape → ℕ → ℕ → ℕ → ℕ → Bool
onward F B x y c r =
    B.has c r && (within F.pings x c B.origin_column && within F.bins y r B.origin_row)

abbrev pub backward : Frame → Shape → ℕ → ℕ → ℕ → ℕ → Bool
backward F B x y c r =
    B.has c r && (within F.pings x B.origin_column c && within F.bins y B.origin_row r)

-- what an element does with a value, given the height of the cell
abbrev pub Change : Type 0
Change = ℕ → ℕ → ℕ

-- the least A(p + b), each lowered by its cell, over those b with p + b in the frame; top if there is none
unfoldable pub erode_by : Change → ℕ → Frame → Shape → Picture → Picture
erode_by lower top F B A x y =
    gather min top B (onward F B x y)
    (λ c r. lower (B.height c r) (A (moved x c B.origin_column) (moved y r B.origin_row)))

-- the greatest A(p - b), each raised by its cell, over those b with p - b in the frame; 0 if there is none
unfoldable pub dilate_by : Change → Frame → Shape → Picture → Picture
dilate_by raise F B A x y =
    gather max 0 B (backward F B x y)
    (λ c r. raise (B.height c r) (A (moved x B.origin_column c) (moved y B.origin_row r)))

-- erosion, then dilation by the same element; and dilation, then erosion
abbrev pub open_by : Change → Change → ℕ → Frame → Shape → Picture → Picture
open_by lower raise top F B A = dilate_by raise F B (erode_by lower top F B A)

abbrev pub close_by : Change → Change → ℕ → Frame → Shape → Picture → Picture
close_by lower raise top F B A = erode_by lower top F B (dilate_by raise F B A)

-- a flat element takes each value as it is
abbrev pub flat : Change
flat height value = value

-- erosion, of one bit with top 1 and of 8 bits with top 255:
-- the least A(p + b) over those b with p + b in the frame; top if there is none
abbrev pub erode : ℕ → Frame → Shape → Picture → Picture
erode top F B A = erode_by flat top F B A

-- dilation: the greatest A(p - b) over those b with p - b in the frame; 0 if there is none
abbrev pub dilate : Frame → Shape → Picture → Picture
dilate F B A = dilate_by flat F B A

-- opening and closing
abbrev pub opening : ℕ → Frame → Shape → Picture → Picture
opening top F B A = open_by flat flat top F B A

abbrev pub closing : ℕ → Frame → Shape → Picture → Picture
closing top F B A = close_by flat flat top F B A

-- an echo for none and none for an echo; no operation reads a point outside the frame
abbrev pub complement : ℕ → Picture → Picture
complement top A x y = top - A x y

-- the erosion of A by B has p, and the erosion of A's complement by C has p
unfoldable pub hit_miss : Frame → Shape → Shape → Picture → Picture
hit_miss F B C A x y = min (erode 1 F B A x y) (erode 1 F C (complement 1 A) x y)
