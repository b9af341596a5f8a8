-- Weighted erosion, dilation, opening and closing of 8-bit pictures, as request (v) amends them at the ends.
-- A height is a byte g: 0 to 127 are themselves, 129 to 255 stand for -127 to -1.
use Rattle.std.specs.Prelude.{◌+◌, ◌-◌, ◌^◌, min, cond, eqb, leb, ltb}
use Rattle.picture.specs.Frame.{Frame}
use Rattle.picture.specs.Bytes.{Picture}
use Rattle.element.specs.Shape.{Shape, sign_bit}
use Rattle.morphology.specs.Operations.{Change, erode_by, dilate_by, open_by, close_by}

-- value - height, and value + height, held to 0..255: document 01's rule, at all values
unfoldable pub held_less : Change
held_less g v = cond (ltb g sign_bit) (v - g) (min 255 (v + (2 ^ 8 - g)))

unfoldable pub held_more : Change
held_more g v = cond (ltb g sign_bit) (min 255 (v + g)) (v - (2 ^ 8 - g))

-- what a value contributes: 255, which none is above, contributes 255 to an erosion at any height
unfoldable pub lower : Change
lower g v = cond (leb 255 v) 255 (held_less g v)

-- and 0 contributes 0 to a dilation
unfoldable pub raise : Change
raise g v = cond (eqb v 0) 0 (held_more g v)

abbrev pub erode_weighted : Frame → Shape → Picture → Picture
erode_weighted F B A = erode_by lower 255 F B A

abbrev pub dilate_weighted : Frame → Shape → Picture → Picture
dilate_weighted F B A = dilate_by raise F B A

abbrev pub open_weighted : Frame → Shape → Picture → Picture
open_weighted F B A = open_by lower raise 255 F B A

abbrev pub close_weighted : Frame → Shape → Picture → Picture
close_weighted F B A = close_by lower raise 255 F B A
