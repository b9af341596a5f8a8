-- Headers read by the definition, computed: where comments stand, where the raster begins, what is broken.
use mathlib.Core.Path.{◌≡◌, refl}
use mathlib.Core.Bool.{true}
use mathlib.Core.List.{[], ◌∷◌}
use Rattle.picture.specs.declared.Depth.TheVariants.{OneBit, EightBit}
use Rattle.pnmheader.specs.Header.{part_after, number_after, step, scan, header, no_head}

-- "P4\n1#c\n2 3\n": a comment in the middle of a number; the raster is the byte 9
pub in_a_number : header OneBit
    (80 ∷ 52 ∷ 10 ∷ 49 ∷ 35 ∷ 99 ∷ 10 ∷ 50 ∷ 32 ∷ 51 ∷ 10 ∷ 9 ∷ [])
    ≡ record { whole = true; w = 12; h = 3; most = 0; raster = 9 ∷ [] }
unfolding header scan step part_after number_after
in_a_number = refl

-- "P5 1 1 0255\n": leading zeros; the raster, here # and a line feed, is whatever follows
pub leading_zeros : header EightBit
    (80 ∷ 53 ∷ 32 ∷ 49 ∷ 32 ∷ 49 ∷ 32 ∷ 48 ∷ 50 ∷ 53 ∷ 53 ∷ 10 ∷ 35 ∷ 10 ∷ [])
    ≡ record { whole = true; w = 1; h = 1; most = 255; raster = 35 ∷ 10 ∷ [] }
unfolding header scan step part_after number_after
leading_zeros = refl

-- "P4\r\n1 2\r\n": one white space ends the header, so that the line feed is the raster's first byte
pub return_and_feed : header OneBit (80 ∷ 52 ∷ 13 ∷ 10 ∷ 49 ∷ 32 ∷ 50 ∷ 13 ∷ 10 ∷ 7 ∷ [])
    ≡ record { whole = true; w = 1; h = 2; most = 0; raster = 10 ∷ 7 ∷ [] }
unfolding header scan step part_after number_after
return_and_feed = refl

-- "P4 1 2#c\n": a comment's line end ends nothing, and here the file ends in the header
pub comment_ends_nothing : header OneBit (80 ∷ 52 ∷ 32 ∷ 49 ∷ 32 ∷ 50 ∷ 35 ∷ 99 ∷ 10 ∷ []) ≡ no_head
unfolding header scan step part_after number_after
comment_ends_nothing = refl

-- "P4#c\n1 2\n": nor does it stand for the white space after the magic
pub comment_no_white : header OneBit (80 ∷ 52 ∷ 35 ∷ 99 ∷ 10 ∷ 49 ∷ 32 ∷ 50 ∷ 10 ∷ []) ≡ no_head
unfolding header scan step part_after number_after
comment_no_white = refl

-- "P4 +1 2\n": a sign; "P4 1 2 255\n" read as PGM: another magic
pub a_sign : header OneBit (80 ∷ 52 ∷ 32 ∷ 43 ∷ 49 ∷ 32 ∷ 50 ∷ 10 ∷ []) ≡ no_head
unfolding header scan step part_after number_after
a_sign = refl

pub another_magic : header EightBit (80 ∷ 52 ∷ 32 ∷ 49 ∷ 32 ∷ 50 ∷ 32 ∷ 50 ∷ 53 ∷ 53 ∷ 10 ∷ []) ≡ no_head
unfolding header scan step part_after number_after
another_magic = refl
