-- A marker within a mask, byte by byte: a bit stands in neither's way where both have it,
-- and the spare bits of a row's last byte are passed over.
use Rattle.std.specs.Prelude.{ℕ, ◌+◌, ◌-◌, ◌*◌, ◌/◌, ◌^◌, Bool, ◌&&◌, List, eqb, length, get_or}
use Rattle.std.specs.Int.Bits.{bit_and}
use Rattle.basics.specs.Tests.{all}
use Rattle.picture.specs.declared.Depth.TheVariants.{OneBit}
use Rattle.picture.specs.Frame.{sized_frame, picture_bytes}

-- no bit of a stands where b has none, but for the u lowest
abbrev pub byte_within : ℕ → ℕ → ℕ → Bool
byte_within a b u = eqb (bit_and a (255 - b) / 2 ^ u) 0

-- so of the byte i of two lists
abbrev pub byte_within_at : List ℕ → List ℕ → ℕ → ℕ → Bool
byte_within_at a b u i = byte_within (get_or a i 0) (get_or b i 0) u

-- of each of n bytes from the place `at` on, of the last but for its u lowest bits
unfoldable pub row_within : List ℕ → List ℕ → ℕ → ℕ → ℕ → Bool
row_within a b at n u = all (λ i. byte_within_at a b 0 (at + i)) (n - 1)
    && byte_within_at a b u (at + (n - 1))

-- and of each of h rows
unfoldable pub rows_within : List ℕ → List ℕ → ℕ → ℕ → ℕ → Bool
rows_within a b n u h = all (λ y. row_within a b (y * n) n u) h

-- the frame is within its limits, and marker and mask have its bytes
abbrev pub fits : ℕ → ℕ → List ℕ → List ℕ → Bool
fits w h marker mask =
    sized_frame w h
    && (eqb (length marker) (picture_bytes OneBit w h) && eqb (length mask) (picture_bytes OneBit w h))
