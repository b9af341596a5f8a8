-- The points of packed bytes: point 0 is the highest digit of the first byte.
use Rattle.std.specs.Prelude.{ℕ, ◌+◌, ◌-◌, ◌*◌, ◌/◌, ◌%◌, ◌^◌, List, get_or}
use Rattle.std.specs.Int.Bits.{bit_or}
use Rattle.basics.specs.Bits.{bit}
use Rattle.picture.specs.declared.Depth.TheVariants.{OneBit}
use Rattle.picture.specs.Points.{column_byte, place}

unfoldable pub point_of : List ℕ → ℕ → ℕ
point_of l x = bit (get_or l (column_byte OneBit x) 0) (place x)

-- eight points from d points past the first of byte a, which byte b follows
unfoldable pub shifted_of : ℕ → ℕ → ℕ → ℕ
shifted_of a b d = bit_or (a * 2 ^ d % 2 ^ 8) (b / 2 ^ (8 - d))

-- eight points of l from d points past those of byte i
unfoldable pub eight_from : List ℕ → ℕ → ℕ → ℕ
eight_from l i d = shifted_of (get_or l i 0) (get_or l (i + 1) 0) d
