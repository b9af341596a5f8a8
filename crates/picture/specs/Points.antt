-- The points of a picture in its bytes, at either depth:
-- where a point lies, its value, and the bytes with another value there.
-- A point is a column x, its ping, and a row y, its bin.
use Rattle.std.specs.Prelude.{ℕ, ◌+◌, ◌-◌, ◌*◌, ◌/◌, ◌%◌, ◌^◌, ◌≤◌, ◌<◌, cond, List, eqb, get_or, set}
use Rattle.std.specs.Int.Bits.{bit_or, bit_and}
use Rattle.basics.specs.Bits.{bit}
use Rattle.picture.specs.declared.Depth.{Depth}
use Rattle.picture.specs.declared.Depth.TheVariants.{OneBit, EightBit}
use Rattle.picture.specs.Frame.{most_pings, row_bytes}

-- the byte of column x within its row, and the place of its bit there:
-- the first ping is the highest bit of the first byte
abbrev pub column_byte : Depth → ℕ → ℕ
column_byte OneBit x = x / 8
column_byte EightBit x = x

abbrev pub place : ℕ → ℕ
place x = 7 - x % 8

-- the byte of a point
abbrev pub byte_at : Depth → ℕ → ℕ → ℕ → ℕ
byte_at depth w x y = y * row_bytes depth w + column_byte depth x

-- the value of column x in its byte
unfoldable pub value_in : Depth → ℕ → ℕ → ℕ
value_in OneBit b x = bit b (place x)
value_in EightBit b x = b

-- the value of the point (x, y) of the picture in the bytes l
unfoldable pub value_at : Depth → List ℕ → ℕ → ℕ → ℕ → ℕ
value_at depth l w x y = value_in depth (get_or l (byte_at depth w x y) 0) x

-- the byte with the value v in column x: of one bit, 0 or else 1
unfoldable pub put_in : Depth → ℕ → ℕ → ℕ → ℕ
put_in OneBit b x v = cond (eqb v 0) (bit_and b (255 - 2 ^ place x)) (bit_or b (2 ^ place x))
put_in EightBit b x v = v

-- the bytes with the value v at the point (x, y)
unfoldable pub put_at : Depth → List ℕ → ℕ → ℕ → ℕ → ℕ → List ℕ
put_at depth l w x y v = set l (byte_at depth w x y) (put_in depth (get_or l (byte_at depth w x y) 0) x v)

-- the point (x, y) lies in a picture of W pings whose row y is within n bytes
pub record Within (depth : Depth) (n w x y : ℕ) : Type 0 where
  pub few_pings : w ≤ most_pings
  pub column : x < w
  pub row : y * row_bytes depth w + row_bytes depth w ≤ n
