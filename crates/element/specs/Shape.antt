-- An element as the definitions have it: its size, its origin, which cells are set, and their heights.
use Rattle.std.specs.Prelude.{ℕ, ◌^◌, Bool, cond, ltb, ℤ, pos}
use Rattle.std.proofs.Math.IntN.{sub_ℕ}

-- cells go by column, below `wide`, and row, below `high`;
-- a height is a byte, in two's complement, and 0 for a flat element
pub record Shape : Type 0 where
  pub wide : ℕ
  pub high : ℕ
  pub origin_column : ℕ
  pub origin_row : ℕ
  pub has : ℕ → ℕ → Bool
  pub height : ℕ → ℕ → ℕ

-- an offset (dx, dy): pings onward, bins down
pub record Offset : Type 0 where
  pub dx : ℤ
  pub dy : ℤ

-- what a set cell stands for: (column - origin column, row - origin row)
abbrev pub offset_of : Shape → ℕ → ℕ → Offset
offset_of B column row = record { dx = sub_ℕ column B.origin_column; dy = sub_ℕ row B.origin_row }

-- the sign of a height's byte, which alone stands for no height
abbrev pub sign_bit : ℕ
sign_bit = 128

-- the height that a byte stands for: 0 to 127 are themselves, 129 to 255 stand for -127 to -1
abbrev pub height_of : ℕ → ℤ
height_of g = cond (ltb g sign_bit) (pos g) (sub_ℕ g (2 ^ 8))
