-- How a picture's bytes are copied: byte by byte, the spare low bits of each row's last byte to 0.
use Rattle.std.specs.Prelude.{ℕ, ◌+◌, ◌-◌, ◌*◌, ◌/◌, ◌^◌, Bool, true, false, cond, List, ◌++◌, eqb}
use Rattle.std.specs.Prelude.{get_or, drop}
use Rattle.basics.specs.Lists.{firsts, joined}
use Rattle.picture.specs.declared.Face.{Face}
use Rattle.picture.specs.declared.Face.TheVariants.{AsIs, TurnedOver}

abbrev pub over_of : Face → Bool
over_of AsIs = false
over_of TurnedOver = true

-- a byte as it is or turned over, its u low bits 0
unfoldable pub cleared_byte : Bool → ℕ → ℕ → ℕ
cleared_byte over b u = cond over (255 - b) b / 2 ^ u * 2 ^ u

-- the spare bits of byte i of a row of n bytes
abbrev pub spare_at : ℕ → ℕ → ℕ → ℕ
spare_at i n u = cond (eqb (i + 1) n) u 0

-- byte i of the row of n bytes from the place `at` on
unfoldable pub cleared_at : Bool → List ℕ → ℕ → ℕ → ℕ → ℕ → ℕ
cleared_at over s at n u i = cleared_byte over (get_or s (at + i) 0) (spare_at i n u)

-- row y, of rows of n bytes
unfoldable pub cleared_row : Bool → List ℕ → ℕ → ℕ → ℕ → List ℕ
cleared_row over s n u y = firsts (cleared_at over s (y * n) n u) n

-- h rows, over the first bytes of t
unfoldable pub cleared_rows : Bool → List ℕ → ℕ → ℕ → ℕ → List ℕ → List ℕ
cleared_rows over s n u h t = joined (cleared_row over s n u) h ++ drop (h * n) t
