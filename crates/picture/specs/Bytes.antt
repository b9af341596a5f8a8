-- The bytes of a picture that is given by its points, padding 0; and the test that the padding of bytes is 0.
use Rattle.std.specs.Prelude.{ℕ, ◌+◌, ◌-◌, ◌*◌, ◌%◌, ◌^◌, Bool, cond, List, ◌++◌, eqb, ltb, get_or, drop}
use Rattle.basics.specs.Lists.{firsts, joined}
use Rattle.basics.specs.Bits.{digits}
use Rattle.basics.specs.Tests.{all}
use Rattle.picture.specs.declared.Depth.{Depth}
use Rattle.picture.specs.declared.Depth.TheVariants.{OneBit, EightBit}
use Rattle.picture.specs.declared.Face.{Face}
use Rattle.picture.specs.declared.Face.TheVariants.{AsIs, TurnedOver}
use Rattle.picture.specs.Frame.{top, row_bytes, picture_bytes, spare_bits}
use Rattle.picture.specs.Points.{value_at}

-- a picture gives the value at a column and a row
abbrev pub Picture : Type 0
Picture = ℕ → ℕ → ℕ

-- byte i of the row whose column x has the value f x
unfoldable pub row_byte : Depth → (ℕ → ℕ) → ℕ → ℕ → ℕ
row_byte OneBit f w i = digits 1 (λ k. cond (ltb (i * 8 + k) w) (f (i * 8 + k)) 0) 8
row_byte EightBit f w i = f i

-- that row
unfoldable pub row_of : Depth → (ℕ → ℕ) → ℕ → List ℕ
row_of depth f w = firsts (row_byte depth f w) (row_bytes depth w)

-- the rows of the picture A, one after another
unfoldable pub bytes_of : Depth → Picture → ℕ → ℕ → List ℕ
bytes_of depth A w h = joined (λ y. row_of depth (λ x. A x y) w) h

-- the bytes t once the picture A is written to them: the further bytes stay
unfoldable pub written : Depth → Picture → ℕ → ℕ → List ℕ → List ℕ
written depth A w h t = bytes_of depth A w h ++ drop (picture_bytes depth w h) t

-- a value as it is, or turned over: an echo for none and none for an echo
abbrev pub turned : Face → ℕ → ℕ → ℕ
turned AsIs most v = v
turned TurnedOver most v = most - v

-- the picture in the bytes s, as it is or turned over
unfoldable pub faced : Depth → Face → List ℕ → ℕ → Picture
faced depth face s w x y = turned face (top depth) (value_at depth s w x y)

-- the last byte of row y, of rows of n bytes, is a multiple of m; and so of each of h rows
abbrev pub last_clear : List ℕ → ℕ → ℕ → ℕ → Bool
last_clear s n m y = eqb (get_or s (y * n + (n - 1)) 0 % m) 0

unfoldable pub lasts_clear : List ℕ → ℕ → ℕ → ℕ → Bool
lasts_clear s n m h = all (last_clear s n m) h

-- the padding of H rows of W pings is 0: the unused low bits of each row's last byte
unfoldable pub padding_clear : Depth → List ℕ → ℕ → ℕ → Bool
padding_clear depth s w h = lasts_clear s (row_bytes depth w) (2 ^ spare_bits depth w) h
