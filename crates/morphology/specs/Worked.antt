-- Document 01, "Worked pictures": P1 to P15 as one table. proofs/Worked.antt has its one proof.
-- A one-bit picture is written as one number in binary, a row after another; 8-bit values as a list.
use Rattle.std.specs.Prelude.{ℕ, ◌+◌, ◌-◌, ◌*◌, ◌^◌, Bool, true, false, ◌&&◌, List, [], ◌∷◌, eqb, ℤ, pos}
use Rattle.std.specs.Prelude.{get_or}
use Rattle.std.proofs.Math.IntN.{sub_ℕ}
use Rattle.std.specs.Int.Signed.{le_z}
use Rattle.answer.specs.Answer.{centre}
use Rattle.basics.specs.Bits.{bit, on}
use Rattle.basics.specs.Tests.{all}
use Rattle.picture.specs.Frame.{Frame, frame}
use Rattle.picture.specs.Bytes.{Picture}
use Rattle.element.specs.Shape.{Shape}
use Rattle.morphology.specs.Operations.{erode, dilate, opening, closing, hit_miss}
use Rattle.morphology.specs.Check.{Verdict, Taken, Split, check_of}

-- ---- frames, pictures, elements and offsets as the rows write them

-- the digits of n, the highest first
abbrev pub bits : Frame → ℕ → Picture
bits F n x y = bit n (F.pings * F.bins - 1 - (y * F.pings + x))

abbrev pub bytes : Frame → List ℕ → Picture
bytes F l x y = get_or l (y * F.pings + x) 0

-- a flat element: width, height, origin column, origin row, and its cells as digits, as in a descriptor
abbrev pub cells : ℕ → ℕ → ℕ → ℕ → ℕ → Shape
cells w h column row n =
    record {
      wide = w;
      high = h;
      origin_column = column;
      origin_row = row;
      has = λ c r. on n (w * h - 1 - (r * w + c));
      height = λ c r. 0;
    }

-- dx from -back to forth
abbrev pub span : ℕ → ℕ → Shape
span back forth = cells (back + 1 + forth) 1 back 0 (2 ^ (back + 1 + forth) - 1)

abbrev pub minus : ℕ → ℤ
minus n = sub_ℕ 0 n

-- ---- a row of the table

-- in the frame the first picture is the second;
-- the check accepts the element and its links, or splits them at the offset
pub data Row : Type 0 where
  gives : Frame → Picture → Picture → Row
  accepts : Shape → List Shape → Row
  splits : Shape → List Shape → ℤ → ℤ → Row

unfoldable pub same_in : Frame → Picture → Picture → Bool
same_in F A R = all (λ y. all (λ x. eqb (A x y) (R x y)) F.pings) F.bins

abbrev pub same_z : ℤ → ℤ → Bool
same_z s t = le_z s t && le_z t s

unfoldable pub taken_by : Verdict → Bool
taken_by Taken = true
taken_by (Split x y) = false

unfoldable pub split_by : Verdict → ℤ → ℤ → Bool
split_by Taken u v = false
split_by (Split x y) u v = same_z (sub_ℕ x centre) u && same_z (sub_ℕ y centre) v

unfoldable pub right : Row → Bool
right (gives F A R) = same_in F A R
right (accepts E Bs) = taken_by (check_of E Bs)
right (splits E Bs u v) = split_by (check_of E Bs) u v

unfoldable pub every : List Row → Bool
every [] = true
every (p ∷ ps) = right p && every ps

-- ---- the rows

abbrev pub seven : Frame
seven = frame 7 1

abbrev pub three : Frame
three = frame 3 1

abbrev pub square : Frame
square = frame 3 3

abbrev pub five : Frame
five = frame 5 1

-- T = dx -2, -1, 0 and L = dx 0, 1, 2
abbrev pub T₃ : Shape
T₃ = span 2 0

abbrev pub L₃ : Shape
L₃ = span 0 2

abbrev pub empty : Shape
empty = cells 1 1 0 0 0b0

-- one offset alone: dx 1, -1, -2
abbrev pub next : Shape
next = cells 2 1 0 0 0b01

abbrev pub last : Shape
last = cells 2 1 1 0 0b10

abbrev pub last_but_one : Shape
last_but_one = cells 3 1 2 0 0b100

-- P7 is said of any picture
unfoldable pub table : Picture → List Row
table A =
    -- P1
    gives seven (erode 1 seven T₃ (bits seven 0b0111110)) (bits seven 0b0001110)
    -- P2
    ∷ gives seven (dilate seven T₃ (bits seven 0b0001110)) (bits seven 0b0111110)
    -- P3
    ∷ gives seven (opening 1 seven T₃ (bits seven 0b0110000)) (bits seven 0b0000000)
    -- P4
    ∷ gives seven (opening 1 seven T₃ (bits seven 0b1100000)) (bits seven 0b1100000)
    -- P5
    ∷ gives seven (opening 1 seven T₃ (bits seven 0b0000011)) (bits seven 0b0000000)
    ∷ gives seven (opening 1 seven L₃ (bits seven 0b0000011)) (bits seven 0b0000011)
    -- P6
    ∷ gives seven (closing 1 seven L₃ (bits seven 0b0110110)) (bits seven 0b0111111)
    -- P7
    ∷ gives seven (erode 1 seven empty A) (bits seven 0b1111111)
    ∷ gives seven (dilate seven empty A) (bits seven 0b0000000)
    -- P8
    ∷ gives three (erode 255 three (span 1 0) (bytes three (10 ∷ 200 ∷ 30 ∷ [])))
    (bytes three (10 ∷ 10 ∷ 30 ∷ []))
    -- P9
    ∷ gives three (dilate three next (bytes three (10 ∷ 200 ∷ 30 ∷ []))) (bytes three (0 ∷ 10 ∷ 200 ∷ []))
    -- P10
    ∷ gives square (dilate square (cells 2 2 0 0 0b10_11) (bits square 0b000_010_000))
    (bits square 0b000_010_011)
    -- P11
    ∷ gives five (hit_miss five (span 0 0) next (bits five 0b01101)) (bits five 0b00101)
    -- P12
    ∷ accepts (span 1 1) (span 1 0 ∷ span 0 1 ∷ [])
    -- P13
    ∷ splits (span 0 0) (next ∷ last ∷ []) (pos 0) (pos 0)
    -- P14
    ∷ splits (span 2 3) (last_but_one ∷ span 0 5 ∷ []) (minus 1) (pos 0)
    -- P15
    ∷ splits (span 0 2) (span 0 1 ∷ cells 3 1 0 0 0b101 ∷ []) (pos 3) (pos 0)
    ∷ []
