-- Words of 64 points: the first is the highest digit.
use Rattle.std.specs.Prelude.{ℕ, ◌+◌, ◌-◌, ◌*◌, ◌/◌, ◌%◌, ◌^◌, ◌≤◌, ◌<◌, ◌≡◌, Bool, true, false, cond}
use Rattle.std.specs.Prelude.{List, ltb, get_or}
use Rattle.std.specs.Int.Bits.{bit_or, bit_and}
use Rattle.basics.specs.Bits.{bit, digits}
use Rattle.packedline.specs.Steps.Cells.{cell_on64, run_word}
use Rattle.packedline.specs.Steps.Line.{faced_point}

-- 8 bytes from the place `at` on as one number, 0 past the end
unfoldable pub word_in : List ℕ → ℕ → ℕ
word_in s at = digits 8 (λ i. get_or s (at + i) 0) 8

-- 4 bytes of it
unfoldable pub half_in : List ℕ → ℕ → ℕ
half_in s at = digits 8 (λ i. get_or s (at + i) 0) 4

-- the first w points of v, turned over or not; the others are 0
unfoldable pub cut_of : Bool → ℕ → ℕ → ℕ
cut_of over v w = bit_and (cond over (2 ^ 64 - 1 - v) v) (run_word w)

-- byte i of v
unfoldable pub byte_of : ℕ → ℕ → ℕ
byte_of v i = v / 2 ^ (56 - 8 * i) % 256

-- 64 points from d points past the first of u, which v follows
unfoldable pub slid_of : ℕ → ℕ → ℕ → ℕ
slid_of u v d = bit_or (u * 2 ^ d % 2 ^ 64) (v / 2 / 2 ^ (63 - d))

-- point k of the bytes from the place `at` on, turned over or not; 0 from point w on
unfoldable pub row_point : Bool → List ℕ → ℕ → ℕ → ℕ → ℕ
row_point over s at w k = cond (ltb k w) (faced_point over (bit (get_or s (at + k / 8) 0) (7 - k % 8))) 0

-- the first set cell from column c on; 64 where there is none
pub record NextCell (word c r : ℕ) : Type 0 where
  pub onward : c ≤ r
  pub few : r ≤ 64
  pub none : (d : ℕ) → c ≤ d → d < r → cell_on64 word d ≡ false
  pub found : r < 64 → cell_on64 word r ≡ true
