-- One cell of a row: what is around it, the mask's points in it, and what it becomes.
use Rattle.std.specs.Prelude.{ℕ, ◌+◌, ◌-◌, ◌*◌, ◌/◌, ◌^◌, ◌≤◌, ◌<◌, cond, List, eqb, ltb}
use borrow.Rule.Slice.PartMut.{put_mid}
use Rattle.std.specs.Int.Bits.{bit_or}
use Rattle.basics.specs.Lists.{firsts}
use Rattle.picture.specs.Frame.{most_bins}
use Rattle.settle.specs.declared.Cell.{Cell}
use Rattle.settle.specs.Steps.Words.{word_of, across_of, spread_of, flooded, byte_of}

-- the cell lies in a row of a picture of h rows that is within the first m bytes
pub record Fits (c : Cell) (m : ℕ) : Type 0 where
  pub few_bytes : c.n ≤ 128
  pub few_bins : c.h ≤ most_bins
  pub few_spare : c.u < 8
  pub in_bins : c.y < c.h
  pub some : 1 ≤ c.k
  pub few : c.k ≤ 8
  pub in_row : c.j + c.k ≤ c.n
  pub long : c.h * c.n ≤ m

unfoldable pub cell_word : Cell → List ℕ → ℕ
cell_word c l = word_of l (c.y * c.n + c.j) c.k

unfoldable pub above_of : Cell → List ℕ → ℕ
above_of c l = cond (ltb 0 c.y) (spread_of c.square l ((c.y - 1) * c.n) c.n c.j c.k) 0

unfoldable pub below_of : Cell → List ℕ → ℕ
below_of c l =
    cond (ltb (c.y + 1) c.h) (spread_of c.square l ((c.y + 1) * c.n) c.n c.j c.k) 0

-- its points that are set or have a set point beside them
unfoldable pub around_of : Cell → List ℕ → ℕ
around_of c l =
    bit_or (bit_or (across_of l (c.y * c.n) c.n c.j c.k) (above_of c l)) (below_of c l)

-- the mask's points in it, less the padding at the row's end
unfoldable pub mask_of : Cell → List ℕ → ℕ
mask_of c l = cond (eqb (c.j + c.k) c.n) (cell_word c l / 2 ^ c.u * 2 ^ c.u) (cell_word c l)

-- what it becomes
unfoldable pub grown_word : Cell → List ℕ → List ℕ → ℕ
grown_word c mask l = flooded (mask_of c mask) (around_of c l) (cell_word c l) 64

unfoldable pub settled : Cell → List ℕ → List ℕ → List ℕ
settled c mask l =
    cond (eqb (grown_word c mask l) (cell_word c l)) l
    (put_mid (c.y * c.n + c.j) c.k l (firsts (byte_of (grown_word c mask l) c.k) c.k))
