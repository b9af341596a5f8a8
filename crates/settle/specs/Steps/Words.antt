-- Bytes of a packed row as one word, and what is set in it, beside it and around it.
use Rattle.std.specs.Prelude.{ℕ, zero, suc, ◌+◌, ◌-◌, ◌*◌, ◌/◌, ◌%◌, ◌^◌, Bool, cond, List, ltb, get_or}
use Rattle.std.specs.Int.Bits.{bit_and, bit_or}
use Rattle.basics.specs.Bits.{digits}

-- the k bytes from the place `at` on as one word, the first the highest
unfoldable pub word_of : List ℕ → ℕ → ℕ → ℕ
word_of l at k = digits 8 (λ i. get_or l (at + i) 0) k

-- the byte before byte j of the row from `at` on, 0 before its first
unfoldable pub byte_before : List ℕ → ℕ → ℕ → ℕ
byte_before l at j = cond (ltb 0 j) (get_or l (at + j - 1) 0) 0

-- byte j of the row of n bytes from `at` on, 0 past its last
unfoldable pub byte_from : List ℕ → ℕ → ℕ → ℕ → ℕ
byte_from l at n j = cond (ltb j n) (get_or l (at + j) 0) 0

-- a word v with the points right and left of its set points;
-- `before` is the point before its first, `after` the one after its last
unfoldable pub sides : ℕ → ℕ → ℕ → ℕ → ℕ
sides v before after k =
    bit_or (bit_or (bit_or (bit_or v (v / 2)) (v * 2 % 2 ^ 64)) (before * 2 ^ (8 * k - 1))) after

-- the word of k bytes from byte j on, so spread along its row
unfoldable pub across_of : List ℕ → ℕ → ℕ → ℕ → ℕ → ℕ
across_of l at n j k =
    sides (word_of l (at + j) k) (byte_before l at j % 2) (byte_from l at n (j + k) / 2 ^ 7) k

-- what a row above or below gives: aslant too with the square
unfoldable pub spread_of : Bool → List ℕ → ℕ → ℕ → ℕ → ℕ → ℕ
spread_of square l at n j k = cond square (across_of l at n j k) (word_of l (at + j) k)

-- c grown once inside the mask m, by what is around the cell and by its own points
unfoldable pub once_in : ℕ → ℕ → ℕ → ℕ
once_in m o c = bit_or c (bit_and m (bit_or (bit_or o (c / 2)) (c * 2 % 2 ^ 64)))

-- and i times
unfoldable pub flooded : ℕ → ℕ → ℕ → ℕ → ℕ
flooded m o c zero = c
flooded m o c (suc i) = once_in m o (flooded m o c i)

-- byte i of a word of k bytes
unfoldable pub byte_of : ℕ → ℕ → ℕ → ℕ
byte_of v k i = v / 2 ^ (8 * (k - 1 - i)) % 256
