-- The binary digits of a number.
use Rattle.std.specs.Prelude.{ℕ, zero, suc, ◌+◌, ◌*◌, ◌/◌, ◌%◌, ◌^◌, Bool, eqb}

-- the digit of weight 2 ^ k, 0 or 1
abbrev pub bit : ℕ → ℕ → ℕ
bit b k = b / 2 ^ k % 2

-- that digit is 1
abbrev pub on : ℕ → ℕ → Bool
on b k = eqb (bit b k) 1

-- n digits of m bits each as one number, the first the highest
unfoldable pub digits : ℕ → (ℕ → ℕ) → ℕ → ℕ
digits m f zero = 0
digits m f (suc n) = digits m f n * 2 ^ m + f n
