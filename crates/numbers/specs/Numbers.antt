-- Numbers of a line, and where a line ends.
use Rattle.std.specs.Prelude.{ℕ, ◌+◌, ◌*◌, ◌%◌, ◌^◌, cond, List, [], ◌∷◌, drop, ◌==◌, nat_lt}
use Rattle.numbers.specs.declared.Found.{Found}

-- one more digit, in a word of 64 bits: of a number beyond it nothing is meant
abbrev pub more : ℕ → ℕ → ℕ
more v b = (v % 1844674407370955162 * 10 + b % 16) % 2 ^ 64

-- the digits of a line, and the byte below "0" that ends them
unfoldable pub number_in : List ℕ → ℕ → ℕ → Found
number_in [] v at = record { value = v; next = at }
number_in (b ∷ line) v at =
    cond (nat_lt b 48) (record { value = v; next = at + 1 }) (number_in line (more v b) (at + 1))

-- the number at a place, and where the next one is
unfoldable pub number_at : List ℕ → ℕ → Found
number_at line at = number_in (drop at line) 0 at

-- past the first line feed
unfoldable pub end_in : List ℕ → ℕ → ℕ
end_in [] at = at
end_in (b ∷ input) at = cond (b == 10) (at + 1) (end_in input (at + 1))

unfoldable pub line_end : List ℕ → ℕ → ℕ
line_end input at = end_in (drop at input) at
