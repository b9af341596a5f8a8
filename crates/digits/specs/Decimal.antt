-- A number below 10,000 in decimal, with no leading zero. Digits are their ASCII numbers.
use Rattle.std.specs.Prelude.{ℕ, ◌+◌, ◌/◌, ◌%◌, cond, List, [], ◌∷◌, ltb}

abbrev pub digit : ℕ → ℕ
digit n = 48 + n % 10

unfoldable pub decimal : ℕ → List ℕ
decimal n =
    cond (ltb n 10) (digit n ∷ [])
    (cond (ltb n 100) (digit (n / 10) ∷ digit n ∷ [])
    (cond (ltb n 1000) (digit (n / 100) ∷ digit (n / 10) ∷ digit n ∷ [])
    (digit (n / 1000) ∷ digit (n / 100) ∷ digit (n / 10) ∷ digit n ∷ [])))
