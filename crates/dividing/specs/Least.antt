-- The first number that passes.
use Rattle.std.specs.Prelude.{ℕ, zero, suc, Bool, cond, Option, Some, None, ltb}

-- the first of n numbers from i on that passes, or else the one after them
unfoldable pub least_from : (ℕ → Bool) → ℕ → ℕ → ℕ
least_from p i zero = i
least_from p i (suc n) = cond (p i) i (least_from p (suc i) n)

-- a number below an end, or none
unfoldable pub below : ℕ → ℕ → Option ℕ
below end n = cond (ltb n end) (Some n) None
