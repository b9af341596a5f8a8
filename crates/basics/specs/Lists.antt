-- Lists made of numbered parts.
use Rattle.std.specs.Prelude.{ℕ, zero, suc, List, [], ◌∷◌, ◌++◌}

-- f 0, f 1, .., f (n - 1)
unfoldable pub firsts : (ℕ → ℕ) → ℕ → List ℕ
firsts f zero = []
firsts f (suc n) = firsts f n ++ (f n ∷ [])

-- the lists R 0, R 1, .., R (n - 1), one after another
unfoldable pub joined : (ℕ → List ℕ) → ℕ → List ℕ
joined R zero = []
joined R (suc n) = joined R n ++ R n
