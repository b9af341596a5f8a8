-- What becomes of a list by another that lies beside it.
use Rattle.std.specs.Prelude.{ℕ, List, [], ◌∷◌}

-- f of each element with the one beside it; what has none beside it stays
unfoldable pub zip_in : (ℕ → ℕ → ℕ) → List ℕ → List ℕ → List ℕ
zip_in f [] bs = []
zip_in f (a ∷ xs) [] = a ∷ xs
zip_in f (a ∷ xs) (b ∷ bs) = f a b ∷ zip_in f xs bs
