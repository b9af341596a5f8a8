-- Words for what a listing has: how often a region comes, what comes after what, and the sum of its counts.
use Rattle.std.specs.Prelude.{ℕ, ◌+◌, ◌≤◌, ◌≡◌, cond, List, [], ◌∷◌, ◌++◌, eqb}
use Rattle.regions.specs.Listing.{parent_of}

-- how often c comes in a list
unfoldable pub times : ℕ → List ℕ → ℕ
times c [] = 0
times c (x ∷ l) = cond (eqb c x) 1 0 + times c l

-- p comes in the list, and c comes after it
pub record After (p c : ℕ) (l : List ℕ) : Type 0 where
  pub front : List ℕ
  pub rest : List ℕ
  pub split : l ≡ front ++ (p ∷ rest)
  pub later : times c rest ≡ 0 → ⊥

-- the sum of every second number of a list
unfoldable pub seconds_sum : List ℕ → ℕ
seconds_sum [] = 0
seconds_sum (a ∷ []) = 0
seconds_sum (a ∷ b ∷ l) = b + seconds_sum l

-- the regions come in this order: each once and nothing else, and each after its parent
pub record EachOnce (w n : ℕ) (R : ℕ → ℕ) (regions : List ℕ) : Type 0 where
  pub once : (c : ℕ) → c ≤ n → R c ≡ c → times c regions ≡ 1
  pub only : (c : ℕ) → (c ≤ n → R c ≡ c → ⊥) → (c ≡ 0 → ⊥) → times c regions ≡ 0
  pub after : (c : ℕ) → 1 ≤ c → c ≤ n → R c ≡ c → After (parent_of R w c) c regions
