-- Rows of n bytes joined byte by byte.
use Rattle.std.specs.Prelude.{ℕ, ◌+◌, ◌*◌, ◌≤◌, ◌≡◌, Bool, List, get_or}
use Rattle.morphology.specs.Operations.{fold}
use Rattle.rows.specs.Steps.Fold.{start_by}
use Rattle.joins.specs.Steps.Joins.{join_at}

-- byte i of the rows lo, lo + 1, .., lo + count - 1
unfoldable pub down_at : Bool → Bool → List ℕ → ℕ → ℕ → ℕ → ℕ → ℕ
down_at packed grows s n lo count i =
    fold (join_at packed grows) (start_by grows 255) (λ v. get_or s ((lo + v) * n + i) 0) count

-- and of one row more
unfoldable pub also_at : Bool → Bool → List ℕ → ℕ → ℕ → ℕ → ℕ → ℕ → ℕ
also_at packed grows s n lo count row i =
    join_at packed grows (down_at packed grows s n lo count i) (get_or s (row * n + i) 0)

-- the rows that two rows of n bytes are made of lie in ns bytes
pub record Pair (ns n nz first lo count last : ℕ) : Type 0 where
  pub same : nz ≡ n
  pub common : (lo + count) * n ≤ ns
  pub one : first * n + n ≤ ns
  pub other : last * n + n ≤ ns

-- and m bytes from where each of them begins
pub record Inside (ns n m first lo count last : ℕ) : Type 0 where
  pub common : (lo + count) * n + m ≤ ns + n
  pub one : first * n + m ≤ ns
  pub other : last * n + m ≤ ns
