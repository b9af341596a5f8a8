-- What stands at four places of a row of bytes, joined; and windows, which are that in place.
use Rattle.std.specs.Prelude.{ℕ, ◌+◌, ◌≤◌, Bool, cond, List, leb, get_or}
use Rattle.rows.specs.Steps.Fold.{join_by}
use Rattle.windows.specs.Steps.Widened.{widened_by}

unfoldable pub joined_four : Bool → List ℕ → ℕ → ℕ → ℕ → ℕ → ℕ
joined_four grows b p q r s =
    join_by grows (join_by grows (join_by grows (get_or b p 0) (get_or b q 0)) (get_or b r 0)) (get_or b s 0)

-- the window of 4 n values, where each is a window of n
unfoldable pub widen_at : Bool → ℕ → List ℕ → ℕ → ℕ
widen_at grows n b i = joined_four grows b i (i + n) (i + (n + n)) (i + (n + n + n))

-- in the first k blocks, windows of m values
unfoldable pub byte_windows : Bool → ℕ → ℕ → List ℕ → List ℕ
byte_windows grows k m b =
    cond (leb m 1) b (cond (leb m 4) (widened_by (widen_at grows 1) k b)
    (widened_by (widen_at grows 4) k (widened_by (widen_at grows 1) k b)))

-- n bytes from each of four places on lie within room
pub record Four (p q r s n room : ℕ) : Type 0 where
  pub first : p + n ≤ room
  pub second : q + n ≤ room
  pub third : r + n ≤ room
  pub fourth : s + n ≤ room
