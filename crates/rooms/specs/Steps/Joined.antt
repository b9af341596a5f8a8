-- Bytes at several places of a room, joined.
use Rattle.std.specs.Prelude.{ℕ, ◌+◌, ◌≤◌, ◌<◌, Bool, List, get_or, length}
use Rattle.morphology.specs.Operations.{fold}
use Rattle.rows.specs.Steps.Fold.{join_by}

-- the value v, and what stands m past each of the first k places
unfoldable pub at_places : Bool → ℕ → List ℕ → ℕ → List ℕ → ℕ → ℕ
at_places grows v b m at k = fold (join_by grows) v (λ j. get_or b (m + get_or at j 0) 0) k

-- n bytes from each place on lie within room
abbrev pub Reached : List ℕ → ℕ → ℕ → Type 0
Reached at n room = (j : ℕ) → j < length at → get_or at j 0 + n ≤ room
