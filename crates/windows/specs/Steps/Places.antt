-- What stands at several places of a packed row, joined into another.
use Rattle.std.specs.Prelude.{ℕ, ◌+◌, ◌/◌, ◌%◌, ◌≤◌, ◌<◌, Bool, cond, List, eqb, get_or, length}
use Rattle.basics.specs.Lists.{firsts}
use Rattle.blocks.specs.Steps.Joins.{join_packed}
use Rattle.blocks.specs.Steps.Laid.{laid}
use Rattle.blocks.specs.Steps.Points.{eight_from}
use Rattle.morphology.specs.Operations.{fold}
use Rattle.rows.specs.Steps.Fold.{start_by}

-- eight points from p points past those of byte i
unfoldable pub eight_at : List ℕ → ℕ → ℕ → ℕ
eight_at b i p = cond (eqb (p % 8) 0) (get_or b (i + p / 8) 0) (eight_from b (i + p / 8) (p % 8))

unfoldable pub place_joined : Bool → List ℕ → List ℕ → ℕ → ℕ → List ℕ
place_joined grows c b i p = firsts (λ m. join_packed grows (get_or c m 0) (eight_at b (i + m) p)) 64

-- byte i, at the first k of the places `at`, joined into v
unfoldable pub byte_joined : Bool → ℕ → List ℕ → ℕ → List ℕ → ℕ → ℕ
byte_joined grows v b i at k = fold (join_packed grows) v (λ j. eight_at b i (get_or at j 0)) k

unfoldable pub places_joined : Bool → List ℕ → List ℕ → ℕ → List ℕ → ℕ → List ℕ
places_joined grows c b i at k = firsts (λ m. byte_joined grows (get_or c m 0) b (i + m) at k) 64

-- what stands at all places from byte i on
unfoldable pub gathered_at : Bool → List ℕ → List ℕ → ℕ → ℕ
gathered_at grows at b i = byte_joined grows (start_by grows 255) b i at (length at)

-- the blocks that n bytes take
abbrev pub blocks_of : ℕ → ℕ
blocks_of n = (n + 63) / 64

-- the bytes of t, each joined with what stands at all places
unfoldable pub joined_row : Bool → List ℕ → List ℕ → List ℕ → List ℕ
joined_row grows b at t = laid 0 (length t) (λ m. byte_joined grows (get_or t m 0) b m at (length at)) t

-- n bytes from each place on lie within room
abbrev pub Reached : List ℕ → ℕ → ℕ → Type 0
Reached at n room = (j : ℕ) → j < length at → get_or at j 0 / 8 + n ≤ room
