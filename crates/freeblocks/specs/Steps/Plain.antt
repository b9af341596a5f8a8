-- Rows joined with what cells find where nothing holds a value at the end.
use Rattle.std.specs.Prelude.{ℕ, ◌+◌, ◌-◌, ◌*◌, ◌/◌, ◌%◌, ◌≤◌, ◌<◌, min, Bool, true, false, not}
use Rattle.std.specs.Prelude.{List, leb, get_or, length}
use Rattle.basics.specs.Lists.{firsts}
use Rattle.morphology.specs.Operations.{fold}
use Rattle.rows.specs.Steps.Fold.{join_by}

abbrev pub plain_by : Bool → ℕ → ℕ → ℕ
plain_by true g v = min 255 (v + g)
plain_by false g v = v - g

-- two blocks with what one cell finds from the place `at` on
unfoldable pub plain_block : Bool → Bool → List ℕ → List ℕ → ℕ → ℕ → List ℕ
plain_block grows up a b at g =
    firsts (λ i. join_by grows (get_or a i 0) (plain_by up g (get_or b (at + i) 0))) 128

-- what the cell k finds m past its place
abbrev pub plain_found : Bool → List ℕ → ℕ → ℕ → ℕ
plain_found up b m k = plain_by up (k % 256) (get_or b (m + k / 256) 0)

-- the value v, and what each of the first n cells finds
unfoldable pub plain_cells : Bool → Bool → ℕ → List ℕ → ℕ → List ℕ → ℕ → ℕ
plain_cells grows up v b m cells n = fold (join_by grows) v (λ j. plain_found up b m (get_or cells j 0)) n

-- the cells that raise, then those that do not
unfoldable pub plain_both : Bool → ℕ → List ℕ → ℕ → List ℕ → List ℕ → ℕ
plain_both grows v b m rising others =
    plain_cells grows (not grows) (plain_cells grows grows v b m rising (length rising)) b m others
    (length others)

-- how far a value is from the end that has to be held: 0 in a dilation, 255 in an erosion
abbrev pub turned_by : Bool → ℕ → ℕ
turned_by true v = v
turned_by false v = 255 - v

-- no value of two blocks is nearer to that end than the limit
abbrev pub Far : Bool → List ℕ → ℕ → Type 0
Far grows c limit = (m : ℕ) → m < 128 → limit ≤ turned_by grows (get_or c m 0)

-- no value of n pairs of blocks is nearer to that end than 128, above the size of any height that raises
abbrev pub Sure : Bool → ℕ → List ℕ → Type 0
Sure grows n t = (m : ℕ) → m < 128 * n → 128 ≤ turned_by grows (get_or t m 0)

-- how near the first n values come to it, and whether n pairs of blocks, all that t has, are sure
unfoldable pub least_of : Bool → List ℕ → ℕ → ℕ
least_of grows t n = fold min 255 (λ i. turned_by grows (get_or t i 0)) n

unfoldable pub sure_of : Bool → List ℕ → Bool
sure_of grows t = leb 128 (least_of grows t (128 * (length t / 128)))

-- the size of each cell is below the limit
abbrev pub Under : List ℕ → ℕ → Type 0
Under cells limit = (j : ℕ) → j < length cells → get_or cells j 0 % 256 < limit
