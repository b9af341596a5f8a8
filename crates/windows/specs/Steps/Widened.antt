-- Windows of a packed row, byte by byte.
use Rattle.std.specs.Prelude.{ℕ, ◌+◌, ◌*◌, Bool, cond, List, leb, get_or}
use Rattle.blocks.specs.Steps.Joins.{join_packed}
use Rattle.blocks.specs.Steps.Laid.{laid}
use Rattle.blocks.specs.Steps.Points.{eight_from}

-- eight windows of 4 points, from those of byte i on; and eight of 16, where the points are windows of 4
unfoldable pub widen1_at : Bool → List ℕ → ℕ → ℕ
widen1_at grows l i =
    join_packed grows (join_packed grows (join_packed grows (get_or l i 0) (eight_from l i 1))
    (eight_from l i 2))
    (eight_from l i 3)

unfoldable pub widen4_at : Bool → List ℕ → ℕ → ℕ
widen4_at grows l i =
    join_packed grows (join_packed grows (join_packed grows (get_or l i 0) (eight_from l i 4))
    (get_or l (i + 1) 0))
    (eight_from l (i + 1) 4)

-- the one, or, again, the other
abbrev pub widen_by : Bool → Bool → List ℕ → ℕ → ℕ
widen_by grows again b i = cond again (widen4_at grows b i) (widen1_at grows b i)

-- in the first n blocks, each byte by what W makes of the list from there on
unfoldable pub widened_by : (List ℕ → ℕ → ℕ) → ℕ → List ℕ → List ℕ
widened_by W n b = laid 0 (64 * n) (W b) b

unfoldable pub windows_of : Bool → ℕ → ℕ → List ℕ → List ℕ
windows_of grows n m b =
    cond (leb m 1) b (cond (leb m 4) (widened_by (widen1_at grows) n b)
    (widened_by (widen4_at grows) n (widened_by (widen1_at grows) n b)))
