-- Invariant: the cells of the row are those listed and those of the rest m. What falls: m.
-- The first cell of the rest is set in the row word cut to its element, so it is a cell of the element.
use mathlib.Core.Path.{◌≡◌}
use mathlib.Core.Bool.{true}
use Rattle.packedline.specs.Steps.Cells.{cell_on64}
use Rattle.few.specs.Steps.Listed.{cells_in, Counted, Inner}
use lib.Count.{ones}
use Prim.Native.Nat.{ℕ, ◌+◌, ◌<◌}
use Rattle.few.proofs.list_row.Given as goal

abbrev pub invariant-loop-m : goal.invariant-loop-m
invariant-loop-m l =
    ((c : ℕ) → c < 64 → cell_on64 l.m c ≡ true
    → cell_on64 l.word c ≡ true)
    × (Inner l.grows l.w l.o l.words l.r l.m l.count l.at
    × Counted l.count (ones l.m) (cells_in l.words l.o.w (l.r + 1)))

abbrev pub decreases-loop-m : goal.decreases-loop-m
decreases-loop-m l = l.m
