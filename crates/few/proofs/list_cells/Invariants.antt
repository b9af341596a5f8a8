-- Invariant: the cells of the first r rows are listed. What falls: the rows left.
-- Past 16 nothing is said of the list: `too_many`.
use Rattle.few.specs.Steps.Listed.{cells_in, Counted, Rowed}
use Prim.Native.Nat.{◌-◌, ◌≤◌}
use Rattle.few.proofs.list_cells.Given as goal

abbrev pub invariant-loop-r : goal.invariant-loop-r
invariant-loop-r l =
    (l.r ≤ l.o.h) × (Rowed l.grows l.w l.o l.words l.r l.n l.at × Counted l.n 0
    (cells_in l.words l.o.w l.r))
