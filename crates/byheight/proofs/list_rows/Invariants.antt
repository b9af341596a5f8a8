-- Invariant: the first i rows from `from` on are listed. What falls: the rows left.
-- The row's cells stand after those of the rows before, which stay: `side_more`, for either side.
use Rattle.byheight.specs.Steps.Listed.{Listed}
use Prim.Native.Nat.{◌-◌, ◌≤◌}
use Rattle.byheight.proofs.list_rows.Given as goal

abbrev pub invariant-loop-i : goal.invariant-loop-i
invariant-loop-i l =
    (l.i ≤ l.n) × Listed l.grows l.o l.words l.hs l.from l.i l.rising l.others l.ups l.downs
