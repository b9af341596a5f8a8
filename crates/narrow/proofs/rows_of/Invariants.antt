-- Invariant: v has 0 exactly where the rows before i have no point. Falls: the rows left.
-- One row more each turn: `rows_more`.
use Prim.Native.Nat.{◌≤◌}
use Rattle.narrow.specs.Steps.Strip.{OffWhere}
use Rattle.narrow.specs.Steps.Row.{NoRow}
use Rattle.narrow.proofs.rows_of.Given as goal

abbrev pub invariant-loop-i : goal.invariant-loop-i
invariant-loop-i l =
    (l.from ≤ l.i) × ((l.i ≤ l.end) × OffWhere l.v (NoRow l.over l.s l.w l.n l.from l.i))
