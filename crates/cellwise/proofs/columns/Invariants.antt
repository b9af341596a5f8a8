-- Invariant: the columns before x are made. What falls: the columns left.
-- Each turn is one column more.
use Rattle.cellwise.specs.Steps.Made.{Across}
use Prim.Native.Nat.{◌-◌, ◌≤◌}
use Rattle.cellwise.proofs.columns.Given as goal

abbrev pub invariant-loop-x : goal.invariant-loop-x
invariant-loop-x l = (l.from ≤ l.x) × ((l.x ≤ l.to) × Across l.grows l.s l.w l.h l.o l.words l.x l.t)
