-- Invariant: the rows before y are made, and those from first to last. What falls: the rows left.
-- A row by an element without heights is the flat element's: `row_made`.
use Rattle.cellwise.specs.Steps.Made.{Down}
use Prim.Native.Nat.{◌-◌, ◌≤◌}
use Rattle.cellwise.proofs.fill_rows.Given as goal

abbrev pub invariant-loop-y : goal.invariant-loop-y
invariant-loop-y l =
    (l.from ≤ l.y) × ((l.y ≤ l.to) × Down l.grows l.s l.w l.h l.o
    l.words l.first l.last l.y l.t)
