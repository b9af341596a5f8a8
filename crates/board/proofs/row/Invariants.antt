-- Invariant: a is what the first r rows of the link give in row y.
-- What falls: the rows that are left.
use Rattle.reach.specs.Steps.Words.{row_of}
use mathlib.Core.Path.{◌≡◌}
use Prim.Native.Nat.{◌≤◌, ◌-◌}
use Rattle.board.proofs.row.Given as goal

abbrev pub invariant-loop-r : goal.invariant-loop-r
invariant-loop-r l = (l.r ≤ l.h) × (l.a ≡ row_of l.board l.cells l.w l.y.0 l.r)
