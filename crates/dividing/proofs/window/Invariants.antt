-- Invariant: v is the first r rows.
-- What falls: the rows that are left.
use Prim.Native.Nat.{◌≤◌}
use mathlib.Core.Path.{◌≡◌}
use Rattle.dividing.specs.Board.{window}
use Rattle.dividing.proofs.window.Given as goal

abbrev pub invariant-loop-r : goal.invariant-loop-r
invariant-loop-r l = (l.r ≤ 8) × (l.v ≡ window l.rows l.x l.y l.r)
