-- Invariant: the first k cells of the link lie on set cells.
-- What falls: the cells that are left.
use Prim.Native.Nat.{◌≤◌}
use mathlib.Core.Path.{◌≡◌}
use Rattle.dividing.specs.Divide.{rest_row}
use Rattle.dividing.proofs.rest_row.Given as goal

abbrev pub invariant-loop-k : goal.invariant-loop-k
invariant-loop-k l = (l.k ≤ 64) × (l.acc ≡ rest_row l.rows l.link l.a l.y l.k)
