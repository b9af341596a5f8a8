-- Invariant: acc is the sum by the first k cells of the link.
-- What falls: the cells that are left.
use Prim.Native.Nat.{◌-◌, ◌≤◌}
use mathlib.Core.Path.{◌≡◌}
use Rattle.covering.specs.Cover.{sum_row}
use Rattle.covering.proofs.sum_row.Given as goal

abbrev pub invariant-loop-k : goal.invariant-loop-k
invariant-loop-k l = (l.k ≤ 64) × (l.acc ≡ sum_row l.rest l.link l.a l.y l.k)
