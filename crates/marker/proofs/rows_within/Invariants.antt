-- Invariant: the rows before y are within.
-- What falls: the rows that are left; one that is not within ends the loop.
use Rattle.marker.specs.Steps.Bytes.{row_within}
use Rattle.basics.specs.Tests.{all}
use Prim.Native.Nat.{◌*◌, ◌≤◌}
use mathlib.Core.Bool.{true}
use mathlib.Core.Path.{◌≡◌}
use Rattle.marker.proofs.rows_within.Given as goal

abbrev pub invariant-loop-y : goal.invariant-loop-y
invariant-loop-y l = (l.y ≤ l.h) × (all (λ j. row_within l.a l.b (j * l.n) l.n l.u) l.y ≡ true)
