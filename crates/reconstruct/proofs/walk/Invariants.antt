-- Invariant: points were gained, inside whatever no step leads out of.
-- What falls: twice the missing points and the rows left: a row that changed gained a point and costs a row.
use Rattle.reconstruct.proofs.Missing.{missing}
use Rattle.reconstruct.specs.Steps.Visits.{Grew}
use Prim.Native.Nat.{◌≤◌, ◌-◌, ◌+◌, ◌*◌}
use Rattle.reconstruct.proofs.walk.Given as goal

abbrev pub invariant-loop-y : goal.invariant-loop-y
invariant-loop-y l = (l.y ≤ l.r.h) × Grew l.r l.mask l.initial.t l.t

abbrev pub decreases-loop-y : goal.decreases-loop-y
decreases-loop-y l = 2 * missing l.r l.t + (l.r.h - l.y)
