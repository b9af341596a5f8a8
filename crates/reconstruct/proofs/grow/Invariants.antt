-- Invariant: points were gained, inside whatever no step leads out of.
-- What falls: the missing points, since a sweep after which another comes gained one.
use Rattle.reconstruct.proofs.Missing.{missing}
use Rattle.reconstruct.specs.Steps.Visits.{Grew}
use Prim.Native.Nat.{◌≤◌}
use Rattle.reconstruct.proofs.grow.Given as goal

abbrev pub invariant-loop-r : goal.invariant-loop-r
invariant-loop-r l = (l.k ≤ 18) × Grew l.r l.mask l.initial.t l.t

abbrev pub decreases-loop-r : goal.decreases-loop-r
decreases-loop-r l = missing l.r l.t
