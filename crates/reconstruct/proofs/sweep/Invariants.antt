-- Invariant: the rows that the first i steps come to were visited, and nothing else.
-- What falls: the rows that are left.
use Rattle.reconstruct.specs.Steps.Visits.{Visit, SweptTo}
use Prim.Native.Nat.{◌≤◌}
use Rattle.reconstruct.proofs.sweep.Given as goal

abbrev pub invariant-loop-i : goal.invariant-loop-i
invariant-loop-i l = (l.i ≤ l.r.h) × Visit l.r l.mask l.initial.t l.t l.changed (SweptTo l.r l.up l.i)
