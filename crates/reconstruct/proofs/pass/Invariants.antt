-- Invariant: the cells that the first i steps come to were visited, and nothing else.
-- What falls: the cells that are left.
use Rattle.reconstruct.specs.Steps.Visits.{Visit, PassTo}
use Prim.Native.Nat.{◌≤◌}
use Rattle.reconstruct.proofs.pass.Given as goal

abbrev pub invariant-loop-i : goal.invariant-loop-i
invariant-loop-i l = (l.i ≤ l.q) × Visit l.r l.mask l.initial.t l.t l.changed (PassTo l.r l.back l.y l.i)
