-- Invariant: j has the root of i.
-- What falls: j itself, since what is under it is less.
use Rattle.regions.specs.Steps.Union.{root_of}
use mathlib.Core.Path.{◌≡◌}
use Prim.Native.Nat.{◌≤◌}
use Rattle.labels.proofs.root.Given as goal

abbrev pub invariant-loop-j : goal.invariant-loop-j
invariant-loop-j l = (l.j ≤ l.i) × (root_of l.up l.j ≡ root_of l.up l.i)

abbrev pub decreases-loop-j : goal.decreases-loop-j
decreases-loop-j l = l.j
