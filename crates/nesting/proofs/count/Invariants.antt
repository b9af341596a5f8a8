-- Invariant: k counts the points of the region among the first i.
-- What falls: the points that are left.
use Rattle.regions.specs.Listing.{count_of}
use Rattle.nesting.specs.Steps.Tree.{at}
use mathlib.Core.Path.{◌≡◌}
use Prim.Native.Nat.{◌≤◌}
use Rattle.nesting.proofs.count.Given as goal

abbrev pub invariant-loop-i : goal.invariant-loop-i
invariant-loop-i l = (l.i ≤ l.n) × (l.k ≡ count_of (at l.labels) l.r l.i)
