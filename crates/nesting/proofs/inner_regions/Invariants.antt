-- Invariant: k counts the first nodes among the first i.
-- What falls: the points that are left.
use Rattle.regions.specs.Listing.{inner_of}
use Rattle.nesting.specs.Steps.Tree.{at}
use lib.ListN.{length}
use mathlib.Core.Path.{◌≡◌}
use Prim.Native.Nat.{◌≤◌}
use Rattle.nesting.proofs.inner_regions.Given as goal

abbrev pub invariant-loop-i : goal.invariant-loop-i
invariant-loop-i l = (l.i ≤ l.n) × (l.k ≤ l.i) × (l.k ≡ length (inner_of (at l.labels) l.i))
