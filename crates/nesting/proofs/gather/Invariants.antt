-- Invariant: the first k places hold the first nodes among the first i; the next place is written before it
-- is known to count.
-- What falls: the points that are left.
use Rattle.regions.specs.Listing.{inner_of}
use Rattle.nesting.specs.Steps.Tree.{at}
use lib.ListN.{length, take}
use mathlib.Core.Path.{◌≡◌}
use Prim.Native.Nat.{◌≤◌}
use Rattle.nesting.proofs.gather.Given as goal

abbrev pub invariant-loop-i : goal.invariant-loop-i
invariant-loop-i l =
    (l.i ≤ l.n) × (l.k ≤ l.i) × (length l.inner ≡ length l.initial.inner)
    × (l.k ≡ length (inner_of (at l.labels) l.i))
    × (take l.k l.inner ≡ inner_of (at l.labels) l.i)
