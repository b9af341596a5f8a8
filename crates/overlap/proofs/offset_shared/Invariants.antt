-- Invariant: none of the first r rows has a cell with a shared offset. What falls: the rows left.
-- The first that has one ends the search; cell by cell that is the definition's test.
use Rattle.basics.specs.Tests.{any}
use Rattle.overlap.specs.Steps.Shared.{line_shared}
use Prim.Native.Nat.{◌≤◌, ◌-◌}
use mathlib.Core.Path.{◌≡◌}
use mathlib.Core.Bool.{false}
use Rattle.overlap.proofs.offset_shared.Given as goal

abbrev pub invariant-loop-r : goal.invariant-loop-r
invariant-loop-r l =
    (l.r ≤ l.first.h) × (any (line_shared l.first l.words l.second l.others) l.r ≡ false)
