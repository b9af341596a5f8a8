-- Invariant: none of the first c cells has a shared offset. What falls: the cells left.
-- The first that has one ends the search.
use Rattle.basics.specs.Tests.{any}
use Rattle.overlap.specs.Steps.Shared.{cell_shared}
use Prim.Native.Nat.{◌≤◌, ◌-◌}
use mathlib.Core.Path.{◌≡◌}
use mathlib.Core.Bool.{false}
use Rattle.overlap.proofs.row_shared.Given as goal

abbrev pub invariant-loop-c : goal.invariant-loop-c
invariant-loop-c l = (l.c ≤ l.first.w) × (any (cell_shared l.word l.beside l.first l.second) l.c ≡ false)
