-- Invariant: e is the extent of the first r rows.
-- What falls: the rows that are left.
use Prim.Native.Nat.{◌≤◌}
use mathlib.Core.Path.{◌≡◌}
use Rattle.hulls.specs.Extent.{extent_of}
use Rattle.hulls.proofs.extent_of.Given as goal

abbrev pub invariant-loop-r : goal.invariant-loop-r
invariant-loop-r l = (l.r ≤ l.h) × (l.e ≡ extent_of l.cells l.w l.r)
