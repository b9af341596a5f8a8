-- Invariant: e is the extent with the first c cells of the row.
-- What falls: the cells that are left.
use Prim.Native.Nat.{◌≤◌}
use mathlib.Core.Path.{◌≡◌}
use Rattle.hulls.specs.Extent.{row_extent}
use Rattle.hulls.proofs.grow_row.Given as goal

abbrev pub invariant-loop-c : goal.invariant-loop-c
invariant-loop-c l = (l.c ≤ l.w) × (l.e ≡ row_extent l.initial.e l.word l.row l.c)
