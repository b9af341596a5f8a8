-- Invariant: the heights of the columns before c are well made.
-- A column's answer is the definition's test of it (`column`), so that the first bad one settles the row.
use Rattle.element.specs.Descriptor.{height_made_at}
use Rattle.basics.specs.Tests.{all}
use mathlib.Core.Bool.{true}
use mathlib.Core.Path.{◌≡◌}
use Rattle.heights.proofs.row_heights_made.Given as goal

abbrev pub invariant-loop-c : goal.invariant-loop-c
invariant-loop-c l = all (height_made_at l.cells l.heights l.w l.row.0) l.c ≡ true
