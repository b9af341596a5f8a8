-- Invariant: the heights of the rows before y are well made.
-- A row's answer is the definition's test of it, and both pictures hold row y, which is below h.
use Rattle.element.specs.Descriptor.{heights_made_in}
use Rattle.basics.specs.Tests.{all}
use mathlib.Core.Bool.{true}
use mathlib.Core.Path.{◌≡◌}
use Rattle.heights.proofs.heights_made.Given as goal

abbrev pub invariant-loop-y : goal.invariant-loop-y
invariant-loop-y l = all (heights_made_in l.cells l.heights l.w) l.y ≡ true
