-- Invariant: none of the first r rows is of kind k. What falls: the rows left.
-- The first row that is of it settles the answer.
use Rattle.basics.specs.Tests.{all}
use Rattle.strokes.specs.Steps.Strokes.{kind_at}
use lib.Dec.{eqb}
use Prim.Native.Nat.{◌-◌, ◌≤◌}
use mathlib.Core.Bool.{true, not}
use mathlib.Core.Path.{◌≡◌}
use Rattle.strokes.proofs.lacks_kind.Given as goal

abbrev pub invariant-loop-r : goal.invariant-loop-r
invariant-loop-r l = (l.r ≤ l.o.h) × (all (λ r. not (eqb (kind_at l.o l.words r) l.k)) l.r ≡ true)
