-- Invariant: the first y rows are the definition's, and 0 stands in the rows after them.
-- What falls: the rows left.
-- At the end no row is left, and the mask is that of the cut.
use Rattle.reach.specs.Steps.Words.{sums, cut_row}
use Rattle.basics.specs.Lists.{firsts}
use lib.ListN.{replicate}
use mathlib.Core.List.{◌++◌}
use mathlib.Core.Path.{◌≡◌}
use Prim.Native.Nat.{◌≤◌, ◌-◌}
use Rattle.board.proofs.step.Given as goal

abbrev pub invariant-loop-y : goal.invariant-loop-y
invariant-loop-y l =
    (l.y ≤ sums) × (l.next ≡ firsts (cut_row l.board l.cells l.w l.h l.m l.cut) l.y
    ++ replicate (sums - l.y) 0)
