-- Invariant: the first r rows are the element's, and those from r on are 0 yet; the rows left fall.
-- Past the last all 8 are.
use Prim.Native.Nat.{◌-◌, ◌≤◌}
use mathlib.Core.List.{◌++◌}
use mathlib.Core.Path.{◌≡◌}
use lib.ListN.{get_or, replicate}
use Rattle.basics.specs.Lists.{firsts}
use Rattle.morphology.specs.Chain.{most_link_cells}
use Rattle.reach.proofs.first_rows.Given as goal

abbrev pub invariant-loop-r : goal.invariant-loop-r
invariant-loop-r l =
    (l.r ≤ most_link_cells)
    × (l.rows ≡ firsts (λ r. get_or l.cells r 0) l.r ++ replicate (most_link_cells - l.r) 0)
