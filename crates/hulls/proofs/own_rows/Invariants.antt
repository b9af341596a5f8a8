-- Invariant: the first r rows are there.
-- What falls: the rows that are left.
use Prim.Native.Nat.{ℕ, ◌≤◌}
use mathlib.Core.Path.{◌≡◌}
use mathlib.Core.List.{◌++◌}
use lib.ListN.{drop, replicate}
use Rattle.basics.specs.Lists.{firsts}
use Rattle.hulls.specs.Hull.{own_row}
use Rattle.hulls.proofs.own_rows.Given as goal

abbrev pub invariant-loop-r : goal.invariant-loop-r
invariant-loop-r l =
    (l.r ≤ 8) × (l.rows ≡ firsts (own_row l.cells l.left l.top) l.r ++ drop l.r (replicate {A = ℕ} 8 0))
