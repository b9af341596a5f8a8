-- Invariant: the first y rows are there.
-- What falls: the rows that are left.
use Prim.Native.Nat.{ℕ, ◌-◌, ◌≤◌}
use mathlib.Core.Path.{◌≡◌}
use mathlib.Core.List.{◌++◌}
use lib.ListN.{get_or, drop, replicate}
use Rattle.basics.specs.Lists.{firsts}
use Rattle.covering.specs.Quarter.{quarter_row}
use Rattle.covering.proofs.quarter.Given as goal

abbrev pub invariant-loop-y : goal.invariant-loop-y
invariant-loop-y l =
    (l.y ≤ 64) × (l.part ≡ firsts (λ i. quarter_row (get_or l.rows i 0) i l.column l.row l.right l.lower) l.y
    ++ drop l.y
    (replicate {A = ℕ} 64 0))
