-- Invariant: the first y rows are there.
-- What falls: the rows that are left.
use Prim.Native.Nat.{ℕ, ◌≤◌}
use mathlib.Core.Path.{◌≡◌}
use mathlib.Core.List.{◌++◌}
use lib.ListN.{drop, replicate}
use Rattle.basics.specs.Lists.{firsts}
use Rattle.dividing.specs.Divide.{rest_row}
use Rattle.dividing.proofs.rest_of.Given as goal

abbrev pub invariant-loop-y : goal.invariant-loop-y
invariant-loop-y l =
    (l.y ≤ 64) × (l.rest ≡ firsts (λ i. rest_row l.rows l.link l.a i 64) l.y
    ++ drop l.y (replicate {A = ℕ} 64 0))
