-- Invariant: the bytes before i are those of the row with its padding cleared, the others as they were.
-- A byte of the row is written once.
use Rattle.copies.specs.Steps.Copy.{over_of, cleared_at}
use Rattle.basics.specs.Lists.{firsts}
use lib.ListN.{length, drop}
use Prim.Native.Nat.{◌≤◌}
use mathlib.Core.List.{◌++◌}
use mathlib.Core.Path.{◌≡◌}
use Rattle.copies.proofs.copy_row.Given as goal

abbrev pub invariant-loop-i : goal.invariant-loop-i
invariant-loop-i l =
    (l.i ≤ l.n) × (length l.t ≡ length l.initial.t)
    × (l.t ≡ firsts (cleared_at (over_of l.face) l.s l.at l.n l.u) l.i ++ drop l.i l.initial.t)
