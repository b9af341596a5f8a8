-- Invariant: the first k blocks are widened, and b is as it was from there on. What falls: the blocks left.
-- In place: a block is made of places from its own start on, which no earlier block has changed.
use Rattle.windows.specs.Steps.Widened.{widen_by, widened_by}
use lib.Dec.{eqb}
use lib.ListN.{length}
use Prim.Native.Nat.{◌≤◌}
use mathlib.Core.Path.{◌≡◌}
use Rattle.windows.proofs.widen.Given as goal

abbrev pub invariant-loop-k : goal.invariant-loop-k
invariant-loop-k g l =
    (l.k ≤ l.n) × (length l.b ≡ length l.initial.b)
    × (l.b ≡ widened_by (widen_by l.grows (eqb g.row.M 4)) l.k l.initial.b)
