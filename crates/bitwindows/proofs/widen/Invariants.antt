-- Invariant: the first j blocks are widened, and b is as it was from there on. What falls: the blocks left.
-- In place: a block is made of places from its own start on, which no earlier block has changed.
use Rattle.windows.specs.Steps.Widened.{widen_by}
use Rattle.windows.specs.Steps.Widened.{widened_by}
use lib.ListN.{length}
use Prim.Native.Nat.{◌≤◌}
use mathlib.Core.Path.{◌≡◌}
use Rattle.bitwindows.proofs.widen.Given as goal

abbrev pub invariant-loop-j : goal.invariant-loop-j
invariant-loop-j l =
    (l.j ≤ l.k) × (length l.b ≡ length l.initial.b)
    × (l.b ≡ widened_by (widen_by l.grows l.again) l.j l.initial.b)
