-- Invariant: the first k blocks of windows are made, and what is read is as it was.
-- Nothing is read where something is written.
use Rattle.rooms.specs.Steps.Lanes.{widened_to}
use lib.ListN.{length}
use Prim.Native.Nat.{◌*◌, min}
use mathlib.Core.Path.{◌≡◌}
use Rattle.rooms.proofs.widen.Given as goal

abbrev pub invariant-loop-k : goal.invariant-loop-k
invariant-loop-k g l =
    (length l.b ≡ length l.initial.b)
    × (l.b ≡ widened_to g.L.Lane.way l.grows l.from l.to (min (64 * l.k) l.n) l.d l.e l.f l.initial.b)
