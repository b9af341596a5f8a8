-- Invariant: the point is united with its first k mates.
-- What falls: the mates that are left. A mate is no later than the point, so that there is a place for it.
use Rattle.regions.specs.Steps.Union.{mates_united}
use Rattle.regions.specs.Regions.{point_of}
use lib.ListN.{length}
use mathlib.Core.Path.{◌≡◌}
use Prim.Native.Nat.{◌≤◌}
use Rattle.labels.proofs.unite_point.Given as goal

abbrev pub invariant-loop-k : goal.invariant-loop-k
invariant-loop-k l =
    (l.k ≤ 5) × (length l.up ≡ length l.initial.up)
    × (l.up ≡ mates_united (point_of l.s l.w) l.w l.h l.i l.initial.up l.k)
