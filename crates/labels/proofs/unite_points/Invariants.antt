-- Invariant: the first i points are united with their mates.
-- What falls: the points that are left.
use Rattle.regions.specs.Steps.Union.{united_to}
use Rattle.regions.specs.Regions.{point_of}
use lib.ListN.{length}
use mathlib.Core.Path.{◌≡◌}
use Prim.Native.Nat.{◌≤◌}
use Rattle.labels.proofs.unite_points.Given as goal

abbrev pub invariant-loop-i : goal.invariant-loop-i
invariant-loop-i l =
    (l.i ≤ l.n) × (length l.up ≡ length l.initial.up)
    × (l.up ≡ united_to (point_of l.s l.w) l.w l.h l.initial.up l.i)
