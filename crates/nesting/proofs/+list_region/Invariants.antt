-- It calls itself; what falls is the number of regions not yet listed. Invariant of its loop:
-- what the first k regions add, where they lie in this one, is in the list after its own line.
use Prim.Native.Nat.{◌+◌, ◌-◌, ◌*◌, ◌≤◌}
use mathlib.Core.Path.{◌≡◌}
use lib.ListN.{length}
use Rattle.nesting.specs.Steps.Written.{put}
use Rattle.nesting.proofs.Children.{orders, lines}
use Rattle.nesting.proofs.+list_region.Given as goal

abbrev pub decreases-list_region : goal.decreases-list_region
decreases-list_region l = length l.inner.now + 1 - l.m

abbrev pub invariant-loop-k : goal.invariant-loop-k
invariant-loop-k l =
    (l.k ≤ length l.inner) × (length l.list ≡ length l.initial.list)
    × (l.next ≡ l.m + 1 + length (orders l.labels l.inner l.w l.n l.r l.d l.k))
    × (l.list ≡ put l.initial.list (2 * (l.m + 1)) (lines l.labels l.inner l.w l.n l.r l.d l.k))
