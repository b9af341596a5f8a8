-- Invariant: the two buffers hold what they hold after i links, and are as long as they were.
-- What falls: the links that are left.
use Prim.Native.Nat.{◌≤◌}
use Rattle.chained.proofs.Buffers.{After}
use Rattle.chained.proofs.each_link.Given as goal

abbrev pub invariant-loop-i : goal.invariant-loop-i
invariant-loop-i l =
    (l.i ≤ l.links)
    × After l.grows l.depth l.w l.h l.source l.all l.initial.first l.initial.second l.first l.second l.i
