-- Invariant: no more ends were seen than columns passed, so that no sum wraps. What falls: the columns left.
-- Nothing is promised of what it gives: either way of joining makes the same of a row.
use Prim.Native.Nat.{◌+◌, ◌-◌, ◌≤◌}
use lib.ListN.{length}
use Rattle.byheight.proofs.few_ends.Given as goal

abbrev pub invariant-loop-i : goal.invariant-loop-i
invariant-loop-i l = (l.n ≤ l.i) × (l.i ≤ length l.s + 32)

abbrev pub decreases-loop-i : goal.decreases-loop-i
decreases-loop-i l = length l.s + 32 - l.i
