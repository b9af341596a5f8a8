-- Invariant: no size among the first j cells is above g. What falls: the cells left.
-- The greater of the two is above neither: `under_more`.
use Prim.Native.Nat.{ℕ, ◌%◌, ◌≤◌, ◌<◌}
use lib.ListN.{length, get_or}
use Rattle.freeblocks.proofs.most_of.Given as goal

abbrev pub invariant-loop-k : goal.invariant-loop-k
invariant-loop-k l = (l.k-index ≤ length l.fn.cells)
    × ((i : ℕ) → i < l.k-index → get_or l.fn.cells i 0 % 256 ≤ l.g)
