-- Invariant: none of the first i values is nearer to the end than w. What falls: the values left.
-- The lesser of the two is no further than either: `over_more`.
use Prim.Native.Nat.{ℕ, ◌≤◌, ◌<◌}
use lib.ListN.{get_or}
use Rattle.freeblocks.specs.Steps.Plain.{turned_by}
use Rattle.freeblocks.proofs.least_of.Given as goal

abbrev pub invariant-loop-i : goal.invariant-loop-i
invariant-loop-i l = (l.i ≤ 128) × ((m : ℕ) → m < l.i → l.w ≤ turned_by l.grows (get_or l.c m 0))
