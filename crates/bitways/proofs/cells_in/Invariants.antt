-- Invariant: n counts the cells of the first r words, at most 64 each. What falls: the words left.
-- How many they are only chooses the way, so that no more is promised.
use Prim.Native.Nat.{◌-◌, ◌*◌, ◌≤◌}
use Rattle.bitways.proofs.cells_in.Given as goal

abbrev pub invariant-loop-r : goal.invariant-loop-r
invariant-loop-r l = (l.r ≤ l.h) × (l.n ≤ 64 * l.r)
