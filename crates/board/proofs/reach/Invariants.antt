-- Invariant: from the words and the origins so far, the links from link i on lead to the whole board.
-- What falls: the links that are left. Origins of small links sum to little, so that no sum wraps.
use Prim.Native.Nat.{◌-◌, ◌≤◌}
use lib.ListN.{take}
use Rattle.reach.proofs.Loops.{Rest}
use Rattle.board.proofs.reach.Given as goal

abbrev pub invariant-loop-i : goal.invariant-loop-i
invariant-loop-i l = (l.i ≤ l.k) × Rest l.m (take l.k l.links) l.words l.column l.row l.i
