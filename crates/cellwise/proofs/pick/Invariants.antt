-- Invariant: of the first j places those that column x sees are kept. What falls: the places left.
-- They are no more than the places seen so far.
use Rattle.cellwise.specs.Steps.Spots.{Picked}
use Prim.Native.Nat.{◌-◌, ◌≤◌}
use lib.ListN.{length}
use Rattle.cellwise.proofs.pick.Given as goal

abbrev pub invariant-loop-j : goal.invariant-loop-j
invariant-loop-j l = (l.j ≤ length l.at) × Picked l.w l.back l.x l.at l.j l.n l.into
