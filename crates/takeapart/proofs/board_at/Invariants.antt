-- Invariant: the first i links are taken out.
-- What falls: the links that are left.
use Prim.Native.Nat.{◌-◌, ◌≤◌}
use mathlib.Core.Path.{◌≡◌}
use Rattle.takeapart.specs.Walk.{board_at}
use Rattle.takeapart.proofs.board_at.Given as goal

abbrev pub invariant-loop-i : goal.invariant-loop-i
invariant-loop-i l = (l.i ≤ l.fn.w.depth) × (l.at ≡ board_at l.initial.at l.fn.w l.i)
