-- Invariant: where the steps that are left lead from w is where all lead from the start.
-- What falls: the steps that are left.
use Prim.Native.Nat.{◌-◌, ◌≤◌}
use mathlib.Core.Path.{◌≡◌}
use Rattle.takeapart.specs.Walk.{walk_from, unwalked}
use Rattle.takeapart.proofs.walk.Given as goal

abbrev pub invariant-loop-n : goal.invariant-loop-n
invariant-loop-n l = (l.n ≤ 64) × (walk_from l.b unwalked 64 ≡ walk_from l.b l.w (64 - l.n))
