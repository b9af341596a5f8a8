-- Invariant: w is the least of 255 and how far the first i values are. What falls: the values left.
-- One value more is `least_more`.
use Prim.Native.Nat.{◌≤◌}
use mathlib.Core.Path.{◌≡◌}
use Rattle.freeblocks.specs.Steps.Plain.{least_of}
use Rattle.freeblocks.proofs.least_in.Given as goal

abbrev pub invariant-loop-i : goal.invariant-loop-i
invariant-loop-i l = (l.i ≤ l.n) × (l.w ≡ least_of l.grows l.t l.i)
