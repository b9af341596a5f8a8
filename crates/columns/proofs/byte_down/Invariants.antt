-- Invariant: the byte is joined of the first v rows. What falls: the rows left.
-- Each row lies in the source, whose bytes are at least as many as the rows.
use Rattle.columns.specs.Steps.Down.{down_at}
use Prim.Native.Nat.{◌≤◌}
use mathlib.Core.Path.{◌≡◌}
use Rattle.columns.proofs.byte_down.Given as goal

abbrev pub invariant-loop-v : goal.invariant-loop-v
invariant-loop-v l = (l.v ≤ l.count) × (l.c ≡ down_at l.packed l.grows l.s l.n l.lo l.v l.i)
