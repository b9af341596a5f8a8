-- Invariant: the block is joined of the first v rows. What falls: the rows left.
-- Each row lies in the source, whose bytes are at least as many as the rows.
use Rattle.columns.specs.Steps.Down.{down_at}
use Rattle.basics.specs.Lists.{firsts}
use lib.ListN.{length}
use Prim.Native.Nat.{◌+◌, ◌≤◌}
use mathlib.Core.Path.{◌≡◌}
use Rattle.columns.proofs.down_short.Given as goal

abbrev pub invariant-loop-v : goal.invariant-loop-v
invariant-loop-v l =
    (l.v ≤ l.count) × (length l.c ≡ 64) × (l.c ≡ firsts (λ m. down_at
    l.packed l.grows l.s l.n l.lo l.v (0 + m)) 64)
