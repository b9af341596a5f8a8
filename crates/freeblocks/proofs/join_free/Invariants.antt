-- Invariant: the first k pairs of blocks are joined, and t is as it was from there on. What falls: the rest.
-- A pair that shows no end is what it would be with the ends held: `free_any`.
use Rattle.weighblocks.proofs.Blocks.{row_at}
use Rattle.blocks.specs.Steps.Laid.{laid}
use lib.ListN.{length}
use Prim.Native.Nat.{◌*◌, ◌≤◌}
use mathlib.Core.Path.{◌≡◌}
use Rattle.freeblocks.proofs.join_free.Given as goal

abbrev pub invariant-loop-k : goal.invariant-loop-k
invariant-loop-k l =
    (l.k ≤ l.n) × (length l.t ≡ length l.initial.t)
    × (l.t ≡ laid 0 (128 * l.k) (row_at l.grows l.b l.rising l.others l.initial.t) l.initial.t)
