-- Invariant: the first k blocks are joined, and t is as it was from there on. What falls: the blocks left.
-- Each block is read before it is written.
use Rattle.weighblocks.proofs.Blocks.{row_at}
use Rattle.blocks.specs.Steps.Laid.{laid}
use lib.ListN.{length}
use Prim.Native.Nat.{◌*◌, ◌≤◌}
use mathlib.Core.Path.{◌≡◌}
use Rattle.weighblocks.proofs.join_blocks.Given as goal

abbrev pub invariant-loop-k : goal.invariant-loop-k
invariant-loop-k l =
    (l.k ≤ l.n) × (length l.t ≡ length l.initial.t)
    × (l.t ≡ laid 0 (64 * l.k) (row_at l.grows l.b l.rising l.others l.initial.t) l.initial.t)
