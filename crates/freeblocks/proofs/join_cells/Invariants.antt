-- Invariant: the two blocks are joined with what the first j cells find. What falls: the cells left.
-- Each place is read as far as the blocks go, and there is room for it.
use Rattle.freeblocks.proofs.Blocks.{cells_at}
use lib.ListN.{length}
use Prim.Native.Nat.{◌≤◌}
use mathlib.Core.Path.{◌≡◌}
use Rattle.freeblocks.proofs.join_cells.Given as goal

abbrev pub invariant-loop-k : goal.invariant-loop-k
invariant-loop-k l =
    (l.k-index ≤ length l.fn.cells) × (length l.acc ≡ 128)
    × (l.acc ≡ cells_at l.grows l.up l.initial.acc l.b l.i l.fn.cells l.k-index)
