-- Invariant: the first k blocks are joined, and t is as it was from there on.
-- What the last block joins once more stays: `all_again`.
use Rattle.rooms.proofs.Row.{row_at}
use Rattle.rooms.proofs.Lanes.{joined_all}
use Rattle.blocks.specs.Steps.Laid.{laid}
use lib.ListN.{length}
use Prim.Native.Nat.{◌*◌, min}
use mathlib.Core.Path.{◌≡◌}
use Rattle.rooms.proofs.join_blocks.Given as goal

abbrev pub invariant-loop-k : goal.invariant-loop-k
invariant-loop-k g l =
    (length l.t ≡ length l.initial.t)
    × (l.t ≡ laid 0 (min (64 * l.k) (length l.initial.t))
    (row_at (joined_all g.L.Lane.way l.grows l.b l.at) l.initial.t)
    l.initial.t)
