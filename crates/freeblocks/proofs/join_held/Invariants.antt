-- Invariant: the blocks from `from` to k are joined, and t is as it was elsewhere. What falls: the rest.
-- Each block is read before it is written.
use Rattle.freeblocks.proofs.Blocks.{later}
use Rattle.blocks.specs.Steps.Laid.{laid}
use lib.ListN.{length}
use Prim.Native.Nat.{◌-◌, ◌*◌, ◌≤◌}
use mathlib.Core.Path.{◌≡◌}
use Rattle.freeblocks.proofs.join_held.Given as goal

abbrev pub invariant-loop-k : goal.invariant-loop-k
invariant-loop-k l =
    (l.from ≤ l.k) × (l.k ≤ l.n) × (length l.t ≡ length l.initial.t)
    × (l.t ≡ laid (64 * l.from) (64 * l.k - 64 * l.from)
    (later l.grows l.b l.rising l.others l.initial.t l.from) l.initial.t)
