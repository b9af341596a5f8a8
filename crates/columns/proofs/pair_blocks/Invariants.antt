-- Invariant: the first k blocks of both rows are made, the rest is as it was. What falls: the blocks left.
-- Each block is what both rows see, and then the row that one alone sees; what lies over another is the same.
use Rattle.columns.specs.Steps.Down.{also_at}
use Rattle.blocks.specs.Steps.Laid.{laid}
use lib.ListN.{length}
use Prim.Native.Nat.{◌*◌, min}
use mathlib.Core.Path.{◌≡◌}
use Rattle.columns.proofs.pair_blocks.Given as goal

abbrev pub invariant-loop-k : goal.invariant-loop-k
invariant-loop-k l =
    (length l.y ≡ length l.initial.y) × (length l.z ≡ length l.initial.z)
    × (l.y ≡ laid 0 (min (64 * l.k) (length l.initial.y))
    (also_at l.packed l.grows l.s (length l.initial.y) l.lo l.count l.first) l.initial.y)
    × (l.z ≡ laid 0 (min (64 * l.k) (length l.initial.y))
    (also_at l.packed l.grows l.s (length l.initial.y) l.lo l.count l.last) l.initial.z)
