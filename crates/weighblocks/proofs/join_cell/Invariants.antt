-- Invariant: i bytes of the block are joined, the others as they came. What falls: the bytes left.
-- What a turn reads of the block it has not written yet.
use Prim.Native.Nat.{◌+◌, ◌≤◌}
use Rattle.blocks.specs.Steps.Laid.{laid}
use Rattle.rows.specs.Steps.Fold.{join_by}
use Rattle.weighblocks.specs.Steps.Lift.{lift_by}
use lib.ListN.{length, get_or}
use mathlib.Core.Path.{◌≡◌}
use Rattle.weighblocks.proofs.join_cell.Given as goal

abbrev pub invariant-loop-i : goal.invariant-loop-i
invariant-loop-i l =
    (l.i ≤ 64) × (length l.c ≡ 64) × (length l.initial.c ≡ 64)
    × (l.c ≡ laid 0 l.i
    (λ i. join_by l.grows (get_or l.initial.c i 0) (lift_by l.grows l.rises l.g (get_or l.b (l.at + i) 0)))
    l.initial.c)
