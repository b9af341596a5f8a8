-- Invariant: i bytes of the block are joined, the others as they came. What falls: the bytes left.
-- Each byte is joined with the eight points that begin d points past the byte beside it.
use Prim.Native.Nat.{◌+◌, ◌≤◌}
use Rattle.blocks.specs.Steps.Points.{eight_from}
use Rattle.blocks.specs.Steps.Joins.{join_packed}
use Rattle.blocks.specs.Steps.Laid.{laid}
use lib.ListN.{length, get_or}
use mathlib.Core.Path.{◌≡◌}
use Rattle.blocks.proofs.join_bits.Given as goal

abbrev pub invariant-loop-i : goal.invariant-loop-i
invariant-loop-i l =
    (l.i ≤ 64) × (length l.c ≡ 64) × (length l.initial.c ≡ 64)
    × (l.c ≡ laid 0 l.i (λ i. join_packed l.grows (get_or l.initial.c i 0) (eight_from l.b (l.at + i) l.d))
    l.initial.c)
