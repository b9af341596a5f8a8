-- Invariant: the first i bytes are t's, the others as they were. What falls: the bytes left.
-- At the end there is no other.
use Rattle.blocks.specs.Steps.Laid.{laid}
use lib.ListN.{length, get_or}
use Prim.Native.Nat.{◌+◌, ◌-◌, ◌≤◌}
use mathlib.Core.Path.{◌≡◌}
use Rattle.boxrow.proofs.copy_from.Given as goal

abbrev pub invariant-loop-i : goal.invariant-loop-i
invariant-loop-i l =
    (l.i ≤ length l.initial.row) × (length l.row ≡ length l.initial.row)
    × (l.row ≡ laid 0 l.i (λ i. get_or l.t
    (l.at + i) 0) l.initial.row)
