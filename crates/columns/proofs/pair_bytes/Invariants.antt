-- Invariant: the first j bytes of both rows are made, the rest is as it was. What falls: the bytes left.
-- As `pair_blocks`, byte by byte.
use Rattle.columns.specs.Steps.Down.{also_at}
use Rattle.blocks.specs.Steps.Laid.{laid}
use lib.ListN.{length}
use Prim.Native.Nat.{◌≤◌}
use mathlib.Core.Path.{◌≡◌}
use Rattle.columns.proofs.pair_bytes.Given as goal

abbrev pub invariant-loop-j : goal.invariant-loop-j
invariant-loop-j l =
    (l.j ≤ length l.initial.y) × (length l.y ≡ length l.initial.y)
    × (length l.z ≡ length l.initial.z)
    × (l.y ≡ laid 0 l.j (also_at l.packed l.grows l.s (length l.initial.y) l.lo l.count l.first) l.initial.y)
    × (l.z ≡ laid 0 l.j (also_at l.packed l.grows l.s (length l.initial.y) l.lo l.count l.last) l.initial.z)
